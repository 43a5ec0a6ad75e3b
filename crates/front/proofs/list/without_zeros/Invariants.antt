use Rattle.std.specs.Prelude.{◌≡◌, length}
use Rattle.nifti.specs.Extensions.{without_zeros}
use Rattle.front.proofs.list.without_zeros.Given as goal

abbrev pub invariant-loop-kept : goal.invariant-loop-kept
invariant-loop-kept l = without_zeros l.kept ≡ without_zeros l.bytes

abbrev pub decreases-loop-kept : goal.decreases-loop-kept
decreases-loop-kept l = length l.kept
