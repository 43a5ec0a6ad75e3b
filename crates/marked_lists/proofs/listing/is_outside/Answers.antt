use Rattle.std.proofs.Common.{refl}
use Rattle.cifti.specs.Conditions.{outside}
use Rattle.marked_lists.proofs.listing.is_outside.Goals as goal

pub returns : goal.returns
unfolding outside
returns c = refl
