use Rattle.std.proofs.Common.{◌≢◌, length, ◌-◌, ◌≤◌, take, All}
use Rattle.std.specs.Io.KnownBytes.{Consumes}
use Rattle.input.proofs.line.read_line.Given as goal

abbrev pub invariant-loop-n : goal.invariant-loop-n
invariant-loop-n g l = record {
  within : l.n ≤ length l.line;
  so_far : Consumes (g.R.Read.remaining l.initial.from) (g.R.Read.remaining l.from) (take l.n l.line);
  no_feed : All (λ x. x ≢ 10) (take l.n l.line);
}

abbrev pub decreases-loop-n : goal.decreases-loop-n
decreases-loop-n g l = length l.initial.line - l.n
