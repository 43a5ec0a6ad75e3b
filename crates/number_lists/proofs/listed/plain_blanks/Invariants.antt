use Rattle.std.proofs.Common.{◌≤◌, max}
use Rattle.number_lists.specs.Within.{Blanks}
use Rattle.number_lists.proofs.listed.plain_blanks.Given as goal

abbrev pub invariant-loop-i : goal.invariant-loop-i
invariant-loop-i l = record { passed : Blanks l.text l.at l.i; near : l.i ≤ max l.at l.last }
