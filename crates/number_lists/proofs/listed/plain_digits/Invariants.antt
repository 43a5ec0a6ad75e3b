use Rattle.std.proofs.Common.{◌≤◌, max}
use Rattle.number_lists.proofs.Laws.Within.{Reading}
use Rattle.number_lists.proofs.listed.plain_digits.Given as goal

abbrev pub invariant-loop-i : goal.invariant-loop-i
invariant-loop-i l = record { reads : Reading l.text l.at l.stop l.n l.i; near : l.i ≤ max l.at l.stop }
