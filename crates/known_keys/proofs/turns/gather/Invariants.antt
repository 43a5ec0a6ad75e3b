use Rattle.known_keys.proofs.Laws.Turns.{Gathering}
use Rattle.known_keys.proofs.turns.gather.Given as goal

abbrev pub invariant-loop-n : goal.invariant-loop-n
invariant-loop-n l = Gathering l.text l.initial.kid l.initial.work l.work l.n l.kid
