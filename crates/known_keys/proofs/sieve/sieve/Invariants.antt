use Rattle.known_keys.proofs.Laws.Sieve.{Sieving}
use Rattle.known_keys.proofs.sieve.sieve.Given as goal

abbrev pub invariant-loop-code : goal.invariant-loop-code
invariant-loop-code l = Sieving l.codes l.initial.words l.words l.code-index
