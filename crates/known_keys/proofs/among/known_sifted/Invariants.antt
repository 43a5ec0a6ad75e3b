use Rattle.known_keys.proofs.Laws.Among.{Counting}
use Rattle.known_keys.proofs.among.known_sifted.Given as goal

abbrev pub invariant-loop-key : goal.invariant-loop-key
invariant-loop-key l = Counting l.codes l.words l.keys l.known l.key-index
