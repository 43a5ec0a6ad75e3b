use Rattle.steps.proofs.Laws.Steps.{Spanning}
use Rattle.grammar.specs.Bytes.{name_byte}
use Rattle.letters.proofs.names.name_bytes_end.Given as goal

abbrev pub invariant-loop-i : goal.invariant-loop-i
invariant-loop-i l = Spanning name_byte l.text l.at l.i
