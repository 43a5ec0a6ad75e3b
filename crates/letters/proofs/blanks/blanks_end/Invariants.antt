use Rattle.steps.proofs.Laws.Steps.{Spanning}
use Rattle.grammar.specs.Bytes.{blank}
use Rattle.letters.proofs.blanks.blanks_end.Given as goal

abbrev pub invariant-loop-i : goal.invariant-loop-i
invariant-loop-i l = Spanning blank l.text l.at l.i
