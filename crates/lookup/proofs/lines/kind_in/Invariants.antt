use Rattle.schema.proofs.Laws.Lines.{Choosing}
use Rattle.nodes.specs.Values.{value_there}
use Rattle.lookup.proofs.lines.kind_in.Given as goal

abbrev pub invariant-loop-i : goal.invariant-loop-i
invariant-loop-i l = Choosing l.table l.letters (value_there l.text l.v) l.from l.to l.i
