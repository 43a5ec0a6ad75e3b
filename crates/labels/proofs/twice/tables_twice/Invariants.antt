use Rattle.labels.proofs.Laws.Lent.{Lent}
use Rattle.grammar.specs.Bytes.{ascii}
use Rattle.inside.proofs.Laws.Treads.{ahead}
use Rattle.labels.specs.Twice.{named_twice}
use Rattle.labels.proofs.Laws.Twice.{Asking}
use Rattle.labels.proofs.twice.tables_twice.Given as goal

abbrev pub invariant-loop-kid : goal.invariant-loop-kid
invariant-loop-kid l = Lent (Asking l.text (ascii "NamedMap") (named_twice l.text) l.at l.kid) l.initial.work l.work

abbrev pub decreases-loop-kid : goal.decreases-loop-kid
decreases-loop-kid l = ahead l.text l.kid
