use borrow.Author.Rules.{rules}
use Rattle.steps.proofs.Laws.Steps.{gap_none, gap_other, gap_some}
use Rattle.letters.proofs.blanks.gap_end.Goals as goal

pub returns-in_err-get : goal.returns-in_err-get
returns-in_err-get c = rw c.from_residual.ensures (search (gap_none, rules))

pub returns-then-not-is_blank : goal.returns-then-not-is_blank
returns-then-not-is_blank c = search (gap_other, rules)

pub returns : goal.returns
returns c = search (gap_some, rules)
