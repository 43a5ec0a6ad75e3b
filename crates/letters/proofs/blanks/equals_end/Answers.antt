use Rattle.std.proofs.Common.{◌∙◌}
use borrow.Author.Rules.{rules}
use Rattle.steps.proofs.Laws.Steps.{equals_none, equals_other, equals_some}
use Rattle.letters.proofs.blanks.equals_end.Goals as goal

pub returns-in_err-get : goal.returns-in_err-get
returns-in_err-get c = rw c.from_residual.ensures (equals_none _ _ _ c.blanks_end-i.ensures (search rules))

pub returns-then-branch-ne61 : goal.returns-then-branch-ne61
returns-then-branch-ne61 c = let there = c.in_ok-get.ensures.lookup.3 in
    equals_other _ _ _ c.blanks_end-i.ensures there.0 (λ e. c.if-branch-ne61.true (there.1 0 ∙ e))

pub returns : goal.returns
returns c = search (equals_some, rules)
