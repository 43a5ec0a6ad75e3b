use Rattle.std.proofs.Common.{◌∙◌}
use borrow.Author.Rules.{rules}
use Rattle.steps.proofs.Laws.Steps.{mark_far, mark_all, mark_short, mark_unlike, mark_more}
use Rattle.letters.proofs.blanks.mark_end.Goals as goal

pub returns-in_err-get : goal.returns-in_err-get
returns-in_err-get c = rw c.from_residual.ensures (search (mark_short, rules))

pub returns-then-branch-b : goal.returns-then-branch-b
returns-then-branch-b c =
    let there = c.in_ok-get.ensures.lookup.3 in
    mark_unlike _ _ _ _ _ c.loop-b.invariant c.loop-b-test.true there.0 (λ e. c.if-branch-b.true (there.1 0 ∙ e))

pub loop-b-preserved : goal.loop-b-preserved
loop-b-preserved c = search (mark_more, rules)

pub returns-then-text-i : goal.returns-then-text-i
returns-then-text-i c = search (mark_far, rules)

pub returns : goal.returns
returns c = search (mark_all, rules)
