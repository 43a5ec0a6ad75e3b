use Rattle.std.proofs.Common.{sym, ◌∙◌}
use Rattle.steps.proofs.Laws.Pieces.{fronts, front_start}
use Rattle.markup.proofs.pieces.front_at.Goals as goal

pub returns-in_default : goal.returns-in_default
returns-in_default c = search fronts

pub returns-then-a-ne60 : goal.returns-then-a-ne60
returns-then-a-ne60 c = search fronts

pub returns-in-Some-eq47 : goal.returns-in-Some-eq47
returns-in-Some-eq47 c = search fronts

pub returns-in-Some-eq33 : goal.returns-in-Some-eq33
returns-in-Some-eq33 c = search fronts

pub returns-in-Some-get : goal.returns-in-Some-get
returns-in-Some-get c =
    let first = c.in-Some.ensures.lookup.3 in
    let next = c.in-Some-get.ensures.lookup.3 in
    front_start _ _ first.0 (sym (first.1 0) ∙ c.if-a-ne60.false) next.0 (λ e. c.in-Some-get.field-0-test.0.1 (next.1 0 ∙ e))
    (λ e. c.in-Some-get.field-0-test.1 (next.1 0 ∙ e))

pub returns-in-None : goal.returns-in-None
returns-in-None c = search fronts
