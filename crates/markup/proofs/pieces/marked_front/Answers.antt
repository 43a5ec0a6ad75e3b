use Rattle.std.proofs.Common.{◌∙◌}
use Rattle.steps.proofs.Laws.Pieces.{marked_fronts, marked_other}
use Rattle.markup.proofs.pieces.marked_front.Goals as goal

pub returns-in-Some-eq91 : goal.returns-in-Some-eq91
returns-in-Some-eq91 c = search marked_fronts

pub returns-in-Some : goal.returns-in-Some
returns-in-Some c = let there = c.in-Some.ensures.lookup.3 in
    marked_other _ _ there.0 (λ e. c.in-Some.field-0-test.1 (there.1 0 ∙ e))

pub returns-in-None : goal.returns-in-None
returns-in-None c = search marked_fronts
