use Rattle.nodes.proofs.Laws.Texts.{lettering, letter_reference, letter_ampersand, letter_return, letter_plain}
use Rattle.inside.proofs.texts.letter_at.Goals as goal

pub returns-then-text-at : goal.returns-then-text-at
returns-then-text-at c = search lettering

pub returns-in-Some : goal.returns-in-Some
returns-in-Some c = letter_reference _ _ c.if-text-at.false c.reference_at.ensures c.in-Some.is

pub returns-in-None : goal.returns-in-None
returns-in-None c = letter_ampersand _ _ c.if-text-at.false c.if-b-eq38.true c.reference_at.ensures c.in-None.is

pub returns-then-b-eq13 : goal.returns-then-b-eq13
returns-then-b-eq13 c = letter_return _ _ c.if-text-at.false c.if-b-eq13.true c.feed_end.ensures

pub returns : goal.returns
returns c = letter_plain _ _ c.if-text-at.false c.if-b-eq38.false c.if-b-eq13.false
