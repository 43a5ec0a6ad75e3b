use mathlib.Core.Path.{refl}
use native.Mathlib.Omega.{arith}
use Rattle.nodes.proofs.Laws.Texts.{within_data, ends_inside, within_out, within_bracket, within_return, within_letter}
use Rattle.inside.proofs.texts.within_at.Goals as goal

pub returns-then-text-at : goal.returns-then-text-at
returns-then-text-at c = search within_data

pub returns-in-Some : goal.returns-in-Some
returns-in-Some c = within_out _ _ c.if-text-at.false c.if-b-eq93.true c.mark_end.ensures c.in-Some.is

pub returns-in-None : goal.returns-in-None
returns-in-None c = within_bracket _ _ c.if-text-at.false c.if-b-eq93.true c.mark_end.ensures c.in-None.is

pub overflow_add-result-then-b-eq13-2 : goal.overflow_add-result-then-b-eq13-2
overflow_add-result-then-b-eq13-2 c = omega (arith, ends_inside _ _ c.feed_end.ensures refl)

pub returns-then-b-eq13 : goal.returns-then-b-eq13
returns-then-b-eq13 c = within_return _ _ c.if-text-at.false c.if-b-eq13.true c.feed_end.ensures

pub returns : goal.returns
returns c = within_letter _ _ c.if-text-at.false c.if-b-eq93.false c.if-b-eq13.false
