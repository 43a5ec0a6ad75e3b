use Rattle.std.proofs.lemmas.Bool.{not_from_true, not_from_false}
use Rattle.steps.specs.Pieces.{plain}
use Rattle.steps.proofs.Laws.Steps.{span_more, span_stops}
use Rattle.steps.proofs.Laws.Blocks.{far_spanning}
use Rattle.markup.proofs.pieces.far_plain_end.Goals as goal

pub loop-i-init : goal.loop-i-init
loop-i-init c = search far_spanning

pub returns-then-not-is_plain : goal.returns-then-not-is_plain
returns-then-not-is_plain c = span_stops plain c.args.text.now c.args.at c.loop-i.i c.loop-i.invariant
    c.loop-i-test.true c.is_plain.ensures (not_from_false _ c.if-not-is_plain.true)

pub loop-i-preserved : goal.loop-i-preserved
loop-i-preserved c = span_more plain c.args.text.now c.args.at c.loop-i.i c.loop-i.invariant
    c.loop-i-test.true c.is_plain.ensures (not_from_true _ c.if-not-is_plain.false)

pub returns : goal.returns
returns c = search far_spanning
