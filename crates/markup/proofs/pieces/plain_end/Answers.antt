use Rattle.steps.proofs.Laws.Steps.{span_all}
use Rattle.steps.proofs.Laws.Blocks.{near_spanning}
use Rattle.markup.proofs.pieces.plain_end.Goals as goal

pub returns-then-text-i : goal.returns-then-text-i
returns-then-text-i c = search (near_spanning, span_all)

pub returns-then-not-is_plain : goal.returns-then-not-is_plain
returns-then-not-is_plain c = search near_spanning

pub loop-preserved : goal.loop-preserved
loop-preserved c = search near_spanning
