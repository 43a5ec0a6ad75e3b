use Rattle.nodes.proofs.Laws.Scan.{passing}
use Rattle.elements.proofs.scan.past_tag.Goals as goal

pub loop-i-init : goal.loop-i-init
loop-i-init c = search passing

pub returns-then-text-i-eq62 : goal.returns-then-text-i-eq62
returns-then-text-i-eq62 c = search passing

pub loop-i-preserved : goal.loop-i-preserved
loop-i-preserved c = search passing

pub returns : goal.returns
returns c = search passing
