use Rattle.nodes.proofs.Laws.Scan.{seeking}
use Rattle.elements.proofs.scan.to_tag.Goals as goal

pub loop-i-init : goal.loop-i-init
loop-i-init c = search seeking

pub returns-then-text-i-eq60 : goal.returns-then-text-i-eq60
returns-then-text-i-eq60 c = search seeking

pub loop-i-preserved : goal.loop-i-preserved
loop-i-preserved c = search seeking

pub returns : goal.returns
returns c = search seeking
