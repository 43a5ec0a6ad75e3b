use Rattle.elements.proofs.Laws.Tags.{nearing}
use Rattle.elements.proofs.scan.near_quote.Goals as goal

pub loop-k-init : goal.loop-k-init
loop-k-init c = search nearing

pub returns-then-text-at : goal.returns-then-text-at
returns-then-text-at c = search nearing

pub loop-k-preserved : goal.loop-k-preserved
loop-k-preserved c = search nearing

pub returns : goal.returns
returns c = search nearing
