use Rattle.nodes.proofs.Laws.Ahead.{leading}
use Rattle.elements.proofs.ahead.tag_ahead.Goals as goal

pub loop-j-init : goal.loop-j-init
loop-j-init c = search leading

pub returns-in-Start : goal.returns-in-Start
returns-in-Start c = search leading

pub loop-j-smaller-in-Some : goal.loop-j-smaller-in-Some
loop-j-smaller-in-Some c = search leading

pub loop-j-preserved-in-Some : goal.loop-j-preserved-in-Some
loop-j-preserved-in-Some c = search leading

pub returns-in-None : goal.returns-in-None
returns-in-None c = search leading

pub loop-j-smaller : goal.loop-j-smaller
loop-j-smaller c = search leading

pub loop-j-preserved : goal.loop-j-preserved
loop-j-preserved c = search leading

pub returns-in-None-gap_data_end : goal.returns-in-None-gap_data_end
returns-in-None-gap_data_end c = search leading

pub returns-in-Close : goal.returns-in-Close
returns-in-Close c = search leading

pub returns-in-Text : goal.returns-in-Text
returns-in-Text c = search leading
