use Rattle.label_table.proofs.Laws.Labels.{searching}
use Rattle.label_table.proofs.labels.label_from.Goals as goal

pub returns-then-name_is : goal.returns-then-name_is
returns-then-name_is c = search searching

pub loop-kid-smaller : goal.loop-kid-smaller
loop-kid-smaller c = search searching

pub loop-kid-preserved : goal.loop-kid-preserved
loop-kid-preserved c = search searching

pub returns-in-None : goal.returns-in-None
returns-in-None c = search searching
