use Rattle.label_table.proofs.Laws.Labels.{keying}
use Rattle.label_table.proofs.labels.key_of.Goals as goal

pub returns-in-None : goal.returns-in-None
returns-in-None c = search keying

pub returns-in-Some : goal.returns-in-Some
returns-in-Some c = search keying
