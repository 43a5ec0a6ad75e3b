use Rattle.gifti_reader.proofs.Laws.Number.{tabling}
use Rattle.gifti_reader.proofs.number.table_of.Goals as goal

pub returns-in-Some : goal.returns-in-Some
returns-in-Some c = search tabling

pub returns-in-None : goal.returns-in-None
returns-in-None c = search tabling
