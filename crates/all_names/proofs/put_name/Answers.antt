use Rattle.all_names.proofs.Laws.Walk.{putting}
use Rattle.all_names.proofs.put_name.Goals as goal

pub returns-in-Some : goal.returns-in-Some
returns-in-Some c = search putting

pub returns-in-None : goal.returns-in-None
returns-in-None c = search putting
