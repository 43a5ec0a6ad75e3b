use Rattle.base64_reader.proofs.Laws.Sixteen.{lettered}
use Rattle.base64_reader.proofs.sixteen.is_letter.Goals as goal

pub returns : goal.returns
returns c = search lettered
