use Rattle.file_reader.proofs.Laws.Reading.{naming_file}
use Rattle.file_reader.proofs.names.moved.Goals as goal

pub returns-then-number-ne0 : goal.returns-then-number-ne0
returns-then-number-ne0 c = search (naming_file)

pub returns : goal.returns
returns c = search (naming_file)
