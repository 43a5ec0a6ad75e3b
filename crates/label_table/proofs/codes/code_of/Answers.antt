use Rattle.label_table.proofs.Laws.Codes.{coding}
use Rattle.label_table.proofs.codes.code_of.Goals as goal

pub returns : goal.returns
returns c = search coding
