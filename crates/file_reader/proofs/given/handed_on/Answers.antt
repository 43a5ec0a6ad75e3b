use borrow.Author.Rules.{rules}
use Rattle.file_reader.specs.Whole.{handed_on}
use Rattle.file_reader.proofs.given.handed_on.Goals as goal

pub returns : goal.returns
unfolding handed_on
returns c = search (rules)
