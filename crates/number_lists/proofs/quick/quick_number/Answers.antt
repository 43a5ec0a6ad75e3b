use borrow.Author.Rules.{rules}
use Rattle.numbers.proofs.Laws.Quick.{quickly_told}
use Rattle.number_lists.proofs.quick.quick_number.Goals as goal

pub returns : goal.returns
returns c = search (quickly_told, rules)
