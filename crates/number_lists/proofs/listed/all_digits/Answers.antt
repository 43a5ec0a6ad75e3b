use Rattle.numbers.proofs.Laws.Next.{Going_on}
use Rattle.number_lists.proofs.listed.all_digits.Goals as goal

pub digits-more-requires : goal.digits-more-requires
digits-more-requires c = search Going_on

pub overflow_add-result : goal.overflow_add-result
overflow_add-result c = search Going_on

pub returns : goal.returns
returns c = search Going_on
