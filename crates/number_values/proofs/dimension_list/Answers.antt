use Rattle.numbers.proofs.Laws.Lists.{counting_all}
use Rattle.number_values.proofs.dimension_list.Goals as goal

pub returns : goal.returns
returns c = search counting_all

pub dimensions_between-requires : goal.dimensions_between-requires
dimensions_between-requires c = search counting_all
