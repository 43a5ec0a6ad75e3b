use Rattle.maps.proofs.Laws.Sums.{measuring}
use Rattle.noting.proofs.sums.map_measure.Goals as goal

pub returns-then-is_series : goal.returns-then-is_series
returns-then-is_series c = search (c.attribute_number.ensures, measuring)

pub returns : goal.returns
returns c = search measuring

pub is_series-requires : goal.is_series-requires
is_series-requires c = search measuring

pub attribute_number-requires : goal.attribute_number-requires
attribute_number-requires c = search measuring

pub place_behind-requires : goal.place_behind-requires
place_behind-requires c = search measuring

pub children_sum-requires : goal.children_sum-requires
children_sum-requires c = search measuring
