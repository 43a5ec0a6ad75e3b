use Rattle.reader.proofs.Laws.Naming.{naming_map, name_part_lem}
use Rattle.reader.proofs.names.map_name.Goals as goal

pub map_name_place-said-requires : goal.map_name_place-said-requires
map_name_place-said-requires c = search naming_map

pub overflow_add-to : goal.overflow_add-to
overflow_add-to c = search naming_map

pub slice_bounds-result-count : goal.slice_bounds-result-count
slice_bounds-result-count c = search naming_map

pub slice_bounds-result-start : goal.slice_bounds-result-start
slice_bounds-result-start c = search naming_map

pub slice_bounds-result-end : goal.slice_bounds-result-end
slice_bounds-result-end c = search naming_map

pub returns : goal.returns
returns c = name_part_lem c.map_name_place-said.ensures
