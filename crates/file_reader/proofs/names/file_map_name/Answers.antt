use native.Mathlib.Omega.{arith}
use Rattle.file_reader.proofs.Laws.Reading.{naming_file, name_inside}
use Rattle.file_reader.proofs.names.file_map_name.Goals as goal

pub overflow_add-to : goal.overflow_add-to
overflow_add-to c = let h = name_inside c.file_map_name_place-said.ensures in omega arith

pub slice_bounds-result-end : goal.slice_bounds-result-end
slice_bounds-result-end c = search (naming_file)

pub returns : goal.returns
returns c = search (naming_file)

pub file_map_name_place-said-requires : goal.file_map_name_place-said-requires
file_map_name_place-said-requires c = search (naming_file)

pub slice_bounds-result-count : goal.slice_bounds-result-count
slice_bounds-result-count c = search (naming_file)

pub slice_bounds-result-start : goal.slice_bounds-result-start
slice_bounds-result-start c = search (naming_file)
