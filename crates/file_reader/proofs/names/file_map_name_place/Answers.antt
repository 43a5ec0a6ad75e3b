use native.Mathlib.Omega.{arith}
use Rattle.nifti.proofs.Laws.Front.{part_inside}
use Rattle.file_reader.proofs.Laws.Reading.{naming_file}
use Rattle.file_reader.proofs.names.file_map_name_place.Goals as goal

pub returns-then-number-ne0 : goal.returns-then-number-ne0
returns-then-number-ne0 c = search (naming_file)

pub overflow_add-to : goal.overflow_add-to
overflow_add-to c = let h = part_inside c.front-said.ensures in omega arith

pub slice_bounds-place_so-end : goal.slice_bounds-place_so-end
slice_bounds-place_so-end c = search (naming_file)

pub place_so-name-requires : goal.place_so-name-requires
place_so-name-requires c = search (naming_file)

pub returns : goal.returns
returns c = search (naming_file)

pub front-said-requires : goal.front-said-requires
front-said-requires c = search (naming_file)

pub handed_on-lengths-requires : goal.handed_on-lengths-requires
handed_on-lengths-requires c = search (naming_file)

pub slice_bounds-place_so-count : goal.slice_bounds-place_so-count
slice_bounds-place_so-count c = search (naming_file)

pub slice_bounds-place_so-start : goal.slice_bounds-place_so-start
slice_bounds-place_so-start c = search (naming_file)

pub slice_bounds-place_so-end-2 : goal.slice_bounds-place_so-end-2
slice_bounds-place_so-end-2 c = search (naming_file)

pub moved-requires : goal.moved-requires
moved-requires c = search (naming_file)
