use native.Mathlib.Omega.{arith}
use Rattle.nifti.proofs.Laws.Front.{part_inside}
use Rattle.file_reader.proofs.Laws.Reading.{reading_file}
use Rattle.file_reader.proofs.reading.read_file.Goals as goal

pub returns-then-number-ne0 : goal.returns-then-number-ne0
returns-then-number-ne0 c = search (reading_file)

pub overflow_add-to : goal.overflow_add-to
overflow_add-to c = let h = part_inside c.front-said.ensures in omega arith

pub slice_bounds-read_so-end : goal.slice_bounds-read_so-end
slice_bounds-read_so-end c = search (reading_file)

pub read_so-requires : goal.read_so-requires
read_so-requires c = search (reading_file)

pub returns : goal.returns
returns c = search (reading_file)

pub front-said-requires : goal.front-said-requires
front-said-requires c = search (reading_file)

pub clear-requires : goal.clear-requires
clear-requires c = search (reading_file)

pub refused-requires : goal.refused-requires
refused-requires c = search (reading_file)

pub shape_of-work-then-number-ne0 : goal.shape_of-work-then-number-ne0
shape_of-work-then-number-ne0 c = search (reading_file)

pub handed_on-lengths-requires : goal.handed_on-lengths-requires
handed_on-lengths-requires c = search (reading_file)

pub slice_bounds-read_so-count : goal.slice_bounds-read_so-count
slice_bounds-read_so-count c = search (reading_file)

pub slice_bounds-read_so-start : goal.slice_bounds-read_so-start
slice_bounds-read_so-start c = search (reading_file)

pub slice_bounds-read_so-end-2 : goal.slice_bounds-read_so-end-2
slice_bounds-read_so-end-2 c = search (reading_file)

pub shape_of-records : goal.shape_of-records
shape_of-records c = search (reading_file)

pub shape_of-work : goal.shape_of-work
shape_of-work c = search (reading_file)
