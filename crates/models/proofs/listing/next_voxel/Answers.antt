use Rattle.models.proofs.Laws.Numbers.{quickThrees}
use Rattle.models.proofs.listing.next_voxel.Goals as goal

pub returns-then-third-ne0 : goal.returns-then-third-ne0
returns-then-third-ne0 c = search quickThrees

pub quick_number-first-requires : goal.quick_number-first-requires
quick_number-first-requires c = search quickThrees

pub overflow_add-two : goal.overflow_add-two
overflow_add-two c = search quickThrees

pub quick_number-second-requires : goal.quick_number-second-requires
quick_number-second-requires c = search quickThrees

pub overflow_add-three : goal.overflow_add-three
overflow_add-three c = search quickThrees

pub quick_number-third-requires : goal.quick_number-third-requires
quick_number-third-requires c = search quickThrees

pub overflow_add-behind : goal.overflow_add-behind
overflow_add-behind c = search quickThrees

pub any_voxel-requires : goal.any_voxel-requires
any_voxel-requires c = search quickThrees

pub returns : goal.returns
returns c = search quickThrees
