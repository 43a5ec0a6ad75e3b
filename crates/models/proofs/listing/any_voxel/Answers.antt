use Rattle.models.proofs.Laws.Numbers.{inThrees}
use Rattle.models.proofs.listing.any_voxel.Goals as goal

pub returns-in-Number-next_number-2 : goal.returns-in-Number-next_number-2
returns-in-Number-next_number-2 c = search inThrees

pub returns-in-End-next_number-2 : goal.returns-in-End-next_number-2
returns-in-End-next_number-2 c = search inThrees

pub returns-in-Bad-next_number-2 : goal.returns-in-Bad-next_number-2
returns-in-Bad-next_number-2 c = search inThrees

pub returns-in-End-next_number : goal.returns-in-End-next_number
returns-in-End-next_number c = search inThrees

pub returns-in-Bad-next_number : goal.returns-in-Bad-next_number
returns-in-Bad-next_number c = search inThrees

pub returns-in-End : goal.returns-in-End
returns-in-End c = search inThrees

pub returns-in-Bad : goal.returns-in-Bad
returns-in-Bad c = search inThrees
