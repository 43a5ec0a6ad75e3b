use Rattle.marked_lists.proofs.Laws.Listing.{overModel}
use Rattle.marked_lists.proofs.listing.marked_list.Goals as goal

pub list_start-requires : goal.list_start-requires
list_start-requires c = search overModel

pub enum_known-i : goal.enum_known-i
enum_known-i c = search overModel

pub marked_voxels-requires : goal.marked_voxels-requires
marked_voxels-requires c = search overModel

pub shape_of-work-then-kind-ge32 : goal.shape_of-work-then-kind-ge32
shape_of-work-then-kind-ge32 c = search overModel

pub returns-then-kind-ge32 : goal.returns-then-kind-ge32
returns-then-kind-ge32 c = search overModel

pub attribute_number-surface-requires : goal.attribute_number-surface-requires
attribute_number-surface-requires c = search overModel

pub marked_vertices-requires : goal.marked_vertices-requires
marked_vertices-requires c = search overModel

pub enum_told-1 : goal.enum_told-1
enum_told-1 c = search overModel

pub shape_of-work : goal.shape_of-work
shape_of-work c = search overModel

pub returns-else-kind-ge32 : goal.returns-else-kind-ge32
returns-else-kind-ge32 c = search (c.attribute_number-surface.ensures, overModel)

pub returns-in-None : goal.returns-in-None
returns-in-None c = search overModel
