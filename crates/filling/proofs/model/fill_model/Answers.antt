use Rattle.table.proofs.Laws.Model.{fillingModel, fill_voxels_can}
use Rattle.filling.proofs.model.fill_model.Goals as goal

pub fill_voxels-requires : goal.fill_voxels-requires
fill_voxels-requires c =
    fill_voxels_can c.requires c.list_start.ensures c.in-Some.is c.if-kind-ge32.true

pub returns-then-kind-ge32 : goal.returns-then-kind-ge32
returns-then-kind-ge32 c = search fillingModel

pub fill_vertices-requires : goal.fill_vertices-requires
fill_vertices-requires c = search fillingModel

pub returns-else-kind-ge32 : goal.returns-else-kind-ge32
returns-else-kind-ge32 c = search fillingModel

pub returns-in-None : goal.returns-in-None
returns-in-None c = search fillingModel

pub list_start-requires : goal.list_start-requires
list_start-requires c = search fillingModel

pub enum_known-start : goal.enum_known-start
enum_known-start c = search fillingModel

pub shape_of-out-then-kind-ge32 : goal.shape_of-out-then-kind-ge32
shape_of-out-then-kind-ge32 c = search fillingModel

pub enum_told-1 : goal.enum_told-1
enum_told-1 c = search fillingModel

pub shape_of-out : goal.shape_of-out
shape_of-out c = search fillingModel
