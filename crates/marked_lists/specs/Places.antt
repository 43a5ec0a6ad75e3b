-- WHERE A LOCATION IS MARKED.
use Rattle.std.specs.Prelude.{ℕ, ◌+◌, ◌*◌, ◌%◌, ◌^◌, bit_and, bit_or}
use Rattle.cifti.specs.Maps.{Voxel}
use Rattle.marked_lists.specs.declared.places.Grid.{Grid}

unfoldable pub voxel_place : Grid → Voxel → ℕ
voxel_place g v =
    bit_or (bit_and v.i g.i)
    (bit_or (bit_and v.j g.j * 2 ^ (g.row % 64) % 2 ^ 64) (bit_and v.k g.k * 2 ^ (g.layer % 64) % 2 ^ 64))

unfoldable pub vertex_place : (start vertex : ℕ) → ℕ
vertex_place start vertex = (start + vertex) % 2 ^ 64
