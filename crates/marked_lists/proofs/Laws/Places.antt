-- Equal locations have equal places.
use Rattle.std.specs.Prelude.{◌≡◌, ℕ, true, ◌&&◌, ◌==◌}
use Rattle.std.proofs.Common.{ap, eqb-true}
use Rattle.lists.proofs.Laws.Booleans.{and_left, and_right}
use Rattle.cifti.specs.Maps.{Voxel, same_voxel}
use Rattle.marked_lists.specs.Places.{voxel_place, vertex_place}
use Rattle.marked_lists.specs.declared.places.Grid.{Grid}

pub one_vertex : (start a b : ℕ) → (a == b) ≡ true → vertex_place start a ≡ vertex_place start b
one_vertex start a b h = ap (vertex_place start) (eqb-true a b h)

pub one_voxel : (g : Grid) (v w : Voxel) → same_voxel v w ≡ true → voxel_place g v ≡ voxel_place g w
unfolding same_voxel voxel_place
one_voxel g v w h =
    let rest = and_right (v.i == w.i) (v.j == w.j && v.k == w.k) h in
    rw (
      eqb-true v.i w.i (and_left (v.i == w.i) _ h),
      eqb-true v.j w.j (and_left (v.j == w.j) _ rest),
      eqb-true v.k w.k (and_right (v.j == w.j) _ rest),
    )
