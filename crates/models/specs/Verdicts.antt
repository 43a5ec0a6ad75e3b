-- WHAT CONDITIONS 11 AND 12 SAY OF LISTS: 11 where one is uneven, else 12 where one goes beyond its surface or volume, else 0.
use Rattle.std.specs.Prelude.{List, Bool, cond, not, ℕ, ◌*◌, eqb, ltb, length}
use Rattle.lists.specs.Lists.{any, all}
use Rattle.cifti.specs.Maps.{Voxel, voxel, Model, Map, threes}
use Rattle.cifti.specs.Conditions.{lists_count, uneven, outside, beyond}
use Rattle.models.specs.declared.volume.Sizes.{Sizes}

unfoldable pub verdict_by : (even out : Bool) → ℕ
verdict_by even out = cond even (cond out 12 0) 11

unfoldable pub list_verdict : (volume : Voxel) → Model → ℕ
list_verdict volume m = verdict_by (lists_count m.count m.listed) (beyond volume m.listed)

-- of the lists of several models
unfoldable pub lists_verdict : (volume : Voxel) → List Model → ℕ
lists_verdict volume l = verdict_by (all (λ b. lists_count b.count b.listed) l) (any (λ b. beyond volume b.listed) l)

-- THE RULE of a map: condition 11, else 12, else neither
unfoldable pub lists_rule : Map → ℕ
lists_rule m = cond (uneven m) 11 (cond (any (λ b. beyond m.volume b.listed) m.models) 12 0)

abbrev pub volume_from : Sizes → Voxel
volume_from s = voxel s.i s.j s.k

-- of the numbers of vertices, of voxels
unfoldable pub vertices_verdict : (size surface : ℕ) → List ℕ → ℕ
vertices_verdict size surface l = verdict_by (eqb (length l) size) (any (λ v. not (ltb v surface)) l)

unfoldable pub voxels_verdict : (size : ℕ) (volume : Voxel) → List ℕ → ℕ
voxels_verdict size volume l = verdict_by (eqb (length l) (3 * size)) (any (outside volume) (threes l))
