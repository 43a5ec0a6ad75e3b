-- THE POSITION IN A LIST NEVER STARTS AGAIN: the n-th vertex, the n-th voxel of a model's list stands n places behind the place where the
-- model begins.
use Rattle.std.specs.Prelude.{◌≡◌, refl, List, [], ◌∷◌, true, ℕ, zero, suc, ◌+◌, ◌-◌, ◌*◌, ◌<◌, ◌≤◌}
use Rattle.std.proofs.Common.{sym, ◌∙◌, le_of_suc-le-suc, not-suc-le-zero, arith}
use Rattle.std.proofs.Math.Path.{ap}
use Rattle.std.proofs.Math.ListN.{length, get_or}
use Rattle.lists.specs.Lists.{each}
use Rattle.lists.proofs.Laws.Lists.{length_each}
use Rattle.records.specs.Record.{on_surface, in_volume, record_of}
use Rattle.records.specs.Fill.{wrote}
use Rattle.cifti.specs.Maps.{Voxel, voxel, vertices, voxels, Model, length_of, covers, threes, voxel_at, locations, locations_by}
use Rattle.cifti.specs.Answer.{stretch}
use Rattle.cifti.proofs.Laws.Meaning.{even_iff, covers_iff, record_at_lem}
use Rattle.cifti.proofs.Laws.Said.{stretch_at}
use Rattle.maps.proofs.Laws.Fill.{wrote_in}
use Rattle.maps.specs.Table.{model_records}
use Rattle.models.specs.declared.gather.Models.{Models}
use Rattle.table.specs.Ready.{map_at, MapReady}
use Rattle.table.proofs.Laws.Ready.{nobody, in_range_lem}

at_each : {A B : Type 0} (f : A → B) (l : List A) (z : A) (y : B) (p : ℕ) → p < length l → get_or (each f l) p y ≡ f (get_or l p z)
unfolding each
at_each f [] z y p u = absurd (not-suc-le-zero u)
at_each f (x ∷ l) z y zero u = refl
at_each f (x ∷ l) z y (suc p) u = at_each f l z y p (le_of_suc-le-suc u)

-- the n-th voxel is the numbers 3n, 3n + 1 and 3n + 2 of the list
abbrev nth_three : List ℕ → ℕ → Voxel
nth_three l n = voxel (get_or l (3 * n) 0) (get_or l (3 * n + 1) 0) (get_or l (3 * n + 2) 0)

same_voxel_lem : {i j k x y z : ℕ} → i ≡ x → j ≡ y → k ≡ z → voxel i j k ≡ voxel x y z
same_voxel_lem p q r = cc

three_at : (l : List ℕ) (n : ℕ) → 3 * n + 2 < length l → (n < length (threes l)) × (get_or (threes l) n (voxel 0 0 0) ≡ nth_three l n)
unfolding threes
three_at [] n h = absurd (omega arith)
three_at (i ∷ []) n h = absurd (omega arith)
three_at (i ∷ j ∷ []) n h = absurd (omega arith)
three_at (i ∷ j ∷ k ∷ l) zero h = (omega arith, refl)
three_at (i ∷ j ∷ k ∷ l) (suc n) h =
    let (u, e) = three_at l n (omega arith) in
    let a : 3 * suc n ≡ suc (suc (suc (3 * n))) = omega arith in
    let b : 3 * suc n + 1 ≡ suc (suc (suc (3 * n + 1))) = omega arith in
    let c : 3 * suc n + 2 ≡ suc (suc (suc (3 * n + 2))) = omega arith in
    let s : List ℕ = i ∷ j ∷ k ∷ l in
    (omega arith, e ∙ same_voxel_lem (ap (λ p. get_or s p 0) (sym a)) (ap (λ p. get_or s p 0) (sym b)) (ap (λ p. get_or s p 0) (sym c)))

module _ (m : Model) (at : ℕ) (out : List ℕ) (room : at + length (model_records m) ≤ length out) where
  pub nth_vertex : (surface : ℕ) (l : List ℕ) → m.listed ≡ vertices surface l → (n : ℕ) → n < length l
      → get_or (wrote at (model_records m) out) (at + n) 0 ≡ record_of (on_surface m.structure (get_or l n 0))
  unfolding model_records locations locations_by
  nth_vertex surface l e n h =
      let r : model_records m ≡ each record_of (each (on_surface m.structure) l) =
      ap (λ t. each record_of (locations_by m.structure t)) e in
      let k : length (each (on_surface m.structure) l) ≡ length l = length_each (on_surface m.structure) l in
      let u : n < length (model_records m) = omega (arith, ap length r, length_each record_of (each (on_surface m.structure) l)) in
      wrote_in at (model_records m) out room n u
      ∙ ap (λ x. get_or x n 0) r
      ∙ at_each record_of (each (on_surface m.structure) l) (on_surface 0 0) 0 n (omega arith)
      ∙ ap record_of (at_each (on_surface m.structure) l 0 (on_surface 0 0) n h)

  pub nth_voxel : (l : List ℕ) → m.listed ≡ voxels l → (n : ℕ) → 3 * n + 2 < length l
      → get_or (wrote at (model_records m) out) (at + n) 0
      ≡ record_of (in_volume m.structure (get_or l (3 * n) 0) (get_or l (3 * n + 1) 0) (get_or l (3 * n + 2) 0))
  unfolding model_records locations locations_by voxel_at
  nth_voxel l e n h =
      let (v, t) = three_at l n h in
      let r : model_records m ≡ each record_of (each (voxel_at m.structure) (threes l)) =
      ap (λ t. each record_of (locations_by m.structure t)) e in
      let k : length (each (voxel_at m.structure) (threes l)) ≡ length (threes l) = length_each (voxel_at m.structure) (threes l) in
      let u : n < length (model_records m) = omega (arith, ap length r, length_each record_of (each (voxel_at m.structure) (threes l))) in
      wrote_in at (model_records m) out room n u
      ∙ ap (λ x. get_or x n 0) r
      ∙ at_each record_of (each (voxel_at m.structure) (threes l)) (on_surface 0 0) 0 n (omega arith)
      ∙ ap record_of (at_each (voxel_at m.structure) (threes l) (voxel 0 0 0) (on_surface 0 0) n v)
      ∙ ap (λ x. record_of (voxel_at m.structure x)) t

-- ---- In the map: the n-th of a model's list is at IndexOffset + n of the stretch.

module _ {text : List ℕ} {map : ℕ} {m : Models} {room start : ℕ} (r : MapReady text map m room start) (a : ℕ)
    (u : a < length (map_at text map).models) where
  abbrev here : Model
  here = get_or (map_at text map).models a nobody

  pub nth_index : (n : ℕ) → n < here.count
      → get_or (stretch (map_at text map)) (here.offset + n) 0 ≡ record_of (get_or (locations here) n (on_surface 0 0))
  nth_index n h =
      let e = (even_iff nobody (map_at text map)).0 r.even in
      let c : covers (here.offset + n) here ≡ true = (covers_iff (here.offset + n) here).1 (omega arith, omega arith) in
      let w : here.offset + n < length_of (map_at text map) = omega (arith, in_range_lem r.brain r.even a u) in
      let o = e.one (here.offset + n) w in
      let i : a ≡ o.0 = o.3 a u c in
      let d : here.offset + n - here.offset ≡ n = omega arith in
      stretch_at (map_at text map) (here.offset + n) w
      ∙ record_at_lem nobody (map_at text map).models (here.offset + n) o
      ∙ ap (λ k. record_of (get_or (locations (get_or (map_at text map).models k nobody))
      (here.offset + n - (get_or (map_at text map).models k nobody).offset) (on_surface 0 0))) (sym i)
      ∙ ap (λ k. record_of (get_or (locations here) k (on_surface 0 0))) d
