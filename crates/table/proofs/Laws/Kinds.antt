-- THE KIND OF A RECORD IS THAT OF ITS LOCATION, and so that of the model that lists the location.
use Rattle.std.specs.Prelude.{◌≡◌, refl, List, [], ◌∷◌, Bool, true, false, cond, ℕ, ◌+◌}
use Rattle.std.proofs.Common.{ap, ◌∙◌}
use Rattle.lists.specs.Lists.{each}
use Rattle.records.specs.Record.{Location, on_surface, in_volume, location_of, location_in, is_voxel, structure_of, payload_of, i_of, j_of, k_of}
use Rattle.cifti.specs.Maps.{Listed, vertices, voxels, Model, voxel_at, locations_by, locations}
use Rattle.models.specs.Kind.{type_number, type_and_structure}
use Rattle.table.specs.Located.{Entry, here, further}
use Rattle.shortlist.specs.Runs.{structure_kind, kind_of, kind_in}
use Rattle.table.specs.ByOffset.{of_voxels, entry_of}

unfoldable location_kind : Location → ℕ
location_kind (on_surface s v) = structure_kind false s
location_kind (in_volume s i j k) = structure_kind true s

kind_located : (r : ℕ) → kind_of r ≡ location_kind (location_of r)
unfolding kind_of location_of location_in location_kind
kind_located r = go (is_voxel r)
  where
    go : (b : Bool) → structure_kind b (structure_of r)
        ≡ location_kind (cond b (in_volume (structure_of r) (i_of r) (j_of r) (k_of r)) (on_surface (structure_of r) (payload_of r)))
    go true = refl
    go false = refl

each_kind : {A : Type 0} (f : A → Location) (k : ℕ) → ((a : A) → location_kind (f a) ≡ k) → (l : List A) {i : ℕ} {x : Location}
    → Entry (each f l) i x → location_kind x ≡ k
unfolding each
each_kind f k h [] x' = elim x' [ ]
each_kind f k h (a ∷ l) here = h a
each_kind f k h (a ∷ l) (further e) = each_kind f k h l e

-- of a model, by the name that its own crate has for it
pub kind_entry : (m : Model) → kind_in (entry_of m) ≡ type_and_structure m
unfolding kind_in structure_kind type_and_structure type_number of_voxels
kind_entry m = go m.listed
  where
    go : (l : Listed) → cond (of_voxels l) 32 0 + m.structure ≡ type_number l + m.structure
    go (vertices n l) = refl
    go (voxels l) = refl

listed_kind : (s : ℕ) (l : Listed) {i : ℕ} {x : Location} → Entry (locations_by s l) i x → location_kind x ≡ structure_kind (of_voxels l) s
unfolding locations_by of_voxels location_kind voxel_at
listed_kind s (vertices n l) e = each_kind (on_surface s) _ (λ v. refl) l e
listed_kind s (voxels l) e = each_kind (voxel_at s) _ (λ v. refl) _ e

-- a record of a location that the model lists is of its kind
pub record_kind : (m : Model) (r : ℕ) {i : ℕ} {x : Location} → location_of r ≡ x → Entry (locations m) i x → kind_of r ≡ kind_in (entry_of m)
unfolding locations kind_in
record_kind m r e h = kind_located r ∙ ap location_kind e ∙ listed_kind m.structure m.listed h
