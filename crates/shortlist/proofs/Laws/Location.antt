-- A RECORD MADE AGAIN from the location that its bits say, as code makes it. Assumes nothing.
use Rattle.std.specs.Prelude.{◌≡◌, refl, Bool, true, false, ℕ}
use Rattle.std.proofs.Common.{sym, ap, ◌∙◌, eq-eqb, ltb-true}
use Rattle.lists.proofs.Laws.Booleans.{and_left}
use Rattle.records.specs.Width.{sound}
use Rattle.records.specs.Record.{on_surface, in_volume, record_of, wrapped, Fits, is_voxel, structure_of, payload_of, i_of, j_of, k_of, location_of}
use Rattle.records.specs.Record.{location_in, legal_in, legal_record}
use Rattle.records.proofs.Laws.Record.{within_fits, location_fits, record_back, sound_is}
use Rattle.records.specs.declared.counters.Vertex.{Vertex}
use Rattle.shortlist.specs.Asking.{is_record}

fits : (n : ℕ) → Fits (location_of n)
unfolding location_of
fits n = location_fits _ n

whole : (n : ℕ) → record_of (wrapped (location_of n)) ≡ record_of (location_of n)
whole n = ap record_of (within_fits (fits n))

in_volume_lem : (n : ℕ) → is_voxel n ≡ true → location_of n ≡ in_volume (structure_of n) (i_of n) (j_of n) (k_of n)
unfolding location_of location_in
in_volume_lem n e = rw e

on_surface_lem : (n : ℕ) → is_voxel n ≡ false → location_of n ≡ on_surface (structure_of n) (payload_of n)
unfolding location_of location_in
on_surface_lem n e = rw e

pub voxel_again : (n s i j k r : ℕ) (b : Bool) → s ≡ structure_of n → b ≡ is_voxel n → b ≡ true → i ≡ i_of n → j ≡ j_of n → k ≡ k_of n
    → r ≡ record_of (wrapped (in_volume s i j k)) → r ≡ record_of (location_of n)
voxel_again n s i j k r b ps pb e pi pj pk pr =
    pr ∙ ap (λ t. record_of (wrapped (in_volume t i j k))) ps ∙ ap (λ t. record_of (wrapped (in_volume (structure_of n) t j k))) pi
    ∙ ap (λ t. record_of (wrapped (in_volume (structure_of n) (i_of n) t k))) pj
    ∙ ap (λ t. record_of (wrapped (in_volume (structure_of n) (i_of n) (j_of n) t))) pk
    ∙ sym (ap (λ l. record_of (wrapped l)) (in_volume_lem n (sym pb ∙ e))) ∙ whole n

pub surface_again : (n s r : ℕ) (v : Vertex) (b : Bool) → s ≡ structure_of n → b ≡ is_voxel n → b ≡ false → v.0 ≡ payload_of n
    → r ≡ record_of (wrapped (on_surface s v.0)) → r ≡ record_of (location_of n)
surface_again n s r v b ps pb e pv pr =
    pr ∙ ap (λ t. record_of (wrapped (on_surface t v.0))) ps ∙ ap (λ t. record_of (wrapped (on_surface (structure_of n) t))) pv
    ∙ sym (ap (λ l. record_of (wrapped l)) (on_surface_lem n (sym pb ∙ e))) ∙ whole n

-- a legal record is made again
pub legal_is_record : (x : ℕ) → legal_record x ≡ true → is_record x ≡ true
unfolding is_record location_of legal_in sound
legal_is_record x h = eq-eqb (record_of (location_of x)) x (record_back (sound_is _ refl) x (ltb-true _ _ (and_left _ _ h)))
