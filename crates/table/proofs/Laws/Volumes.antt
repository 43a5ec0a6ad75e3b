-- WHAT CONDITIONS 7 AND 12 LEAVE: a volume is no larger than a record's bits can count, and every location of a map fits its record.
use Rattle.std.specs.Prelude.{◌≡◌, refl, List, [], ◌∷◌, ◌++◌, Bool, true, false, cond, ℕ, suc, ◌<◌, ◌≤◌, ◌^◌, length, get_or}
use Rattle.std.proofs.Common.{sym, ◌∙◌, true≢false, arith}
use Rattle.std.proofs.lemmas.Bool.{false≢true}
use Rattle.lists.specs.Lists.{any, each, each_in, those}
use Rattle.lists.proofs.Laws.Quantifiers.{any_iff}
use Rattle.grammar.specs.Document.{Element}
use Rattle.grammar.proofs.Laws.Facts.{and_left, and_right}
use Rattle.grammar.specs.Look.{Word, is, name_of, contents_of, attr, elements, children}
use Rattle.numbers.specs.Numbers.{whole, value, three, parts, comma, volume_dimensions, comma_values}
use Rattle.records.specs.Limits.{most_records, most_length}
use Rattle.records.specs.Width.{seven}
use Rattle.records.specs.Record.{Location, on_surface, Fits}
use Rattle.cifti.specs.Rows.{brain_models, volume}
use Rattle.cifti.specs.Maps.{Voxel, Model, model_of, listed_by, sizes_by, sizes_of, locations}
use Rattle.cifti.specs.Conditions.{beyond}
use Rattle.cifti.proofs.Laws.Keys.{Small, small_surface, voxels_small, listed_fits}
use Rattle.maps.proofs.Laws.Good.{AllGood, none_left, one_good}
use Rattle.maps.specs.Good.{Good}
use Rattle.maps.proofs.Laws.Kinds.{brain_rows, good_volume, volume_sizes, brain_children}
use Rattle.maps.specs.Kinds.{GoodModel}
use Rattle.models.proofs.Laws.Brain.{whole_within}
use Rattle.models.proofs.Laws.Kind.{structure_small}
use Rattle.models.proofs.Laws.ListingSteps.{Lists, lists_vertices, lists_voxels, model_lists}
use Rattle.table.specs.Listing.{AllFit, none_to_fit, one_fits}

-- ---- The volume.

pub record InBits (v : Voxel) : Type 0 where
  pub small_i : v.i ≤ 2 ^ seven.i
  pub small_j : v.j ≤ 2 ^ seven.j
  pub small_k : v.k ≤ 2 ^ seven.k

-- three words in form, and more behind them
three_sized : (l : List Word) (m : List ℕ) → three (whole 1 most_length) (whole 1 most_length) (whole 1 most_length) l ≡ true
    → InBits (sizes_by (each value l ++ m))
unfolding three each sizes_by
three_sized [] m h = absurd (false≢true h)
three_sized (a ∷ []) m h = absurd (false≢true h)
three_sized (a ∷ b ∷ []) m h = absurd (false≢true h)
three_sized (a ∷ b ∷ c ∷ []) m h =
    let x = whole_within 1 most_length a (and_left (whole 1 most_length a) _ h) in
    let k = and_right (whole 1 most_length a) _ h in
    let y = whole_within 1 most_length b (and_left (whole 1 most_length b) _ k) in
    let z = whole_within 1 most_length c (and_right (whole 1 most_length b) _ k) in
    record { small_i = omega (arith, x.1); small_j = omega (arith, y.1); small_k = omega (arith, z.1) }
three_sized (a ∷ b ∷ c ∷ d ∷ l) m h = absurd (false≢true h)

volume_sized : {e : Element} (m : List ℕ) → Good volume e → InBits (sizes_by (comma_values (attr "VolumeDimensions" e) ++ m))
unfolding comma_values volume_dimensions
volume_sized {e} m g = three_sized (parts comma (attr "VolumeDimensions" e)) m (volume_sizes g)

sized_among : (l : List Element) → AllGood brain_rows l
    → InBits (sizes_by (each_in (λ v. comma_values (attr "VolumeDimensions" v)) (those (λ e. is "Volume" (name_of e)) l)))
unfolding those each_in sizes_by
sized_among [] none_left = record { small_i = omega arith; small_j = omega arith; small_k = omega arith }
sized_among (e ∷ l) (one_good g h) = go (is "Volume" (name_of e)) refl (sized_among l h)
  where
    go : (b : Bool) → is "Volume" (name_of e) ≡ b
        → InBits (sizes_by (each_in (λ v. comma_values (attr "VolumeDimensions" v)) (those (λ x. is "Volume" (name_of x)) l)))
        → InBits (sizes_by (each_in (λ v. comma_values (attr "VolumeDimensions" v))
        (cond b (e ∷ those (λ x. is "Volume" (name_of x)) l) (those (λ x. is "Volume" (name_of x)) l))))
    go true q k = volume_sized _ (good_volume e g q)
    go false q k = k

pub brain_sized : {e : Element} → Good brain_models e → InBits (sizes_of e)
unfolding sizes_of children
brain_sized {e} g = sized_among (elements (contents_of e)) (brain_children g)

-- ---- The locations.

pub all_fit : (l : List Location) → ((p : ℕ) → p < length l → Fits (get_or l p (on_surface 0 0))) → AllFit l
all_fit [] h = none_to_fit
all_fit (a ∷ l) h = one_fits (h 0 (omega arith)) (all_fit l (λ p u. h (suc p) (omega arith)))

surface_small : {e : Element} → GoodModel e → Small seven (model_of e).listed
unfolding model_of
surface_small {e} g = go (model_lists g)
  where
    go : Lists e → Small seven (listed_by e)
    go (lists_vertices o a f n s) =
        let w = whole_within 1 most_records (attr "SurfaceNumberOfVertices" e) s in
        let h : value (attr "SurfaceNumberOfVertices" e) ≤ 2 ^ seven.vertex = omega (arith, w.1) in
        rw n (small_surface h)
    go (lists_voxels o a f n) = rw n voxels_small

pub model_fits : {e : Element} (v : Voxel) → GoodModel e → InBits v → beyond v (model_of e).listed ≡ false → (p : ℕ)
    → p < length (locations (model_of e)) → Fits (get_or (locations (model_of e)) p (on_surface 0 0))
unfolding locations
model_fits {e} v g z h = listed_fits seven (model_of e).structure v (model_of e).listed (structure_small g) z.small_i
    z.small_j z.small_k (surface_small g) h

-- none of the list is beyond
pub none_beyond : (b : Model) (v : Voxel) (l : List Model) → any (λ x. beyond v x.listed) l ≡ false → (i : ℕ) → i < length l
    → beyond v (get_or l i b).listed ≡ false
none_beyond b v l h i u = go (beyond v (get_or l i b).listed) refl
  where
    go : (t : Bool) → beyond v (get_or l i b).listed ≡ t → t ≡ false
    go false e = refl
    go true e = absurd (true≢false (sym ((any_iff b (λ x. beyond v x.listed) l).1 (i, u, e)) ∙ h))
