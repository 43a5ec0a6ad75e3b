-- AN INDEX OF A BRAIN MAP to which no condition applies: the one model whose range it is in, its location there, and its record.
use Rattle.std.specs.Prelude.{◌≡◌, refl, List, [], ◌∷◌, ◌++◌, Bool, true, false, not, cond, ℕ, ◌-◌, ◌^◌, ◌<◌, ◌≤◌, length, get_or}
use Rattle.std.proofs.Common.{sym, ap, ◌∙◌, le-leb}
use native.Mathlib.Omega.{arith}
use Rattle.std.proofs.lemmas.Bool.{not-false}
use Rattle.lists.specs.Lists.{any, those, each}
use Rattle.lists.proofs.Laws.Quantifiers.{count_one_iff}
use Rattle.lists.proofs.Laws.Booleans.{or_left, or_right, clash}
use Rattle.grammar.specs.Document.{Element}
use Rattle.grammar.specs.Look.{is, name_of, attr, contents_of, elements}
use Rattle.numbers.specs.Numbers.{value}
use Rattle.records.specs.Limits.{most_vertex}
use Rattle.records.specs.Width.{Width, seven}
use Rattle.records.specs.Record.{Location, on_surface, record_of, FitsIn, Fits, surface, volume, location_of, legal_record}
use Rattle.records.proofs.Laws.Record.{seven_sound, location_back}
use Rattle.records.proofs.Laws.Widths.{Wider, fits_wider, lawful_place, legal_made}
use Rattle.cifti.specs.Maps.{Voxel, Model, Map, model_of, map_of, listed_by, length_of, is_brain, kind_of_map, covers, locations}
use Rattle.cifti.specs.Conditions.{lists_count, uneven, beyond}
use Rattle.cifti.specs.Answer.{record_at}
use Rattle.cifti.proofs.Laws.Meaning.{covers_iff, even_iff, location_at, record_location}
use Rattle.cifti.proofs.Laws.Keys.{Small, small_surface, voxels_small, listed_fits}
use Rattle.cifti.proofs.Laws.Repeats.{lists_count_lem}
use Rattle.cifti.specs.Rows.{brain_models}
use Rattle.maps.proofs.Laws.Good.{AllGood, none_left, one_good}
use Rattle.maps.specs.Good.{Good}
use Rattle.maps.proofs.Laws.Kinds.{brain_rows, good_model, brain_children}
use Rattle.maps.specs.Kinds.{GoodModel}
use Rattle.maps.proofs.Laws.MapKind.{good_brain, brain_kind}
use Rattle.maps.specs.MapKind.{GoodMap}
use Rattle.models.proofs.Laws.Brain.{is_model, models_are, whole_within}
use Rattle.models.specs.Fine.{FineMap}
use Rattle.models.proofs.Laws.Kind.{structure_small}
use Rattle.models.proofs.Laws.ListingSteps.{Lists, lists_vertices, lists_voxels, model_lists}
use Rattle.table.proofs.Laws.Ready.{GoodOne, nobody}
use Rattle.table.proofs.Laws.Volumes.{InBits, brain_sized}
use Rattle.table.specs.Located.{Entry}
use Rattle.table.proofs.Laws.Alone.{Alone, alone, alone_those, fails_at, entry_at}

-- ---- Legal locations: as in a record, and the vertex number at most 1,048,575.

abbrev pub lawful : Width
lawful = record { flag = 1; structure = 5; vertex = 20; i = 16; j = 16; k = 16; bytes = 7; ending = 2 }

lawful_narrow : Wider seven lawful
lawful_narrow = record { structure = omega arith; vertex = omega arith; i = omega arith; j = omega arith; k = omega arith }

pub lawful_fits : {x : Location} → FitsIn lawful x → Fits x
lawful_fits = fits_wider lawful_narrow

-- the location is read back from its record
pub lawful_back : {x : Location} → FitsIn lawful x → location_of (record_of x) ≡ x
unfolding location_of
lawful_back f = location_back seven_sound (lawful_fits f)

lawful_place_lem : {x : Location} → FitsIn lawful x → lawful_place x ≡ true
unfolding lawful_place
lawful_place_lem (surface {v = v} h u) = le-leb v most_vertex (omega arith)
lawful_place_lem (volume h u v w) = refl

pub lawful_legal : {x : Location} → FitsIn lawful x → legal_record (record_of x) ≡ true
lawful_legal f = legal_made seven_sound (lawful_fits f) ∙ lawful_place_lem f

-- ---- What a good model lists is legal, where 12 does not apply.

surface_small : {e : Element} → GoodModel e → Small lawful (model_of e).listed
unfolding model_of
surface_small {e} g = go (model_lists g)
  where
    go : Lists e → Small lawful (listed_by e)
    go (lists_vertices o a f n s) =
        let w = whole_within 1 1048576 (attr "SurfaceNumberOfVertices" e) s in
        let h : value (attr "SurfaceNumberOfVertices" e) ≤ 2 ^ 20 = omega (arith, w.1) in
        rw n (small_surface h)
    go (lists_voxels o a f n) = rw n voxels_small

model_lawful : {e : Element} (v : Voxel) → GoodModel e → InBits v → beyond v (model_of e).listed ≡ false → (p : ℕ)
    → p < length (locations (model_of e)) → FitsIn lawful (get_or (locations (model_of e)) p (on_surface 0 0))
unfolding locations
model_lawful {e} v g z h = listed_fits lawful (model_of e).structure v (model_of e).listed (structure_small g) z.small_i
    z.small_j z.small_k (surface_small g) h

lawful_in : {b : Model} (v : Voxel) → GoodOne b → InBits v → beyond v b.listed ≡ false → {p : ℕ} → p < length (locations b)
    → FitsIn lawful (get_or (locations b) p (on_surface 0 0))
lawful_in v o z h u = rw o.is_of (model_lawful v o.good z (rw o.is_of at h) _ (rw o.is_of at u))

-- a model of a good brain map
good_model_at : (l : List Element) → AllGood brain_rows l → (k : List Model) (b : Model) (r : List Model)
    → each model_of (those is_model l) ≡ k ++ (b ∷ r) → GoodOne b
unfolding those each is_model
good_model_at [] none_left [] b r h = clash (cc)
good_model_at [] none_left (x ∷ k) b r h = clash (cc)
good_model_at (e ∷ l) (one_good g m) k b r h = go (is "BrainModel" (name_of e)) refl k h (λ j. good_model_at l m j b r)
  where
    rest : List Element
    rest = those (λ y. is "BrainModel" (name_of y)) l

    go : (t : Bool) → is "BrainModel" (name_of e) ≡ t → (k : List Model) → each model_of (cond t (e ∷ rest) rest) ≡ k ++ (b ∷ r)
        → ((j : List Model) → each model_of rest ≡ j ++ (b ∷ r) → GoodOne b) → GoodOne b
    go true q [] h ih = record { element = e; good = good_model e g q; is_of = cc }
    go true q (x ∷ k) h ih = ih k (cc)
    go false q k h ih = ih k h

-- ---- The location at an index, in the list of the one model.

location_past : (n : ℕ) (k : List Model) (b : Model) (r : List Model) → any (covers n) k ≡ false → covers n b ≡ true
    → location_at (k ++ (b ∷ r)) n ≡ get_or (locations b) (n - b.offset) (on_surface 0 0)
unfolding location_at any
location_past n [] b r h t = rw t refl
location_past n (x ∷ k) b r h t = rw (or_left (covers n x) _ h) (location_past n k b r (or_right (covers n x) _ h) t)

pub record Indexed (m : Map) (n : ℕ) : Type 0 where
  pub model : Model
  pub one_model : those (covers n) m.models ≡ model ∷ []
  pub location : Location
  pub listed : Entry (locations model) (n - model.offset) location
  pub fits : FitsIn lawful location
  pub recorded : record_at m.models n ≡ record_of location

module _ {x : Element} (g : GoodMap x) (f : FineMap (map_of x)) (brain : is_brain (map_of x).kind ≡ true) where
  good_map : Good brain_models x
  unfolding map_of
  good_map = good_brain g (brain_kind (kind_of_map x) brain)

  volume_small : InBits (map_of x).volume
  unfolding map_of
  volume_small = brain_sized good_map

  lists_all : any (λ b. not (lists_count b.count b.listed)) (map_of x).models ≡ false
  unfolding uneven
  lists_all = or_left _ _ (f.even brain)

  module _ (n : ℕ) (o : Alone (covers n) (map_of x).models) where
    model_good : GoodOne o.one
    unfolding map_of
    model_good = good_model_at (elements (contents_of x)) (brain_children good_map) o.before o.one o.behind
        (ap (each model_of) (sym (models_are x)) ∙ o.split)

    counts : lists_count o.one.count o.one.listed ≡ true
    counts = not-false _ (fails_at (λ b. not (lists_count b.count b.listed)) o.before o.one o.behind
        (rw o.split at lists_all))

    inside : n - o.one.offset < length (locations o.one)
    unfolding locations
    inside =
        let c = lists_count_lem o.one.structure o.one.count o.one.listed counts in
        let (s, t) = (covers_iff n o.one).0 o.passes in
        omega arith

    in_volume_lem : beyond (map_of x).volume o.one.listed ≡ false
    in_volume_lem = fails_at (λ b. beyond (map_of x).volume b.listed) o.before o.one o.behind
        (rw o.split at f.in_volume_lem)

    lawful_at : FitsIn lawful (get_or (locations o.one) (n - o.one.offset) (on_surface 0 0))
    lawful_at = lawful_in (map_of x).volume model_good volume_small in_volume_lem inside

    by_one : Indexed (map_of x) n
    by_one = record {
      model = o.one;
      one_model = alone_those o;
      location = get_or (locations o.one) (n - o.one.offset) (on_surface 0 0);
      listed = entry_at (locations o.one) (n - o.one.offset) (on_surface 0 0) inside;
      fits = lawful_at;
      recorded = record_location (map_of x).models n ∙ ap record_of (ap (λ l. location_at l n) o.split
          ∙ location_past n o.before o.one o.behind o.none_before o.passes);
    }

  pub indexed : (n : ℕ) → n < length_of (map_of x) → Indexed (map_of x) n
  indexed n u = by_one n (alone (covers n) (map_of x).models
      ((count_one_iff nobody (covers n) (map_of x).models).1 (((even_iff nobody (map_of x)).0 (f.even brain)).one n u)))
