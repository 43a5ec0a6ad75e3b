-- What is proved of Ready.
use Rattle.std.specs.Prelude.{◌≡◌, refl, List, [], ◌∷◌, Bool, true, false, cond, ℕ, zero, suc, ◌+◌, ◌<◌, ◌≤◌, length, get_or}
use Rattle.std.proofs.Common.{sym, ap, ◌∙◌, le_of_suc-le-suc, arith}
use Rattle.lists.specs.Lists.{any, each, those, total}
use Rattle.grammar.specs.Document.{Element}
use Rattle.grammar.specs.Look.{is, name_of, contents_of, elements}
use Rattle.nodes.specs.Places.{the}
use Rattle.records.specs.Record.{on_surface, Fits}
use Rattle.records.specs.Fill.{wrote}
use Rattle.cifti.specs.Maps.{voxels, Model, model_of, length_of, locations}
use Rattle.cifti.specs.Conditions.{uneven, beyond}
use Rattle.cifti.specs.Answer.{stretch}
use Rattle.maps.proofs.Laws.Chain.{Counting, none_counts, one_counts}
use Rattle.maps.specs.Fill.{filled, Fitting, none_fits}
use Rattle.maps.specs.Fill as Fill
use Rattle.maps.specs.Table.{model_records}
use Rattle.maps.proofs.Laws.Table.{fitting, table_law}
use Rattle.maps.proofs.Laws.Good.{AllGood, none_left, one_good}
use Rattle.maps.proofs.Laws.Kinds.{good_model, brain_rows, brain_children}
use Rattle.maps.specs.Kinds.{GoodModel}
use Rattle.models.specs.Brain.{BrainAt}
use Rattle.models.proofs.Laws.Brain.{is_model, models_are, map_models, map_volume, brain_sum}
use Rattle.models.specs.Held.{BrainHeld, models_at}
use Rattle.models.proofs.Laws.Held.{holding, held_models, held_count, held_at}
use Rattle.models.specs.declared.gather.Models.{Models}
use Rattle.models.proofs.Laws.Listings.{count_some}
use Rattle.table.specs.Listing.{AllFit}
use Rattle.table.specs.Placing.{nth_model, Placing, ModelsPlaced}
use Rattle.table.proofs.Laws.Volumes.{InBits, brain_sized, all_fit, model_fits, none_beyond}
use Rattle.table.specs.Ready.{map_at, MapReady}

-- the stretch is written from `start` on, and its length told
pub record Filled (text : List ℕ) (map : ℕ) (before : List ℕ) (start n : ℕ) (after : List ℕ) : Type 0 where
  pub written : after ≡ wrote start (stretch (map_at text map)) before
  pub counted : n ≡ length_of (map_at text map)

fits_by : {f : Model → List ℕ} {size : ℕ} {l : List Model} → Fitting f size l → (b : Model) (i : ℕ) → i < length l
    → (length (f (get_or l i b)) ≡ (get_or l i b).count) × ((get_or l i b).offset + (get_or l i b).count ≤ size)
fits_by none_fits b i u = absurd (omega arith)
fits_by (Fill.one_fits h k more) b zero u = (h, k)
fits_by (Fill.one_fits h k more) b (suc i) u = fits_by more b i (le_of_suc-le-suc u)

counting_by : (b : Model) (l : List Model) → ((i : ℕ) → i < length l → 1 ≤ (get_or l i b).count) → Counting l
counting_by b [] h = none_counts
counting_by b (m ∷ l) h = one_counts (h 0 (omega arith)) (counting_by b l (λ i u. h (suc i) (omega arith)))

-- ---- Every model of a good brain map is good.

pub record GoodOne (m : Model) : Type 0 where
  pub element : Element
  pub good : GoodModel element
  pub is_of : m ≡ model_of element

good_among : (l : List Element) → AllGood brain_rows l → (x : Model) (i : ℕ) → i < length (each model_of (those is_model l))
    → GoodOne (get_or (each model_of (those is_model l)) i x)
unfolding those each is_model
good_among [] none_left x i u = absurd (omega arith)
good_among (e ∷ l) (one_good g h) x i u = go (is "BrainModel" (name_of e)) refl i u (good_among l h x)
  where
    rest : List Element
    rest = those (λ y. is "BrainModel" (name_of y)) l

    go : (b : Bool) → is "BrainModel" (name_of e) ≡ b → (i : ℕ) → i < length (each model_of (cond b (e ∷ rest) rest))
        → ((j : ℕ) → j < length (each model_of rest) → GoodOne (get_or (each model_of rest) j x))
        → GoodOne (get_or (each model_of (cond b (e ∷ rest) rest)) i x)
    go true q zero u ih = record { element = e; good = good_model e g q; is_of = refl }
    go true q (suc i) u ih = ih i (le_of_suc-le-suc u)
    go false q i u ih = ih i u

abbrev pub nobody : Model
nobody = record { structure = 0; offset = 0; count = 0; listed = voxels [] }

module _ {text : List ℕ} {map : ℕ} (b : BrainAt text map) where
  pub good_one : (i : ℕ) → i < length (map_at text map).models → GoodOne (get_or (map_at text map).models i nobody)
  good_one i u =
      let e : (map_at text map).models ≡ each model_of (those is_model (elements (contents_of (the text map)))) = map_models (the text map)
      ∙ ap (each model_of) (models_are (the text map)) in
      rw e (good_among (elements (contents_of (the text map))) (brain_children b.good) nobody i (rw e at u))

  pub counts : (i : ℕ) → i < length (map_at text map).models → 1 ≤ (get_or (map_at text map).models i nobody).count
  counts i u = let o = good_one i u in rw o.is_of (count_some o.good)

  pub counting : Counting (map_at text map).models
  counting = counting_by nobody (map_at text map).models counts

  volume_small : InBits (map_at text map).volume
  volume_small = rw (map_volume (the text map)) (brain_sized b.good)

  -- where 12 does not apply, every location fits its record
  pub all_fits : any (λ x. beyond (map_at text map).volume x.listed) (map_at text map).models ≡ false
      → (i : ℕ) → i < length (map_at text map).models → (p : ℕ) → p < length (locations (get_or (map_at text map).models i nobody))
      → Fits (get_or (locations (get_or (map_at text map).models i nobody)) p (on_surface 0 0))
  all_fits h i u p v =
      let o = good_one i u in
      let k = none_beyond nobody (map_at text map).volume (map_at text map).models h i u in
      rw o.is_of (model_fits (map_at text map).volume o.good volume_small (rw o.is_of at k) p (rw o.is_of at v))

pub sum_is : {text : List ℕ} {map : ℕ} → BrainAt text map → length_of (map_at text map) ≡ total (λ x. x.count) (map_at text map).models
sum_is {text} {map} b = brain_sum (the text map) b.is_brain_lem

-- where 11 does not apply, every model has its place in the map
all_places : {text : List ℕ} {map : ℕ} → BrainAt text map → uneven (map_at text map) ≡ false
    → Fitting model_records (length_of (map_at text map)) (map_at text map).models
all_places {text} {map} b e = fitting nobody (map_at text map) e (counting b) (sum_is b)

pub in_range_lem : {text : List ℕ} {map : ℕ} → BrainAt text map → uneven (map_at text map) ≡ false → (i : ℕ)
    → i < length (map_at text map).models
    → (get_or (map_at text map).models i nobody).offset + (get_or (map_at text map).models i nobody).count ≤ length_of (map_at text map)
in_range_lem b e i u = (fits_by (all_places b e) nobody i u).1

module _ {text : List ℕ} {map : ℕ} {m : Models} {room start : ℕ} (r : MapReady text map m room start) where
  places : Fitting model_records (length_of (map_at text map)) (map_at text map).models
  places = all_places r.brain r.even

  held : BrainHeld text map m
  held = record { brain = r.brain; held = r.gathered }

  many : (i : ℕ) → i < m.count → i < length (map_at text map).models
  many i h = omega (arith, held_count held)

  is_at : (i : ℕ) → i < m.count → get_or (map_at text map).models i nobody ≡ nth_model text m i
  is_at i h = held_at held nobody i h

  fits_in : (i : ℕ) → i < m.count → AllFit (locations (nth_model text m i))
  fits_in i h = rw (is_at i h) at (all_fit (locations (get_or (map_at text map).models i nobody))
      (all_fits r.brain r.in_volume_lem i (many i h)))

  place_in : (i : ℕ) → i < m.count → start + (nth_model text m i).offset + length (model_records (nth_model text m i)) ≤ room
  place_in i h =
      let (x, y) = fits_by places nobody i (many i h) in
      let x₁ : length (model_records (nth_model text m i)) ≡ (nth_model text m i).count = rw (is_at i h) at x in
      let y₁ : (nth_model text m i).offset + (nth_model text m i).count ≤ length_of (map_at text map) = rw (is_at i h) at y in
      omega (arith, r.enough)

  sum_in : length_of (map_at text map) ≡ total (λ x. x.count) (models_at text m)
  sum_in = sum_is r.brain ∙ ap (total (λ x. x.count)) (held_models held)

  pub ready_placing : Placing text m room start
  ready_placing = record {
    holding = holding r.gathered;
    fits = fits_in;
    place = place_in;
    sum = omega (arith, sum_in, r.enough);
  }

  pub ready_filled : {before : List ℕ} {n : ℕ} {after : List ℕ} → ModelsPlaced text m before start n after → length before ≡ room
      → Filled text map before start n after
  ready_filled {before} p e = record {
    written = p.written ∙ ap (λ l. filled model_records start l before) (sym (held_models held))
        ∙ table_law nobody (map_at text map) r.even (counting r.brain) (sum_is r.brain) start before (omega (arith, r.enough));
    counted = p.counted ∙ sym sum_in;
  }
