-- What is proved of Dimensions.
use Rattle.std.specs.Prelude.{◌≡◌, refl, List, [], ◌∷◌, Bool, true, false, cond, eqb, ltb, length, get_or}
use Rattle.std.proofs.Math.Path.{sym, ap}
use Rattle.std.proofs.Common.{◌∙◌, length-append, rules, lt-ltb, le-ltb, eq-eqb, ne_eqb}
use Prim.Native.Nat.{ℕ, ◌+◌, ◌≤◌, ◌<◌, ◌^◌, min}
use native.Mathlib.Omega.{arith}
use Rattle.std.proofs.Math.Decide.{dec_lt}
use Rattle.lists.specs.Lists.{count, those, each_in}
use Rattle.grammar.specs.Look.{attr}
use Rattle.nodes.specs.Places.{the}
use Rattle.cifti.specs.Maps.{Map, map_of, is_labels, dimensions_of, labels_maps}
use Rattle.cifti.specs.Conditions.{listed_dimensions, labels_twice}
use Rattle.maps.proofs.Laws.MapKind.{map_dimensions}
use Rattle.maps.proofs.Laws.Dimensions.{Small, no_small, one_small, values_small}
use Rattle.maps.specs.Survey.{Noted}
use Rattle.maps.specs.Ready.{Ready, maps_at}
use Rattle.maps.specs.Over.{note_at, map_on}
use Rattle.maps.proofs.Laws.Over.{Over, over_start, over_done, over_place, over_note, over_next}
use Rattle.maps.specs.declared.survey.MapNote.{MapNote}
use Rattle.maps.specs.declared.survey.Maps.{Maps}
use Rattle.labels.specs.Dimensions.{labelled}

-- ---- Of a map: those of its dimensions that are below d.

unfoldable pub below : ℕ → List ℕ → ℕ
below d l = count (λ e. ltb e d) l

below_none : (l : List ℕ) → below 0 l ≡ 0
unfolding below count
below_none [] = refl
below_none (e ∷ l) = let h = below_none l in rw (le-ltb e 0 (omega arith)) (omega arith)

below_more : (d : ℕ) (l : List ℕ) → below (d + 1) l ≡ below d l + count (eqb d) l
unfolding below count
below_more d [] = refl
below_more d (e ∷ l) = let h = below_more d l in let s = step (dec_lt e d) (dec_lt d e) in omega arith
  where
    step : Dec (e < d) → Dec (d < e) → cond (ltb e (d + 1)) 1 0 ≡ cond (ltb e d) 1 0 + cond (eqb d e) 1 0
    step (yes u) v = rw (lt-ltb e (d + 1) (omega arith), lt-ltb e d u, ne_eqb d e (λ q. omega arith)) refl
    step (no u) (yes v) = rw (le-ltb e (d + 1) (omega arith), le-ltb e d (omega arith), ne_eqb d e (λ q. omega arith)) refl
    step (no u) (no v) = rw (lt-ltb e (d + 1) (omega arith), le-ltb e d (omega arith), eq-eqb d e (omega arith)) refl

below_all : (d : ℕ) → 10 ≤ d → {l : List ℕ} → Small l → below d l ≡ length l
unfolding below count
below_all d u no_small = refl
below_all d u (one_small {d = e} {l} v s) = let h = below_all d u s in rw (lt-ltb e d (omega arith)) (omega arith)

small_of : {text : List ℕ} {n : MapNote} → Noted text n → Small (dimensions_of (the text n.at))
unfolding dimensions_of
small_of {text} {n} m = values_small (attr "AppliesToMatrixDimension" (the text n.at)) (map_dimensions m.map.good)

-- the digits below d are added up to n
pub record Adding (text : List ℕ) (note : MapNote) (n d : ℕ) : Type 0 where
  pub noted : Noted text note
  pub so_far : n ≡ min 2 (below d (dimensions_of (the text note.at)))

module _ {text : List ℕ} {note : MapNote} where
  pub adding_start : Noted text note → Adding text note 0 0
  adding_start m = let z = below_none (dimensions_of (the text note.at)) in record { noted = m; so_far = omega arith }

  module _ {n d : ℕ} (go : Adding text note n d) where
    pub adding_done : 10 ≤ d → n ≡ min 2 (length (dimensions_of (the text note.at)))
    adding_done u = let s = go.so_far in let b = below_all d u (small_of go.noted) in omega arith

    module _ (u : d < 10) where
      told : get_or note.lists.has d 0 ≡ min 2 (count (eqb d) (dimensions_of (the text note.at)))
      told = go.noted.lists.tells d u

      pub adding_fits : n + get_or note.lists.has d 0 < 2 ^ 64
      adding_fits = let t = told in let s = go.so_far in omega arith

      pub adding_more : {k : ℕ} → k ≡ min 2 (n + get_or note.lists.has d 0) → Adding text note k (d + 1)
      adding_more h =
          let t = told in
          let s = go.so_far in
          let b = below_more d (dimensions_of (the text note.at)) in
          record { noted = go.noted; so_far = omega arith }

pub ruleset adding = (adding_start, adding_done, adding_fits, adding_more, rules)

module _ {text : List ℕ} {n : MapNote} (m : Noted text n) {b : Bool} (e : b ≡ is_labels n.kind) where
  pub labelled_all : b ≡ true → {k : ℕ} → k ≡ min 2 (length (dimensions_of (the text n.at)))
      → k ≡ min 2 (length (labelled (map_on text n)))
  unfolding labelled map_of
  labelled_all t h = h ∙ sym (rw (← m.kind_is, sym e ∙ t) refl)

  pub labelled_none : b ≡ false → 0 ≡ min 2 (length (labelled (map_on text n)))
  unfolding labelled map_of
  labelled_none f = sym (rw (← m.kind_is, sym e ∙ f) refl)

pub ruleset labelling = (labelled_all, labelled_none, rules)

-- ---- Map after map.

abbrev all_labelled : List Map → ℕ
all_labelled l = length (listed_dimensions (labels_maps l))

one_more : (m : Map) (l : List Map) → all_labelled (m ∷ l) ≡ length (labelled m) + all_labelled l
unfolding labels_maps those listed_dimensions each_in labelled
one_more m l = go (is_labels m.kind)
  where
    go : (b : Bool) → length (listed_dimensions (cond b (m ∷ labels_maps l) (labels_maps l)))
        ≡ length (cond b m.dimensions []) + all_labelled l
    go true = length-append m.dimensions (listed_dimensions (labels_maps l))
    go false = omega arith

-- n are told so far, up to two
pub record Tally (all : List Map) (n : ℕ) (l : List Map) : Type 0 where
  pub low : n ≤ 2
  pub so_far : min 2 (all_labelled all) ≡ min 2 (n + all_labelled l)

two_told : (n : ℕ) → ltb 1 (min 2 n) ≡ ltb 1 n
two_told n = by (dec_lt 1 n)
  where
    by : Dec (1 < n) → ltb 1 (min 2 n) ≡ ltb 1 n
    by (yes u) = lt-ltb 1 (min 2 n) (omega arith) ∙ sym (lt-ltb 1 n u)
    by (no u) = le-ltb 1 (min 2 n) (omega arith) ∙ sym (le-ltb 1 n (omega arith))

pub tally_start : {text : List ℕ} {maps : Maps} → Ready text maps → Over text maps (Tally (maps_at text maps) 0) 0
tally_start r = over_start r (record { low = omega arith; so_far = omega arith })

module _ {text : List ℕ} {maps : Maps} {n i : ℕ} (go : Over text maps (Tally (maps_at text maps) n) i) where
  pub tally_done : maps.count ≤ i → ltb 1 n ≡ labels_twice (maps_at text maps)
  unfolding labels_twice labels_maps those listed_dimensions each_in
  tally_done u =
      let t = over_done go u in
      let s = t.so_far in
      let l = t.low in
      let e : n ≡ min 2 (all_labelled (maps_at text maps)) = omega arith in
      ap (ltb 1) e ∙ two_told (all_labelled (maps_at text maps))

  module _ (u : i < maps.count) {m : MapNote} (e : m ≡ note_at maps i) {k : ℕ} (h : k ≡ min 2 (length (labelled (map_on text m)))) where
    pub tally_fits : n + k < 2 ^ 64
    tally_fits = let l = go.left.low in omega arith

    pub tally_more : {j : ℕ} → j ≡ min 2 (n + k) → Over text maps (Tally (maps_at text maps) j) (i + 1)
    tally_more {j} q = over_next go u e (λ l t. step l t)
      where
        step : (l : List Map) → Tally (maps_at text maps) n (map_on text m ∷ l) → Tally (maps_at text maps) j l
        step l t = let s = t.so_far in let o = one_more (map_on text m) l in record { low = omega arith; so_far = omega arith }

pub ruleset tallying = (tally_start, tally_done, over_place, over_note, tally_fits, tally_more, rules)
