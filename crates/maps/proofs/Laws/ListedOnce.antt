-- What is proved of ListedOnce.
use Rattle.std.specs.Prelude.{◌≡◌, Bool, true, false, ℕ, ◌+◌, ◌≤◌, ◌<◌, ◌^◌, min, eqb, length, get_or}
use Rattle.std.proofs.Common.{sym, ◌∙◌, rules, lt-ltb, le-ltb}
use mathlib.Core.List.{List, [], ◌∷◌, ◌++◌}
use native.Mathlib.Omega.{arith}
use Rattle.std.proofs.Math.Decide.{dec_lt}
use Rattle.lists.specs.Lists.{count, each_in}
use Rattle.nodes.specs.Places.{the}
use Rattle.cifti.specs.Maps.{Map, map_of, dimensions_of}
use Rattle.cifti.specs.Conditions.{listed_dimensions, dimensions_wrong}
use Rattle.maps.specs.Ready.{matrix_maps, maps_at}
use Rattle.maps.proofs.Laws.Ready.{good_maps, small_listed, maps_many, maps_ready, maps_same}
use Rattle.maps.specs.Over.{note_at}
use Rattle.maps.proofs.Laws.Over.{Over, over_start, over_done, over_place, over_note, over_next}
use Rattle.maps.specs.Listed.{wanted}
use Rattle.maps.proofs.Laws.Listed.{wrong_at, right_all}
use Rattle.maps.proofs.Laws.Dimensions.{Small}
use Rattle.maps.specs.declared.survey.MapNote.{MapNote}
use Rattle.maps.specs.declared.survey.Maps.{Maps}
use Rattle.maps.specs.ListedOnce.{Asking, Surveyed}

-- ---- How often a dimension is listed, map after map.

count_append : (p : ℕ → Bool) (k l : List ℕ) → count p (k ++ l) ≡ count p k + count p l
unfolding count
count_append p [] l = omega arith
count_append p (a ∷ k) l = let h = count_append p k l in omega arith

-- told n times so far, and as often as the maps that are left list it
pub record Tally (all : List Map) (d n : ℕ) (l : List Map) : Type 0 where
  pub low : n ≤ 2
  pub so_far : min 2 (count (eqb d) (listed_dimensions all)) ≡ min 2 (n + count (eqb d) (listed_dimensions l))

pub tally_start : {text : List ℕ} {maps : Maps} {d : ℕ} → Asking text maps d → Over text maps (Tally (maps_at text maps) d 0) 0
tally_start {text} {maps} {d} a = over_start a.ready (record { low = omega arith; so_far = omega arith })

module _ {text : List ℕ} {maps : Maps} {d n i : ℕ} (go : Over text maps (Tally (maps_at text maps) d n) i) where
  pub tally_done : maps.count ≤ i → n ≡ min 2 (count (eqb d) (listed_dimensions (maps_at text maps)))
  unfolding listed_dimensions each_in count
  tally_done u = let t = over_done go u in let s = t.so_far in let l = t.low in omega arith

  module _ (u : i < maps.count) {m : MapNote} (e : m ≡ note_at maps i) (digit : d < 10) where
    pub tally_fits : n + get_or m.lists.has d 0 < 2 ^ 64
    tally_fits = let t = (over_note go u e).lists.tells d digit in let l = go.left.low in omega arith

    pub tally_more : {k : ℕ} → k ≡ min 2 (n + get_or m.lists.has d 0) → Over text maps (Tally (maps_at text maps) d k) (i + 1)
    unfolding listed_dimensions each_in map_of
    tally_more {k} h = over_next go u e (λ l t. step l t)
      where
        step : (l : List Map) → Tally (maps_at text maps) d n (map_of (the text m.at) ∷ l) → Tally (maps_at text maps) d k l
        step l t =
            let c = (over_note go u e).lists.tells d digit in
            let s = t.so_far in
            let w = count_append (eqb d) (dimensions_of (the text m.at)) (listed_dimensions l) in
            record { low = omega arith; so_far = omega arith }

pub ruleset tallying = (tally_start, tally_done, over_place, tally_fits, tally_more, rules)

pub wanted_one : (n d : ℕ) → d < n → 1 ≡ wanted n d
unfolding wanted
wanted_one n d h = rw (lt-ltb d n h)

pub wanted_none : (n d : ℕ) → n ≤ d → 0 ≡ wanted n d
unfolding wanted
wanted_none n d h = rw (le-ltb d n h)

pub ruleset wanting = (wanted_one, wanted_none, rules)

pub record Judging (text : List ℕ) (m : ℕ) (maps : Maps) (lengths : List ℕ) (d : ℕ) : Type 0 where
  pub asked : Surveyed text m maps lengths
  pub few : maps.count ≤ 3
  pub fine : (e : ℕ) → e < d → min 2 (count (eqb e) (listed_dimensions (maps_at text maps))) ≡ wanted (length lengths) e

module _ {text : List ℕ} {m : ℕ} {maps : Maps} {lengths : List ℕ} where
  pub once_many : Surveyed text m maps lengths → 3 < maps.count → true ≡ dimensions_wrong lengths (matrix_maps (the text m))
  once_many s h = sym (maps_many s.are s.good lengths s.few h)

  pub once_start : Surveyed text m maps lengths → maps.count ≤ 3 → Judging text m maps lengths 0
  once_start s h = record { asked = s; few = h; fine = λ e u. absurd (omega arith) }

  module _ {d : ℕ} (go : Judging text m maps lengths d) where
    same : maps_at text maps ≡ matrix_maps (the text m)
    same = maps_same go.asked.are go.asked.good go.few

    small : Small (listed_dimensions (maps_at text maps))
    unfolding matrix_maps
    small = rw same (small_listed (good_maps go.asked.good))

    pub once_asking : d < 10 → Asking text maps d
    once_asking u = record { ready = maps_ready go.asked.are go.asked.good go.few; digit = u }

    pub once_wrong : d < 10 → {c w : ℕ} → c ≡ min 2 (count (eqb d) (listed_dimensions (maps_at text maps))) → w ≡ wanted (length lengths) d
        → (c ≡ w → ⊥) → true ≡ dimensions_wrong lengths (matrix_maps (the text m))
    once_wrong u p q k = sym (rw (← same) (wrong_at lengths (maps_at text maps) small d u (λ z. k (p ∙ z ∙ sym q))))

    pub once_more : {c w : ℕ} → c ≡ min 2 (count (eqb d) (listed_dimensions (maps_at text maps))) → w ≡ wanted (length lengths) d → c ≡ w
        → Judging text m maps lengths (d + 1)
    once_more p q k = record { asked = go.asked; few = go.few; fine = λ e u. by e u (dec_lt e d) }
      where
        by : (e : ℕ) → e < d + 1 → Dec (e < d) → min 2 (count (eqb e) (listed_dimensions (maps_at text maps))) ≡ wanted (length lengths) e
        by e u (yes v) = go.fine e v
        by e u (no v) = let z : e ≡ d = omega arith in rw z (sym p ∙ k ∙ q)

    pub once_done : 10 ≤ d → false ≡ dimensions_wrong lengths (matrix_maps (the text m))
    once_done h = sym (rw (← same) (right_all lengths (maps_at text maps) small (let f = go.asked.few in omega arith)
        (λ e u. go.fine e (omega arith))))

pub ruleset listed_once = (once_many, once_start, once_asking, once_wrong, once_more, once_done, rules)
