-- What is proved of Over.
use Rattle.std.specs.Prelude.{◌≡◌, List, [], ◌∷◌, map, ℕ, zero, suc, ◌+◌, ◌≤◌, ◌<◌, get_or, take, drop}
use Rattle.std.proofs.Math.Path.{refl, sym, ap}
use Rattle.std.proofs.Common.{◌∙◌, arith, le_of_suc-le-suc, rules, drop-cons, length-take-le}
use Rattle.std.proofs.Math.Numerals.{add-one}
use Rattle.std.proofs.Math.ListN.{length, drop_of_length-le, get_or-eq_default}
use Rattle.std.proofs.lemmas.List.{length-map}
use Rattle.std.proofs.Math.Seq.{get_or-take}
use Rattle.lists.specs.Lists.{each}
use Rattle.lists.proofs.Laws.Lists.{length_each}
use Rattle.nodes.specs.Places.{the}
use Rattle.cifti.specs.Maps.{Map, map_of}
use Rattle.maps.specs.Sums.{MapAt}
use Rattle.maps.specs.Survey.{Noted}
use Rattle.maps.specs.Ready.{Ready, no_note, map_places, maps_at}
use Rattle.maps.specs.declared.survey.MapNote.{MapNote}
use Rattle.maps.specs.declared.survey.Maps.{Maps}
use Rattle.maps.specs.Over.{map_on, note_at}

-- an entry within a list, whatever stands in for one that is not there
pub entry_same : {A : Type 0} (l : List A) (i : ℕ) (a b : A) → i < length l → get_or l i a ≡ get_or l i b
entry_same [] i a b u = absurd (omega arith)
entry_same (x ∷ l) zero a b u = refl
entry_same (x ∷ l) (suc i) a b u = entry_same l i a b (le_of_suc-le-suc u)

-- a list that was mapped, as an array of structs is told
pub mapped_long : (X Y : Type 0) (f : X → Y) (l : List X) (n : ℕ) → length (map f l) ≡ n → length l ≡ n
mapped_long X Y f l n e = sym (length-map l f) ∙ e

module _ (maps : Maps) {i : ℕ} (t : length maps.each ≡ 3) where
  pub note_in : i < 3 → (z : MapNote) → get_or maps.each i z ≡ note_at maps i
  unfolding note_at
  note_in h z = entry_same maps.each i z no_note (omega arith)

  pub note_past : 3 ≤ i → {n : MapNote} → n ≡ no_note → n ≡ note_at maps i
  unfolding note_at
  note_past h e = e ∙ sym (get_or-eq_default maps.each no_note (omega arith))

pub ruleset noting_at = (note_in, note_past, mapped_long, rules)

-- the maps from the i-th on
abbrev pub from : List ℕ → Maps → ℕ → List Map
from text maps i = each (λ p. map_of (the text p)) (drop i (map_places maps))

each_drop : {A B : Type 0} (f : A → B) (l : List A) (i : ℕ) → drop i (each f l) ≡ each f (drop i l)
unfolding each
each_drop f [] zero = refl
each_drop f [] (suc i) = refl
each_drop f (a ∷ l) zero = refl
each_drop f (a ∷ l) (suc i) = each_drop f l i

module _ {text : List ℕ} {maps : Maps} (r : Ready text maps) where
  many : length (take maps.count maps.each) ≡ maps.count
  many = let t = r.three in let f = r.few in length-take-le maps.count maps.each (omega arith)

  places_none : (i : ℕ) → maps.count ≤ i → drop i (map_places maps) ≡ []
  unfolding map_places
  places_none i u =
      let s : length (each (λ (n : MapNote). n.at) (take maps.count maps.each)) ≤ i =
      (let e = length_each (λ (n : MapNote). n.at) (take maps.count maps.each) in let m = many in omega arith) in
      drop_of_length-le (each (λ (n : MapNote). n.at) (take maps.count maps.each)) s

  pub places_one : (z : MapNote) (i : ℕ) → i < maps.count
      → drop i (map_places maps) ≡ (get_or maps.each i z).at ∷ drop (i + 1) (map_places maps)
  unfolding map_places each
  places_one z i u =
      let s : i < length (take maps.count maps.each) = (let m = many in omega arith) in
      each_drop (λ (n : MapNote). n.at) (take maps.count maps.each) i
      ∙ ap (each (λ (n : MapNote). n.at)) (drop-cons (take maps.count maps.each) i z s)
      ∙ rw (
        get_or-take maps.count maps.each i z u,
        add-one i,
        each_drop (λ (n : MapNote). n.at) (take maps.count maps.each) (suc i),
      ) refl

  pub from_none : (i : ℕ) → maps.count ≤ i → from text maps i ≡ []
  unfolding each
  from_none i u = ap (each (λ p. map_of (the text p))) (places_none i u)

  pub from_one : (z : MapNote) (i : ℕ) → i < maps.count → from text maps i ≡ map_on text (get_or maps.each i z) ∷ from text maps (i + 1)
  unfolding each
  from_one z i u = ap (each (λ p. map_of (the text p))) (places_one z i u)

-- P of the maps that are left
pub record Over (text : List ℕ) (maps : Maps) (P : List Map → Type 0) (i : ℕ) : Type 0 where
  pub ready : Ready text maps
  pub left : P (from text maps i)

module _ {text : List ℕ} {maps : Maps} {P : List Map → Type 0} where
  pub over_start : Ready text maps → P (maps_at text maps) → Over text maps P 0
  unfolding maps_at
  over_start r p = record { ready = r; left = p }

  module _ {i : ℕ} (go : Over text maps P i) where
    pub over_done : maps.count ≤ i → P []
    over_done u = rw (from_none go.ready i u) at go.left

    module _ (u : i < maps.count) where
      pub over_place : i < 3
      over_place = let f = go.ready.few in omega arith

      module _ {n : MapNote} (e : n ≡ note_at maps i) where
        pub over_note : Noted text n
        unfolding note_at
        over_note = rw e (go.ready.noted no_note i u)

        pub over_map : MapAt text n.at
        over_map = over_note.map

        -- what is known of the map and those behind it
        pub over_here : P (map_on text n ∷ from text maps (i + 1))
        unfolding note_at
        over_here = rw e (rw (from_one go.ready no_note i u) at go.left)

        pub over_next : {Q : List Map → Type 0} → ((l : List Map) → P (map_on text n ∷ l) → Q l) → Over text maps Q (i + 1)
        over_next f = record { ready = go.ready; left = f (from text maps (i + 1)) over_here }

pub ruleset over = (over_place, over_note, over_map)
