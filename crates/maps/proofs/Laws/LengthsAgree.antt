-- What is proved of LengthsAgree.
use Rattle.std.specs.Prelude.{◌≡◌, refl, List, [], ◌∷◌, Bool, ◌||◌, ◌&&◌, ℕ, ◌+◌, ◌≤◌, ◌<◌, min, length, get_or}
use Rattle.std.proofs.Math.Path.{sym, ap}
use Rattle.std.proofs.Common.{◌∙◌, arith, rules}
use Rattle.std.proofs.Math.Bool.{true, false, not, true≢false}
use Rattle.std.proofs.Math.Decide.{dec_lt}
use Rattle.std.proofs.Math.Dec.{eqb}
use Rattle.std.proofs.Math.ListN.{get_or-eq_default}
use borrow.Author.Tests.{eqb-true, eq-eqb, ne_eqb, not-true}
use Rattle.lists.proofs.Laws.Booleans.{and_left, and_right, and_true}
use Rattle.lists.specs.Lists.{any, count}
use Rattle.grammar.specs.Look.{attr}
use Rattle.nodes.specs.Places.{the}
use Rattle.cifti.specs.Maps.{Map, map_of, dimensions_of}
use Rattle.cifti.specs.Conditions.{length_wrong}
use Rattle.maps.proofs.Laws.MapKind.{map_dimensions}
use Rattle.maps.proofs.Laws.Dimensions.{values_small}
use Rattle.maps.proofs.Laws.Listed.{any_some, any_none}
use Rattle.maps.specs.Survey.{Noted}
use Rattle.maps.specs.Ready.{Ready, maps_at}
use Rattle.maps.specs.Over.{note_at}
use Rattle.maps.proofs.Laws.Over.{Over, over_start, over_done, over_place, over_note, over_here, over_next, from}
use Rattle.maps.specs.declared.survey.MapNote.{MapNote}
use Rattle.maps.specs.declared.survey.Maps.{Maps}
use Rattle.maps.specs.LengthsAgree.{differs, differs_at, DigitOf}

pub length_past : (l : List ℕ) (d : ℕ) → length l ≤ d → 0 ≡ get_or l d 0
length_past l d h = sym (get_or-eq_default l 0 h)

pub ruleset length_there = (length_past, rules)

-- ---- One map: ten digits.

module _ (size : ℕ) (lengths l : List ℕ) (d : ℕ) {x : ℕ} (p : x ≡ get_or lengths d 0) where
  pub differs_same : x ≡ size → false ≡ differs_at size lengths l d
  unfolding differs_at
  differs_same e = rw (eq-eqb size (get_or lengths d 0) (sym e ∙ p))

  pub differs_listed : (x ≡ size → ⊥) → {c : ℕ} → c ≡ min 2 (count (eqb d) l) → not (eqb c 0) ≡ differs_at size lengths l d
  unfolding differs_at
  differs_listed ne {c} q = rw (ne_eqb size (get_or lengths d 0) (λ e. ne (p ∙ sym e))) (ap not (by (eqb (count (eqb d) l) 0) refl))
    where
      by : (b : Bool) → eqb (count (eqb d) l) 0 ≡ b → eqb c 0 ≡ b
      by true e = let z = eqb-true (count (eqb d) l) 0 e in eq-eqb c 0 (omega arith)
      by false e = ne_eqb c 0 (λ z. true≢false (sym (eq-eqb (count (eqb d) l) 0 (omega arith)) ∙ e))

module _ {text : List ℕ} {n : MapNote} {d : ℕ} (o : DigitOf text n d) where
  pub digit_place : d < 10
  digit_place = o.digit

  pub differs_told : (lengths : List ℕ) {x : ℕ} → x ≡ get_or lengths d 0 → (x ≡ n.length → ⊥)
      → not (eqb (get_or n.lists.has d 0) 0) ≡ differs_at n.length lengths (dimensions_of (the text n.at)) d
  differs_told lengths p k = differs_listed n.length lengths (dimensions_of (the text n.at)) d p k
      (o.noted.lists.tells d o.digit)

pub ruleset differing = (differs_same, differs_told, digit_place, rules)

pub record Comparing (text : List ℕ) (n : MapNote) (lengths : List ℕ) (d : ℕ) : Type 0 where
  pub noted : Noted text n
  pub fine : (e : ℕ) → e < d → (count (eqb e) (dimensions_of (the text n.at)) ≡ 0 → ⊥) → not (eqb n.length (get_or lengths e 0)) ≡ false

module _ {text : List ℕ} {n : MapNote} {lengths : List ℕ} where
  pub comparing_start : Noted text n → Comparing text n lengths 0
  comparing_start m = record { noted = m; fine = λ e u k. absurd (omega arith) }

  module _ {d : ℕ} (go : Comparing text n lengths d) where
    pub comparing_asks : d < 10 → DigitOf text n d
    comparing_asks u = record { noted = go.noted; digit = u }

    pub comparing_differs : {b : Bool} → b ≡ differs_at n.length lengths (dimensions_of (the text n.at)) d → b ≡ true
        → true ≡ differs n.length lengths (dimensions_of (the text n.at))
    unfolding differs differs_at
    comparing_differs p t =
        let h : (not (eqb n.length (get_or lengths d 0)) && not (eqb (count (eqb d) (dimensions_of (the text n.at))) 0)) ≡ true =
        sym p ∙ t in
        let k = not-true _ (and_right (not (eqb n.length (get_or lengths d 0))) _ h) in
        sym (any_some (λ e. not (eqb n.length (get_or lengths e 0))) d (dimensions_of (the text n.at)) (and_left _ _ h)
        (λ z. true≢false (sym (eq-eqb (count (eqb d) (dimensions_of (the text n.at))) 0 z) ∙ k)))

    pub comparing_more : {b : Bool} → b ≡ differs_at n.length lengths (dimensions_of (the text n.at)) d → b ≡ false
        → Comparing text n lengths (d + 1)
    unfolding differs_at
    comparing_more p f = record { noted = go.noted; fine = λ e u k. by e u k (dec_lt e d) }
      where
        here : (count (eqb d) (dimensions_of (the text n.at)) ≡ 0 → ⊥) → not (eqb n.length (get_or lengths d 0)) ≡ false
        here k =
            let z : eqb (count (eqb d) (dimensions_of (the text n.at))) 0 ≡ false = ne_eqb _ 0 k in
            let h : (not (eqb n.length (get_or lengths d 0)) && not (eqb (count (eqb d) (dimensions_of (the text n.at))) 0)) ≡ false =
            sym p ∙ f in
            sym (and_true _) ∙ rw z at h

        by : (e : ℕ) → e < d + 1 → (count (eqb e) (dimensions_of (the text n.at)) ≡ 0 → ⊥) → Dec (e < d)
            → not (eqb n.length (get_or lengths e 0)) ≡ false
        by e u k (yes v) = go.fine e v k
        by e u k (no v) = let z : e ≡ d = omega arith in rw z (here (rw z at k))

    pub comparing_done : 10 ≤ d → false ≡ differs n.length lengths (dimensions_of (the text n.at))
    unfolding differs dimensions_of
    comparing_done h =
        sym (any_none (λ e. not (eqb n.length (get_or lengths e 0))) (dimensions_of (the text n.at))
        (values_small (attr "AppliesToMatrixDimension" (the text n.at)) (map_dimensions go.noted.map.good))
        (λ e u k. go.fine e (omega arith) k))

pub ruleset comparing = (comparing_start, comparing_asks, comparing_differs, comparing_more, comparing_done, rules)

-- ---- Map after map.

pub record Agree (lengths : List ℕ) (all l : List Map) : Type 0 where
  pub so_far : length_wrong lengths all ≡ length_wrong lengths l

module _ {text : List ℕ} {maps : Maps} where
  pub agree_start : (lengths : List ℕ) → Ready text maps → Over text maps (Agree lengths (maps_at text maps)) 0
  agree_start lengths r = over_start r (record { so_far = refl })

  module _ {lengths : List ℕ} {i : ℕ} (go : Over text maps (Agree lengths (maps_at text maps)) i) where
    pub agree_done : maps.count ≤ i → false ≡ length_wrong lengths (maps_at text maps)
    unfolding length_wrong any
    agree_done h = sym (over_done go h).so_far

    module _ (u : i < maps.count) {n : MapNote} (e : n ≡ note_at maps i) where
      pub agree_note : Noted text n
      agree_note = over_note go u e

      module _ {b : Bool} (q : b ≡ differs n.length lengths (dimensions_of (the text n.at))) where
        split : (l : List Map) → length_wrong lengths (map_of (the text n.at) ∷ l) ≡ (b || length_wrong lengths l)
        unfolding length_wrong any differs map_of
        split l = ap (λ t. t || length_wrong lengths l)
            (sym (q ∙ ap (λ k. any (λ d. not (eqb k (get_or lengths d 0))) (dimensions_of (the text n.at))) agree_note.long))

        pub agree_wrong : b ≡ true → true ≡ length_wrong lengths (maps_at text maps)
        agree_wrong t = sym ((over_here go u e).so_far ∙ rw t at (split (from text maps (i + 1))))

        pub agree_more : b ≡ false → Over text maps (Agree lengths (maps_at text maps)) (i + 1)
        agree_more f = over_next go u e (λ l s. record { so_far = s.so_far ∙ rw f at (split l) })

pub ruleset agreeing = (agree_start, agree_done, over_place, agree_note, agree_wrong, agree_more, rules)
