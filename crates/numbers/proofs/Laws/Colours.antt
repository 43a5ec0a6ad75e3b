-- Colours: a decimal beside 0 and 1, in value, and what a program of 64 bits may ask instead.
use Rattle.std.specs.Prelude.{◌≡◌, refl, Bool, true, false, ◌&&◌, ℕ, zero, suc, ◌+◌, ◌*◌, ◌^◌, ◌≤◌, ◌<◌, leb, ℤ, pos, negsuc, neg_ℤ, nat_abs, Option, Some, None}
use Rattle.std.proofs.Common.{sym, ap, ◌∙◌, true≢false, arith, SFits, of_z, to_z, le-leb, leb-true, leb-false, ltb-true, ltb-false}
use Rattle.std.specs.Int.Signed.{lt_z}
use Rattle.std.specs.Int.{w64}
use Rattle.std.proofs.lemmas.Int.{to_z-of_z}
use Rattle.std.proofs.lemmas.Bool.{lt-leb}
use Rattle.lists.proofs.Laws.Booleans.{clash}
use Rattle.grammar.specs.Look.{Word}
use Rattle.numbers.specs.Numbers.{up, down, in_value, no_more, no_less, at_most, at_least, decimal, decimal_value, colour}
use Rattle.numbers.proofs.Laws.Cuts.{powers}
use Rattle.numbers.proofs.Laws.InValue.{ten, grows, not_less, as_it_is}
use Rattle.numbers.specs.Answers.{places_in, shade}

-- BY THE AMOUNT AND THE POWER
nothing_less : (m : ℕ) → 1 ≤ m → no_less 0 (neg_ℤ (pos m)) ≡ false
unfolding no_less
nothing_less zero h = absurd (omega arith)
nothing_less (suc m) h = refl

below : (m : ℕ) (p : ℤ) → shade (negsuc m) p ≡ false
unfolding shade in_value
below m p =
    let g = grows (suc m) (10 ^ up p) (ten (up p)) in
    let z : 0 * 10 ^ down p ≡ 0 = omega arith in
    let e : no_less (0 * 10 ^ down p) (neg_ℤ (pos (suc m * 10 ^ up p))) ≡ false = rw z (nothing_less (suc m * 10 ^ up p) (omega arith)) in
    rw e refl

above : (m : ℕ) (p : ℤ) → shade (pos m) p ≡ leb (m * 10 ^ up p) (10 ^ down p)
unfolding shade in_value no_less no_more
above m p =
    let z : 0 * 10 ^ down p ≡ 0 = omega arith in
    let o : 1 * 10 ^ down p ≡ 10 ^ down p = omega arith in
    rw (z, o, le-leb 0 (m * 10 ^ up p) (omega arith)) refl

nothing : (p : ℤ) → shade (pos 0) p ≡ true
nothing p = let z : 0 * 10 ^ up p ≡ 0 = omega arith in above 0 p ∙ rw z (le-leb 0 (10 ^ down p) (omega arith))

too_much : (m u : ℕ) → shade (pos (suc m)) (pos (suc u)) ≡ false
unfolding up down
too_much m u =
    let g = grows (suc m) (10 ^ suc u) (ten (suc u)) in
    let e : suc m * 10 ^ suc u ≡ 10 ^ suc u + m * 10 ^ suc u = omega arith in
    let t : 10 ^ 1 ≤ 10 ^ suc u = powers 1 (suc u) (omega arith) in
    above (suc m) (pos (suc u)) ∙ lt-leb (suc m * 10 ^ suc u) (10 ^ 0) (omega arith)

plain : (m : ℕ) (p : ℤ) → up p ≡ 0 → shade (pos m) p ≡ leb m (10 ^ down p)
plain m p h = let e : m * 10 ^ 0 ≡ m = omega arith in above m p ∙ rw (h, e) refl

few : (p : ℤ) {k : ℕ} → places_in p ≡ Some k → (up p ≡ 0) × ((down p ≡ k) × (k ≤ 18))
unfolding places_in
few p {k} e = go (leb (up p) 0) (leb (down p) 18) refl refl
  where
    go : (t u : Bool) → leb (up p) 0 ≡ t → leb (down p) 18 ≡ u → (up p ≡ 0) × ((down p ≡ k) × (k ≤ 18))
    go true true i j =
        let q : Some (down p) ≡ Some k = sym (rw (i, j) refl) ∙ e in
        let z = leb-true (up p) 0 i in
        let d : down p ≡ k = cc in
        (omega arith, (d, omega (arith, leb-true (down p) 18 j, d)))
    go true false i j = let q : None ≡ Some k = sym (rw (i, j) refl) ∙ e in clash (cc)
    go false u i j = let q : None ≡ Some k = sym (rw i refl) ∙ e in clash (cc)

many : (p : ℤ) → places_in p ≡ None → up p ≡ 0 → 18 < down p
unfolding places_in
many p e h = go (leb (down p) 18) refl
  where
    go : (u : Bool) → leb (down p) 18 ≡ u → 18 < down p
    go true j =
        let o : leb (up p) 0 ≡ true = rw h (le-leb 0 0 (omega arith)) in
        let q : Some (down p) ≡ None = sym (rw (o, j) refl) ∙ e in
        clash (cc)
    go false j = leb-false (down p) 18 j

not_up : (z : ℤ) → lt_z (pos 0) z ≡ false → up z ≡ 0
unfolding up
not_up (pos m) k = let j = ltb-false 0 m k in omega arith
not_up (negsuc m) k = refl

-- WHAT A PROGRAM FINDS
pub shade_less : (a : ℤ) → SFits w64 a → (p : ℤ) → lt_z (to_z w64 (of_z w64 a)) (pos 0) ≡ true → false ≡ shade a p
shade_less a f p h = go a (rw (to_z-of_z w64 a f) at h)
  where
    go : (z : ℤ) → lt_z z (pos 0) ≡ true → false ≡ shade z p
    go (pos m) k = absurd (let j = ltb-true m 0 k in omega arith)
    go (negsuc m) k = sym (below m p)

module _ (n : ℕ) (p : ℤ) (f : SFits w64 p) where
  pub shade_zero : n ≡ 0 → true ≡ shade (pos n) p
  shade_zero e = rw e (sym (nothing p))

  pub shade_much : (n ≡ 0 → ⊥) → lt_z (pos 0) (to_z w64 (of_z w64 p)) ≡ true → false ≡ shade (pos n) p
  shade_much z h = go n p z (rw (to_z-of_z w64 p f) at h)
    where
      go : (m : ℕ) (q : ℤ) → (m ≡ 0 → ⊥) → lt_z (pos 0) q ≡ true → false ≡ shade (pos m) q
      go zero q i k = absurd (i refl)
      go (suc m) (pos zero) i k = absurd (let j = ltb-true 0 0 k in omega arith)
      go (suc m) (pos (suc u)) i k = sym (too_much m u)
      go (suc m) (negsuc u) i k = absurd (true≢false (sym k))

  module _ {r : Option ℕ} (e : r ≡ places_in (to_z w64 (of_z w64 p))) where
    placed : r ≡ places_in p
    placed = e ∙ ap places_in (to_z-of_z w64 p f)

    pub shade_few : {k : ℕ} → r ≡ Some k → k ≤ 18
    shade_few h = (few p (sym placed ∙ h)).1.1

    pub shade_places : {k : ℕ} → r ≡ Some k → {t : ℕ} → t ≡ 10 ^ k → leb n t ≡ shade (pos n) p
    shade_places h {t} q =
        let d = few p (sym placed ∙ h) in
        ap (leb n) (q ∙ ap (λ i. 10 ^ i) (sym d.1.0)) ∙ sym (plain n p d.0)

    pub shade_little : n < 2 ^ 63 → r ≡ None → lt_z (pos 0) (to_z w64 (of_z w64 p)) ≡ false → true ≡ shade (pos n) p
    shade_little l h k =
        let u = not_up p (rw (to_z-of_z w64 p f) at k) in
        let t : 10 ^ 19 ≤ 10 ^ down p = powers 19 (down p) (many p (sym placed ∙ h) u) in
        sym (plain n p u ∙ le-leb n (10 ^ down p) (omega arith))

-- an amount that is not below 0
module _ (a : ℤ) (f : SFits w64 a) (h : lt_z (to_z w64 (of_z w64 a)) (pos 0) ≡ false) where
  pub shade_above : (p : ℤ) {t : Bool} → t ≡ shade (pos (nat_abs (to_z w64 (of_z w64 a)))) p → t ≡ shade a p
  shade_above p e = e ∙ ap (λ z. shade z p) (ap pos (ap nat_abs (as_it_is a f h)) ∙ sym (not_less a f h).1)

  pub shade_bound : nat_abs (to_z w64 (of_z w64 a)) < 2 ^ 63
  shade_bound = let g = (not_less a f h).2 in rw (as_it_is a f h) g

-- A COLOUR is a decimal of such a value.
pub colour_is : (w : Word) → colour w ≡ (decimal w && shade (decimal_value w).amount (decimal_value w).power)
unfolding colour at_least at_most shade
colour_is w = refl
