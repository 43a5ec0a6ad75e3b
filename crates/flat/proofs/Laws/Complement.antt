-- What is known of two's complement, and of a dimension as numbers.
use Rattle.std.specs.Prelude.{◌≡◌, refl, List, [], ◌∷◌, ◌++◌, true, false, ℕ, suc, ◌+◌, ◌-◌, ◌^◌, ◌≤◌, ◌<◌, T, ltb, ℤ, pos, negsuc, nat_abs, ◌-ℤ◌, replicate}
use Rattle.std.proofs.Common.{sym, ap, ◌∙◌, true≢false, arith, le-ltb, Fits, SFits, to_z, of_z}
use Rattle.std.specs.Int.Signed.{lt_z, non_neg}
use Rattle.std.specs.Int.{w64}
use Rattle.std.proofs.lemmas.Int.{to_z-of_z}
use Rattle.cifti.specs.Maps.{kind_number}
use Rattle.cifti.specs.declared.answer.Dimension.{Dimension}
use Rattle.flat.specs.Flat.{complement, dimension_numbers}

-- ---- Two's complement.

-- -1 less -(n + 1)
below : (n : ℕ) → negsuc 0 -ℤ negsuc n ≡ pos n
below n = let e : suc n - 1 ≡ n = omega arith in rw (le-ltb (suc n) 1 (omega arith), e)

not_below : (n : ℕ) → ltb n 0 ≡ true → ⊥
not_below n h = true≢false (sym h ∙ le-ltb n 0 (omega arith))

module _ (x : ℤ) (f : SFits w64 x) where
  module _ (negative : lt_z (to_z w64 (of_z w64 x)) (pos 0) ≡ true) where
    -- there is such a number, and x is below 0 by one more
    magnitude : (n : ℕ) × (x ≡ negsuc n) × (n < 2 ^ 63)
    magnitude = go x f (rw (to_z-of_z w64 x f) at negative)
      where
        go : (y : ℤ) → SFits w64 y → lt_z y (pos 0) ≡ true → (n : ℕ) × (y ≡ negsuc n) × (n < 2 ^ 63)
        go (pos n) k h = absurd (not_below n h)
        go (negsuc n) k h = (n, refl, k.sfits)

    less_is : negsuc 0 -ℤ to_z w64 (of_z w64 x) ≡ pos magnitude.0
    less_is = ap (λ z. negsuc 0 -ℤ z) (to_z-of_z w64 x f ∙ magnitude.1) ∙ below magnitude.0

    pub less_fits : SFits w64 (negsuc 0 -ℤ to_z w64 (of_z w64 x))
    less_fits = rw less_is (record { sfits = magnitude.2 })

    back : to_z w64 (of_z w64 (negsuc 0 -ℤ to_z w64 (of_z w64 x))) ≡ pos magnitude.0
    back = to_z-of_z w64 (negsuc 0 -ℤ to_z w64 (of_z w64 x)) less_fits ∙ less_is

    pub less_cast : T (non_neg (to_z w64 (of_z w64 (negsuc 0 -ℤ to_z w64 (of_z w64 x)))))
        × Fits w64 (nat_abs (to_z w64 (of_z w64 (negsuc 0 -ℤ to_z w64 (of_z w64 x)))))
    less_cast = let h = magnitude.2 in rw back (tt, record { fits = omega arith })

    pub less_room : nat_abs (to_z w64 (of_z w64 (negsuc 0 -ℤ to_z w64 (of_z w64 x)))) ≤ 18446744073709551615
    less_room = let h = magnitude.2 in rw back (omega arith)

    pub less_complement : 18446744073709551615 - nat_abs (to_z w64 (of_z w64 (negsuc 0 -ℤ to_z w64 (of_z w64 x)))) ≡ complement x
    less_complement = ap (λ z. 18446744073709551615 - nat_abs z) back ∙ sym (ap complement magnitude.1)

  module _ (whole : lt_z (to_z w64 (of_z w64 x)) (pos 0) ≡ false) where
    amount : (n : ℕ) × (x ≡ pos n) × (n < 2 ^ 63)
    amount = go x f (rw (to_z-of_z w64 x f) at whole)
      where
        go : (y : ℤ) → SFits w64 y → lt_z y (pos 0) ≡ false → (n : ℕ) × (y ≡ pos n) × (n < 2 ^ 63)
        go (pos n) k h = (n, refl, k.sfits)
        go (negsuc n) k h = absurd (true≢false h)

    same : to_z w64 (of_z w64 x) ≡ pos amount.0
    same = to_z-of_z w64 x f ∙ amount.1

    pub whole_cast : T (non_neg (to_z w64 (of_z w64 x))) × Fits w64 (nat_abs (to_z w64 (of_z w64 x)))
    whole_cast = let h = amount.2 in rw same (tt, record { fits = omega arith })

    pub whole_complement : nat_abs (to_z w64 (of_z w64 x)) ≡ complement x
    whole_complement = ap nat_abs same ∙ sym (ap complement amount.1)

-- ---- Store by store.

-- the number of the kind, amounts, powers and exponent come from calls; the rest is read off
pub dimension_stored : (d : Dimension) {k a b p q x : ℕ} → k ≡ kind_number d.kind
    → a ≡ complement d.series.start.amount → p ≡ complement d.series.start.power → b ≡ complement d.series.step.amount
    → q ≡ complement d.series.step.power → x ≡ complement d.series.exponent
    → k ∷ d.length ∷ d.start.0 ∷ a ∷ p ∷ b ∷ q ∷ x ∷ d.series.unit ∷ replicate 7 0
    ≡ dimension_numbers d
dimension_stored d k a p b q x = rw (k, a, p, b, q, x) refl
