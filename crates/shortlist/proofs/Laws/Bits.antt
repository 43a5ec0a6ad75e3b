-- What is proved of `bit_set`. Assumes nothing.
use Rattle.std.specs.Prelude.{◌≡◌, refl, false, ◌||◌, ℕ, ◌+◌, ◌-◌, ◌/◌, ◌%◌, ◌^◌, ◌<◌, eqb}
use Rattle.std.proofs.Common.{sym, ap, ◌∙◌, arith, eq-eqb, ne_eqb}
use Rattle.std.proofs.lemmas.Nat.{shr_le}
use Rattle.std.proofs.lemmas.Bool.{eqb-false}
use Rattle.lists.proofs.Laws.Bits.{Side, under, same, over, side, sets, below, above, fits}
use Rattle.shortlist.specs.Search.{bit_set}
use Rattle.shortlist.proofs.Laws.Named.{Adds}

unset_is : (w s : ℕ) → bit_set w s ≡ false → w / 2 ^ s % 2 ≡ 0
unfolding bit_set
unset_is w s h = let z = eqb-false (w / 2 ^ s % 2) 1 h in omega arith

-- the sum sets the bit and no other
pub bit_adds : (w k : ℕ) → bit_set w k ≡ false → Adds (bit_set w) (bit_set (w + 2 ^ k)) k
unfolding bit_set
bit_adds w k h j = by (side j k)
  where
    zero_bit : w / 2 ^ k % 2 ≡ 0
    zero_bit = unset_is w k h

    other : (j ≡ k → ⊥) → (w + 2 ^ k) / 2 ^ j % 2 ≡ w / 2 ^ j % 2 → bit_set (w + 2 ^ k) j ≡ (eqb k j || bit_set w j)
    other n e = ap (λ b. eqb b 1) e ∙ sym (ap (λ t. t || bit_set w j) (ne_eqb k j (λ z. n (sym z))))

    by : Side j k → bit_set (w + 2 ^ k) j ≡ (eqb k j || bit_set w j)
    by (under u) = other (λ e. omega arith) (below w k zero_bit j (k - j - 1) (omega arith))
    by (same e) =
        ap (λ i. bit_set (w + 2 ^ k) i) e ∙ eq-eqb ((w + 2 ^ k) / 2 ^ k % 2) 1 (sets w k zero_bit)
        ∙ sym (ap (λ t. t || bit_set w j) (eq-eqb k j (sym e)))
    by (over o) = other (λ e. omega arith) (above w k zero_bit j (j - k - 1) (omega arith))

pub bits_empty : (k : ℕ) → bit_set 0 k ≡ false
unfolding bit_set
bits_empty k = ne_eqb (0 / 2 ^ k % 2) 1 (λ e. omega (arith, e, none))
  where
    none : 0 / 2 ^ k ≡ 0
    none = let h = shr_le 0 k in omega arith

-- as code tests it
pub bit_test : (w k : ℕ) → eqb (w / 2 ^ k % 2) 1 ≡ bit_set w k
unfolding bit_set
bit_test w k = refl

pub bit_fits : {w s p : ℕ} → bit_set w s ≡ false → s < 64 → w < 2 ^ 64 → p ≡ 2 ^ s → w + p < 2 ^ 64
bit_fits {w} {s} h u v e = rw e (fits w s (unset_is w s h) u v)
