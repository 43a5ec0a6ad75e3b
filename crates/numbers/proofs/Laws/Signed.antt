-- A number below 10^15 fits, with either sign.
use Rattle.std.specs.Prelude.{◌≡◌, refl, Bool, true, false, ℕ, zero, suc, ◌^◌, ◌<◌, pos, neg_ℤ, ◌-ℤ◌}
use Rattle.std.proofs.Common.{◌∙◌, arith, SFits, to_z, of_z}
use Rattle.std.proofs.Math.IntN.{+ℤ_idl}
use Rattle.std.specs.Int.{w64}
use Rattle.std.proofs.lemmas.Int.{to_z_pos, to_z-of_z}
use Rattle.numbers.specs.Numbers.{with_sign}
use Rattle.numbers.specs.Answers.{sign_if}

reads_as : (n : ℕ) → n < 10 ^ 15 → to_z w64 n ≡ pos n
reads_as n h = to_z_pos w64 n (omega arith)

fits : (n : ℕ) → n < 10 ^ 15 → SFits w64 (neg_ℤ (pos n))
fits zero h = record { sfits = omega arith }
fits (suc n) h = record { sfits = omega arith }

pub signed_fits : (n : ℕ) → n < 10 ^ 15 → SFits w64 (pos 0 -ℤ to_z w64 n)
signed_fits n h = rw (reads_as n h, +ℤ_idl (neg_ℤ (pos n))) (fits n h)

pub signed_minus : (n : ℕ) {t : Bool} → n < 10 ^ 15 → t ≡ true → to_z w64 (of_z w64 (pos 0 -ℤ to_z w64 n)) ≡ with_sign (sign_if t) n
unfolding with_sign sign_if
signed_minus n h e = to_z-of_z w64 (pos 0 -ℤ to_z w64 n) (signed_fits n h) ∙ rw (reads_as n h, e) (+ℤ_idl (neg_ℤ (pos n)))

pub signed_plus : (n : ℕ) {t : Bool} → n < 10 ^ 15 → t ≡ false → to_z w64 n ≡ with_sign (sign_if t) n
unfolding with_sign sign_if
signed_plus n h e = rw (reads_as n h, e) refl
