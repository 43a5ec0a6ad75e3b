-- Each answer is exactly the meaning's number: an answer is given where the form is right, with the number that is written, and nowhere
-- else; and there is one only.
use Rattle.std.proofs.Math.Path.{◌≡◌, refl}
use Rattle.std.proofs.Common.{sym, ap, ◌∙◌, append-nil, pow-suc, mul_assoc, mul_comm, add-mul, arith, Some, None}
use Rattle.std.specs.Prelude.{◌↔◌, [], ◌∷◌, ◌++◌, Bool, ℕ, ◌+◌, ◌*◌, ◌-◌, ◌^◌, ℤ, length}
use Rattle.std.proofs.Math.Bool.{true, false, cond}
use Rattle.grammar.specs.Document.{together}
use Rattle.grammar.specs.Look.{Word}
use Rattle.lists.specs.Lists.{all, count}
use Rattle.grammar.specs.Bytes.{between}
use Rattle.numbers.specs.Numbers.{digit, number, value, parts, point, whole, volume_dimensions, dimension_list, comma_values}
use Rattle.numbers.specs.Numbers.{exponent, exponent_value, decimal, decimal_value}
use Rattle.numbers.proofs.Laws.Cuts.{parts_end, parts_cut, digits_uncut, digit_no_point, number_append}
use Rattle.numbers.specs.Answers.{whole_in, between_in, lengths_of, three_in, exponent_in, decimal_in}
use Rattle.numbers.specs.declared.Lengths.{Lengths}
use Rattle.numbers.specs.declared.Decimal.{Decimal}

-- a promise `r ≡ f text at ..` leaves one answer
pub one_answer : {A : Type 0} {x r s : A} → r ≡ x → s ≡ x → r ≡ s
one_answer p q = p ∙ sym q

module _ (lo hi : ℕ) (w : Word) (n : ℕ) where
  pub whole_exactly : (whole_in lo hi w ≡ Some n) ↔ ((whole lo hi w ≡ true) × (value w ≡ n))
  unfolding whole_in
  whole_exactly = (λ e. there (whole lo hi w) refl e, λ h. rw (h.0, h.1) refl)
    where
      there : (t : Bool) → whole lo hi w ≡ t → cond t (Some (value w)) None ≡ Some n → (whole lo hi w ≡ true) × (value w ≡ n)
      there true q e = (q, cc)
      there false q e = let z : ◌≡◌ {A = ℕ} 0 1 = cc in absurd (omega arith)

  pub between_exactly : (between_in lo hi w ≡ Some n) ↔ ((dimension_list w ≡ true) × (count (between lo hi) (comma_values w) ≡ n))
  unfolding between_in
  between_exactly = (λ e. there (dimension_list w) refl e, λ h. rw (h.0, h.1) refl)
    where
      there : (t : Bool) → dimension_list w ≡ t → cond t (Some (count (between lo hi) (comma_values w))) None ≡ Some n
          → (dimension_list w ≡ true) × (count (between lo hi) (comma_values w) ≡ n)
      there true q e = (q, cc)
      there false q e = let z : ◌≡◌ {A = ℕ} 0 1 = cc in absurd (omega arith)

pub three_exactly : (a b c : ℕ) (w : Word) (l : Lengths) → (three_in a b c w ≡ Some l)
    ↔ ((volume_dimensions a b c w ≡ true) × (lengths_of (comma_values w) ≡ l))
unfolding three_in
three_exactly a b c w l = (λ e. there (volume_dimensions a b c w) refl e, λ h. rw (h.0, h.1) refl)
  where
    there : (t : Bool) → volume_dimensions a b c w ≡ t → cond t (Some (lengths_of (comma_values w))) None ≡ Some l
        → (volume_dimensions a b c w ≡ true) × (lengths_of (comma_values w) ≡ l)
    there true q e = (q, cc)
    there false q e = let z : ◌≡◌ {A = ℕ} 0 1 = cc in absurd (omega arith)

pub exponent_exactly : (most : ℕ) (w : Word) (n : ℤ) → (exponent_in most w ≡ Some n)
    ↔ ((exponent most w ≡ true) × (exponent_value w ≡ n))
unfolding exponent_in
exponent_exactly most w n = (λ e. there (exponent most w) refl e, λ h. rw (h.0, h.1) refl)
  where
    there : (t : Bool) → exponent most w ≡ t → cond t (Some (exponent_value w)) None ≡ Some n
        → (exponent most w ≡ true) × (exponent_value w ≡ n)
    there true q e = (q, cc)
    there false q e = let z : ◌≡◌ {A = ℕ} 0 1 = cc in absurd (omega arith)

pub decimal_exactly : (w : Word) (d : Decimal) → (decimal_in w ≡ Some d) ↔ ((decimal w ≡ true) × (decimal_value w ≡ d))
unfolding decimal_in
decimal_exactly w d = (λ e. there (decimal w) refl e, λ h. rw (h.0, h.1) refl)
  where
    there : (t : Bool) → decimal w ≡ t → cond t (Some (decimal_value w)) None ≡ Some d → (decimal w ≡ true)
        × (decimal_value w ≡ d)
    there true q e = (q, cc)
    there false q e = let z : ◌≡◌ {A = ℕ} 0 1 = cc in absurd (omega arith)

-- THE VALUE OF A DECIMAL, by its parts: digits a, a point, digits b is the number a times ten to the places of b, and b.
pub number_shift : (n : ℕ) (b : Word) → number n b ≡ n * 10 ^ length b + number 0 b
unfolding number
number_shift n [] = omega arith
number_shift n (a ∷ b) =
    number_shift (n * 10 + (a - 48)) b
    ∙ shift n (a - 48) (10 ^ length b) (number 0 b)
    ∙ sym (rw (pow-suc 10 (length b)) (ap (λ z. n * (10 ^ length b * 10) + z) (number_shift (0 * 10 + (a - 48)) b)))
  where
    shift : (n d p x : ℕ) → (n * 10 + d) * p + x ≡ n * (p * 10) + ((0 * 10 + d) * p + x)
    shift n d p x = let z : 0 * 10 + d ≡ d = omega arith in rw (z, mul_comm p 10, add-mul (n * 10) d p, mul_assoc n 10 p) (omega arith)

pub point_law : (a b : Word) → all digit a ≡ true → all digit b ≡ true
    → value (together (parts point (a ++ (46 ∷ b)))) ≡ value a * 10 ^ length b + value b
unfolding value point
point_law a b p q =
    let e : parts point (a ++ (46 ∷ b)) ≡ a ∷ b ∷ [] = parts_cut 46 b (digits_uncut digit_no_point a p) refl
    ∙ ap (λ l. a ∷ l) (parts_end (digits_uncut digit_no_point b q)) in
    rw e (ap (number 0) (ap (λ z. a ++ z) (append-nil b)) ∙ number_append 0 a b ∙ number_shift (number 0 a) b)
