-- POWERS OF TEN: what was a decimal before them is one, with the same digits and the negative of its places; and what a.bEx is read as.
use Rattle.std.specs.Prelude.{◌≡◌, Bool, ℕ, ◌≤◌, ℤ, neg_ℤ, ◌-ℤ◌, drop}
use Rattle.std.proofs.Math.Path.{refl, sym, ap}
use Rattle.std.proofs.Common.{◌∙◌, arith}
use mathlib.Core.List.{List, [], ◌∷◌, ◌++◌, append_assoc, append-nil}
use Rattle.std.proofs.Math.Bool.{true}
use Rattle.std.proofs.Math.IntN.{pos}
use Rattle.std.proofs.Math.ListN.{length}
use borrow.Author.Tests.{ne_eqb}
use Rattle.lists.proofs.Laws.Booleans.{and_left, and_right, clash}
use Rattle.grammar.specs.Document.{together}
use Rattle.grammar.specs.Look.{Word}
use Rattle.lists.specs.Lists.{all}
use Rattle.numbers.specs.Numbers.{digit, digits, value, parts, point, power_mark, Sign, plus, unsigned}
use Rattle.numbers.specs.Numbers.{with_sign}
use Rattle.numbers.specs.Numbers.{decimal_parts, mantissa, places, power_parts, written_power, power, scaled, scaled_value, decimal}
use Rattle.numbers.specs.Numbers.{decimal_value}
use Rattle.numbers.proofs.Laws.Cuts.{uncut_join, parts_end, parts_cut, digit_in, digit_no_point, digit_no_mark}
use Rattle.numbers.specs.Cuts.{Uncut, more}
use Rattle.numbers.proofs.Laws.Cuts.{digits_uncut, digits_split}
use Rattle.numbers.proofs.Laws.Mantissa.{mantissa_no_mark, power_no_mark}
use Rattle.numbers.proofs.Laws.Integers.{less_nothing}
use Rattle.numbers.proofs.Laws.Powered.{alone, same_decimal}

-- what a decimal was before: its digits and how many of them stand behind the point
abbrev pub decimal_before : Word → Bool
decimal_before w = decimal_parts (parts point (unsigned true w).rest)

abbrev pub amount_before : Word → ℤ
amount_before w = with_sign (unsigned true w).sign (value (together (parts point (unsigned true w).rest)))

abbrev pub places_before : Word → ℕ
places_before w = length (together (drop 1 (parts point (unsigned true w).rest)))

few : (l : List Word) → decimal_parts l ≡ true → length (together (drop 1 l)) ≤ 15
unfolding decimal_parts
few [] h = omega arith
few (a ∷ []) h = omega arith
few (a ∷ b ∷ []) h =
    let x = digits_split 1 15 b (and_left (digits 1 15 b) _ (and_right (digits 1 15 a) _ h)) in
    let e : length (b ++ []) ≡ length b = ap length (append-nil b) in
    omega (arith, x.1.1)
few (a ∷ b ∷ c ∷ l) h = clash (cc)

module _ (w : Word) (before : decimal_before w ≡ true) where
  m : Word
  m = (unsigned true w).rest

  right : mantissa m ≡ true
  unfolding mantissa m
  right = before

  one_part : parts power_mark m ≡ m ∷ []
  one_part = parts_end (mantissa_no_mark m right)

  placed : places m ≡ places_before w
  unfolding places m
  placed = refl

  still : decimal w ≡ true
  unfolding decimal m
  still = ap scaled one_part ∙ alone m right (places_before w) placed
      (let h = few (parts point (unsigned true w).rest) before in omega arith)

  same : decimal_value w ≡ record { amount = amount_before w; power = neg_ℤ (pos (places_before w)) }
  unfolding decimal_value scaled_value power written_power with_sign m
  same = ap (scaled_value (unsigned true w).sign) one_part
      ∙ same_decimal refl (ap (λ i. pos 0 -ℤ pos i) placed ∙ sym (less_nothing (places_before w)))

  pub before_after : (decimal w ≡ true) × (decimal_value w ≡ record { amount = amount_before w; power = neg_ℤ (pos (places_before w)) })
  before_after = (still, same)

-- a.bEx: digits a and b, a mark, a power x
module _ (a b x : Word) (e : ℕ) (da : all digit a ≡ true) (db : all digit b ≡ true) (me : power_mark e ≡ true)
    (px : power_parts (x ∷ []) ≡ true) where
  a_point_b : Word
  a_point_b = a ++ (46 ∷ b)

  in_two : parts point a_point_b ≡ a ∷ b ∷ []
  unfolding a_point_b point
  in_two = parts_cut 46 b (digits_uncut digit_no_point a da) refl ∙ ap (λ l. a ∷ l) (parts_end (digits_uncut digit_no_point b db))

  unmarked : Uncut power_mark a_point_b
  unfolding a_point_b power_mark
  unmarked = uncut_join (digits_uncut digit_no_mark a da) (more refl (digits_uncut digit_no_mark b db))

  marked : parts power_mark (a ++ (46 ∷ (b ++ (e ∷ x)))) ≡ a_point_b ∷ x ∷ []
  unfolding a_point_b
  marked = ap (parts power_mark) (sym (append_assoc a (46 ∷ b) (e ∷ x))) ∙ parts_cut e x unmarked me
      ∙ ap (λ l. (a ++ (46 ∷ b)) ∷ l) (parts_end (power_no_mark x px))

  read_as : (s : Sign) → scaled_value s (parts power_mark (a ++ (46 ∷ (b ++ (e ∷ x)))))
      ≡ record { amount = with_sign s (value (a ++ b)); power = written_power (x ∷ []) -ℤ pos (length b) }
  unfolding scaled_value power places
  read_as s = ap (scaled_value s) marked
      ∙ same_decimal (ap (λ l. with_sign s (value (together l))) in_two ∙ ap (λ i. with_sign s (value (a ++ i))) (append-nil b))
      (ap (λ l. written_power (x ∷ []) -ℤ pos (length (together (drop 1 l)))) in_two
      ∙ ap (λ i. written_power (x ∷ []) -ℤ pos (length i)) (append-nil b))

  no_sign : (w : Word) → 1 ≤ length a → unsigned true (a ++ w) ≡ record { sign = plus; rest = a ++ w }
  unfolding unsigned all
  no_sign w h = go a da h
    where
      go : (u : Word) → all digit u ≡ true → 1 ≤ length u → unsigned true (u ++ w) ≡ record { sign = plus; rest = u ++ w }
      go [] d k = absurd (omega arith)
      go (c ∷ u) d k =
          let p = (digit_in c (and_left (digit c) _ d)).0 in
          rw (ne_eqb c 45 (λ z. omega arith), ne_eqb c 43 (λ z. omega arith)) refl

  pub power_law : 1 ≤ length a → decimal_value (a ++ (46 ∷ (b ++ (e ∷ x))))
      ≡ record { amount = pos (value (a ++ b)); power = written_power (x ∷ []) -ℤ pos (length b) }
  unfolding decimal_value with_sign
  power_law h = rw (no_sign (46 ∷ (b ++ (e ∷ x))) h) (read_as plus)
