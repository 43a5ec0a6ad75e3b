-- Three lengths, from the parts that their readers find.
use Rattle.std.specs.Prelude.{◌≡◌, true, false, cond, ℕ, ◌+◌, ◌≤◌, length, get_or, Option, Some, None}
use Rattle.std.proofs.Math.Path.{refl, sym}
use Rattle.std.proofs.Common.{ap, ◌∙◌, rules}
use mathlib.Core.List.{List, [], ◌∷◌}
use Rattle.std.proofs.Math.Bool.{and-false}
use Rattle.grammar.specs.Look.{Word}
use Rattle.lists.specs.Lists.{each}
use Rattle.nodes.specs.Values.{value_there}
use Rattle.numbers.specs.Numbers.{value, parts, comma, whole, three, volume_dimensions, comma_values}
use Rattle.numbers.proofs.Laws.Cuts.{parts_some}
use Rattle.numbers.specs.Stream.{stream}
use Rattle.numbers.specs.Parted.{Parted}
use Rattle.numbers.specs.Answers.{lengths_of, three_in}
use Rattle.numbers.proofs.Laws.Values.{there, past, CommaSays, says_comma, says_last, says_no, is_numeral}
use Rattle.numbers.specs.declared.Source.{Source}
use Rattle.numbers.specs.declared.Source.TheVariants.{Value}
use Rattle.numbers.specs.declared.Part.{Part}
use Rattle.numbers.specs.declared.Part.TheVariants.{Comma, Last, No}
use Rattle.numbers.specs.declared.Lengths.{Lengths}

-- the answer, from the parts
three_of : (m n k : ℕ) → List Word → Option Lengths
three_of m n k l = cond (three (whole 1 m) (whole 1 n) (whole 1 k) l) (Some (lengths_of (each value l))) None

by_parts : (m n k : ℕ) (w : Word) (l : List Word) → parts comma w ≡ l → three_in m n k w ≡ three_of m n k l
unfolding three_in volume_dimensions comma_values three_of
by_parts m n k w l e = rw e refl

module _ (m n k : ℕ) where
  wrong_first : (a : Word) (l : List Word) → whole 1 m a ≡ false → three_of m n k (a ∷ l) ≡ None
  unfolding three_of three
  wrong_first a [] h = refl
  wrong_first a (b ∷ []) h = refl
  wrong_first a (b ∷ c ∷ []) h = rw h refl
  wrong_first a (b ∷ c ∷ d ∷ l) h = refl

  only_one : (a : Word) → three_of m n k (a ∷ []) ≡ None
  unfolding three_of three
  only_one a = refl

  wrong_second : (a b : Word) (l : List Word) → whole 1 n b ≡ false → three_of m n k (a ∷ b ∷ l) ≡ None
  unfolding three_of three
  wrong_second a b [] h = refl
  wrong_second a b (c ∷ []) h = rw (h, and-false (whole 1 m a)) refl
  wrong_second a b (c ∷ d ∷ l) h = refl

  only_two : (a b : Word) → three_of m n k (a ∷ b ∷ []) ≡ None
  unfolding three_of three
  only_two a b = refl

  wrong_third : (a b c : Word) (l : List Word) → whole 1 k c ≡ false → three_of m n k (a ∷ b ∷ c ∷ l) ≡ None
  unfolding three_of three
  wrong_third a b c [] h = rw (h, and-false (whole 1 n b), and-false (whole 1 m a)) refl
  wrong_third a b c (d ∷ l) h = refl

  four : (a b c d : Word) (l : List Word) → three_of m n k (a ∷ b ∷ c ∷ d ∷ l) ≡ None
  unfolding three_of three
  four a b c d l = refl

  right : (a b c : Word) → whole 1 m a ≡ true → whole 1 n b ≡ true → whole 1 k c ≡ true
      → three_of m n k (a ∷ b ∷ c ∷ []) ≡ Some (record { i = value a; j = value b; k = value c })
  unfolding three_of three lengths_of each
  right a b c x y z = rw (x, y, z) refl

module _ (text : List ℕ) (at m n k : ℕ) where
  abbrev answer : Option Lengths
  answer = three_in m n k (value_there text at)

  abbrev quoted : Source
  quoted = Value (get_or text at 0)

  pub three_past : length text ≤ at → None ≡ answer
  unfolding three_in volume_dimensions parts three
  three_past h = sym (ap (three_in m n k) (past text at h))

  from : (l : List Word) → parts comma (stream quoted text (at + 1)) ≡ l → answer ≡ three_of m n k l
  from l e = ap (three_in m n k) (there text at) ∙ by_parts m n k (stream quoted text (at + 1)) l e

  module _ {r₁ : Part} (p₁ : Parted quoted text 7 1 m (at + 1) r₁) where
    pub three_first_no : r₁ ≡ No → None ≡ answer
    three_first_no e =
        let h = says_no p₁ e in
        sym (from (h.word ∷ h.others) h.are ∙ wrong_first m n k h.word h.others (is_numeral 1 m h.word ∙ h.wrong))

    pub three_first_last : {x : ℕ} → r₁ ≡ Last x → None ≡ answer
    three_first_last e = let h = says_last p₁ e in sym (from (h.word ∷ []) h.are ∙ only_one m n k h.word)

    module _ {x j₁ : ℕ} (e₁ : r₁ ≡ Comma x j₁) {r₂ : Part} (p₂ : Parted quoted text 7 1 n j₁ r₂) where
      h₁ : CommaSays quoted text 7 1 m (at + 1) x j₁
      h₁ = says_comma p₁ e₁

      then : (l : List Word) → parts comma (stream quoted text j₁) ≡ l → answer ≡ three_of m n k (h₁.word ∷ l)
      then l e = from (h₁.word ∷ l) (h₁.are ∙ ap (λ z. h₁.word ∷ z) e)

      pub three_second_no : r₂ ≡ No → None ≡ answer
      three_second_no e =
          let h = says_no p₂ e in
          sym (then (h.word ∷ h.others) h.are
          ∙ wrong_second m n k h₁.word h.word h.others (is_numeral 1 n h.word ∙ h.wrong))

      pub three_second_last : {y : ℕ} → r₂ ≡ Last y → None ≡ answer
      three_second_last e = let h = says_last p₂ e in sym (then (h.word ∷ []) h.are ∙ only_two m n k h₁.word h.word)

      module _ {y j₂ : ℕ} (e₂ : r₂ ≡ Comma y j₂) {r₃ : Part} (p₃ : Parted quoted text 7 1 k j₂ r₃) where
        h₂ : CommaSays quoted text 7 1 n j₁ y j₂
        h₂ = says_comma p₂ e₂

        then₂ : (l : List Word) → parts comma (stream quoted text j₂) ≡ l → answer ≡ three_of m n k (h₁.word ∷ h₂.word ∷ l)
        then₂ l e = then (h₂.word ∷ l) (h₂.are ∙ ap (λ z. h₂.word ∷ z) e)

        pub three_third_no : r₃ ≡ No → None ≡ answer
        three_third_no e =
            let h = says_no p₃ e in
            sym (then₂ (h.word ∷ h.others) h.are
            ∙ wrong_third m n k h₁.word h₂.word h.word h.others (is_numeral 1 k h.word ∙ h.wrong))

        pub three_third_comma : {z j₃ : ℕ} → r₃ ≡ Comma z j₃ → None ≡ answer
        three_third_comma {j₃ = j₃} e =
            let h = says_comma p₃ e in
            let q = parts_some comma (stream quoted text j₃) in
            sym (then₂ (h.word ∷ q.first ∷ q.others) (h.are ∙ ap (λ v. h.word ∷ v) q.are)
            ∙ four m n k h₁.word h₂.word h.word q.first q.others)

        pub three_are : {z : ℕ} → r₃ ≡ Last z → Some (record { i = x; j = y; k = z }) ≡ answer
        three_are {z = z} e =
            let h = says_last p₃ e in
            let ok₁ = is_numeral 1 m h₁.word ∙ h₁.right in
            let ok₂ = is_numeral 1 n h₂.word ∙ h₂.right in
            let ok₃ = is_numeral 1 k h.word ∙ h.right in
            sym (then₂ (h.word ∷ []) h.are ∙ right m n k h₁.word h₂.word h.word ok₁ ok₂ ok₃
            ∙ rw (h₁.valued, h₂.valued, h.valued) refl)

pub ruleset lengths = (
  three_past,
  three_first_no,
  three_first_last,
  three_second_no,
  three_second_last,
  three_third_no,
  three_third_comma,
  three_are,
  rules,
)
