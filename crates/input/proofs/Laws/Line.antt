-- Two or three lengths, from the numbers that are found; the line feed at the end.
use Rattle.std.specs.Prelude.{◌≡◌, Bool, true, false, cond, ℕ, ◌-◌, get_or, take, drop, Some, None}
use Rattle.std.proofs.Math.Path.{refl, sym, ap}
use Rattle.std.proofs.Common.{◌∙◌, arith, rules, eq-eqb, ne_eqb, length-take-le}
use mathlib.Core.List.{List, [], ◌∷◌}
use Rattle.std.proofs.Math.Bool.{and-false}
use Rattle.std.proofs.Math.ListN.{length}
use Rattle.lists.specs.Lists.{all, each}
use Rattle.lists.proofs.Laws.Booleans.{clash}
use Rattle.grammar.specs.Look.{Word}
use Rattle.numbers.specs.Numbers.{digits, value, parts, comma}
use Rattle.numbers.proofs.Laws.Cuts.{parts_some}
use Rattle.input.specs.Lengths.{wholes_of, lengths_in, first_by}
use Rattle.input.specs.Parted.{LineParted, part_comma, part_last, part_no}
use Rattle.input.specs.declared.lengths.Part.{Part}
use Rattle.input.specs.declared.lengths.Part.TheVariants.{Comma, Last, No}
use Rattle.input.specs.declared.lengths.FirstLine.{FirstLine}
use Rattle.input.specs.declared.lengths.FirstLine.TheVariants.{Two, Three, Other}

-- ---- What a number among commas says.

record CommaSays (w : Word) (at n j : ℕ) : Type 0 where
  pub word : Word
  pub valued : value word ≡ n
  pub right : digits 1 7 word ≡ true
  pub are : parts comma (drop at w) ≡ word ∷ parts comma (drop j w)

record LastSays (w : Word) (at n : ℕ) : Type 0 where
  pub word : Word
  pub valued : value word ≡ n
  pub right : digits 1 7 word ≡ true
  pub are : parts comma (drop at w) ≡ word ∷ []

record NoSays (w : Word) (at : ℕ) : Type 0 where
  pub word : Word
  pub others : List Word
  pub wrong : digits 1 7 word ≡ false
  pub are : parts comma (drop at w) ≡ word ∷ others

module _ {w : Word} {at : ℕ} where
  says_comma : {r : Part} → LineParted w at r → {n j : ℕ} → r ≡ Comma n j → CommaSays w at n j
  says_comma (part_comma x {j = k} f e) {n} {j} q =
      let v : value x ≡ n = cc in
      let s : k ≡ j = cc in
      record { word = x; valued = v; right = f; are = rw s at e }
  says_comma (part_last x f e) q = clash (cc)
  says_comma (part_no x l f e) q = clash (cc)

  says_last : {r : Part} → LineParted w at r → {n : ℕ} → r ≡ Last n → LastSays w at n
  says_last (part_comma x f e) q = clash (cc)
  says_last (part_last x f e) {n} q = let v : value x ≡ n = cc in record { word = x; valued = v; right = f; are = e }
  says_last (part_no x l f e) q = clash (cc)

  says_no : {r : Part} → LineParted w at r → r ≡ No → NoSays w at
  says_no (part_comma x f e) q = clash (cc)
  says_no (part_last x f e) q = clash (cc)
  says_no (part_no x l f e) q = record { word = x; others = l; wrong = f; are = e }

-- ---- The answer, from the words.

first : List Word → FirstLine
first l = first_by (wholes_of l)

either : (b : Bool) (l : List ℕ) → first_by (Some l) ≡ Other → first_by (cond b (Some l) None) ≡ Other
unfolding first_by
either true l h = h
either false l h = refl

wrong_first : (a : Word) (l : List Word) → digits 1 7 a ≡ false → first (a ∷ l) ≡ Other
unfolding first wholes_of first_by all
wrong_first a l h = rw h refl

wrong_second : (a b : Word) (l : List Word) → digits 1 7 b ≡ false → first (a ∷ b ∷ l) ≡ Other
unfolding first wholes_of first_by all
wrong_second a b l h = rw (h, and-false (digits 1 7 a)) refl

wrong_third : (a b c : Word) (l : List Word) → digits 1 7 c ≡ false → first (a ∷ b ∷ c ∷ l) ≡ Other
unfolding first wholes_of first_by all
wrong_third a b c l h = rw (h, and-false (digits 1 7 b), and-false (digits 1 7 a)) refl

only_one : (a : Word) → first (a ∷ []) ≡ Other
unfolding first wholes_of first_by each
only_one a = either (all (digits 1 7) (a ∷ [])) (value a ∷ []) refl

too_many : (a b c d : Word) (l : List Word) → first (a ∷ b ∷ c ∷ d ∷ l) ≡ Other
unfolding first wholes_of first_by each
too_many a b c d l = either (all (digits 1 7) (a ∷ b ∷ c ∷ d ∷ l)) (value a ∷ value b ∷ value c ∷ value d ∷ each value l) refl

two : (a b : Word) → digits 1 7 a ≡ true → digits 1 7 b ≡ true → first (a ∷ b ∷ []) ≡ Two (value a) (value b)
unfolding first wholes_of first_by all each
two a b h k = rw (h, k) refl

three : (a b c : Word) → digits 1 7 a ≡ true → digits 1 7 b ≡ true → digits 1 7 c ≡ true
    → first (a ∷ b ∷ c ∷ []) ≡ Three (value a) (value b) (value c)
unfolding first wholes_of first_by all each
three a b c h k m = rw (h, k, m) refl

-- ---- The answer, from what is found.

module _ (w : Word) {r₁ : Part} (p₁ : LineParted w 0 r₁) where
  abbrev answer : FirstLine
  answer = first_by (wholes_of (parts comma w))

  from : (l : List Word) → parts comma (drop 0 w) ≡ l → answer ≡ first l
  unfolding first
  from l e = ap (λ k. first_by (wholes_of k)) e

  pub first_no : r₁ ≡ No → Other ≡ answer
  first_no e = let h = says_no p₁ e in sym (from (h.word ∷ h.others) h.are ∙ wrong_first h.word h.others h.wrong)

  pub first_last : {x : ℕ} → r₁ ≡ Last x → Other ≡ answer
  first_last e = let h = says_last p₁ e in sym (from (h.word ∷ []) h.are ∙ only_one h.word)

  module _ {x j₁ : ℕ} (e₁ : r₁ ≡ Comma x j₁) {r₂ : Part} (p₂ : LineParted w j₁ r₂) where
    h₁ : CommaSays w 0 x j₁
    h₁ = says_comma p₁ e₁

    then : (l : List Word) → parts comma (drop j₁ w) ≡ l → answer ≡ first (h₁.word ∷ l)
    then l e = from (h₁.word ∷ l) (h₁.are ∙ ap (λ z. h₁.word ∷ z) e)

    pub second_no : r₂ ≡ No → Other ≡ answer
    second_no e =
        let h = says_no p₂ e in
        sym (then (h.word ∷ h.others) h.are ∙ wrong_second h₁.word h.word h.others h.wrong)

    pub second_last : {y : ℕ} → r₂ ≡ Last y → Two x y ≡ answer
    second_last e =
        let h = says_last p₂ e in
        sym (then (h.word ∷ []) h.are ∙ two h₁.word h.word h₁.right h.right ∙ rw (h₁.valued, h.valued) refl)

    module _ {y j₂ : ℕ} (e₂ : r₂ ≡ Comma y j₂) {r₃ : Part} (p₃ : LineParted w j₂ r₃) where
      h₂ : CommaSays w j₁ y j₂
      h₂ = says_comma p₂ e₂

      then₂ : (l : List Word) → parts comma (drop j₂ w) ≡ l → answer ≡ first (h₁.word ∷ h₂.word ∷ l)
      then₂ l e = then (h₂.word ∷ l) (h₂.are ∙ ap (λ z. h₂.word ∷ z) e)

      pub third_no : r₃ ≡ No → Other ≡ answer
      third_no e =
          let h = says_no p₃ e in
          sym (then₂ (h.word ∷ h.others) h.are ∙ wrong_third h₁.word h₂.word h.word h.others h.wrong)

      pub third_comma : {z j₃ : ℕ} → r₃ ≡ Comma z j₃ → Other ≡ answer
      third_comma {j₃ = j₃} e =
          let h = says_comma p₃ e in
          let q = parts_some comma (drop j₃ w) in
          let four = too_many h₁.word h₂.word h.word q.first q.others in
          sym (then₂ (h.word ∷ q.first ∷ q.others) (h.are ∙ ap (λ v. h.word ∷ v) q.are) ∙ four)

      pub third_last : {z : ℕ} → r₃ ≡ Last z → Three x y z ≡ answer
      third_last e =
          let h = says_last p₃ e in
          let are = three h₁.word h₂.word h.word h₁.right h₂.right h.right in
          sym (then₂ (h.word ∷ []) h.are ∙ are ∙ rw (h₁.valued, h₂.valued, h.valued) refl)

pub ruleset firstSteps = (first_no, first_last, second_no, second_last, third_no, third_comma, third_last, rules)

-- ---- The line feed.

module _ (line : List ℕ) where
  pub line_empty : length line ≡ 0 → Other ≡ first_by (lengths_in line)
  unfolding lengths_in first_by
  line_empty h = go line h
    where
      go : (l : List ℕ) → length l ≡ 0 → Other ≡ first_by (lengths_in l)
      go [] e = refl
      go (a ∷ l) e = absurd (omega arith)

  pub line_part : length line - 1 ≡ length (take (length line - 1) line)
  line_part = sym (length-take-le (length line - 1) line (omega arith))

  pub line_unfed : (get_or line (length line - 1) 0 ≡ 10 → ⊥) → Other ≡ first_by (lengths_in line)
  unfolding lengths_in first_by
  line_unfed h = sym (rw (ne_eqb (get_or line (length line - 1) 0) 10 h) refl)

  pub line_fed : get_or line (length line - 1) 0 ≡ 10 → {r : FirstLine}
      → r ≡ first_by (wholes_of (parts comma (take (length line - 1) line))) → r ≡ first_by (lengths_in line)
  unfolding lengths_in
  line_fed h e = e ∙ sym (rw (eq-eqb (get_or line (length line - 1) 0) 10 h) refl)

pub ruleset lineSteps = (line_empty, line_part, line_unfed, line_fed, rules)
