-- A number among commas: what its reader finds, and what that says of the whole value.
use Rattle.std.specs.Prelude.{◌≡◌, List, [], ◌∷◌, ◌++◌, Bool, true, false, ℕ, ◌-◌, ◌^◌, ◌≤◌, ◌<◌, leb, Option, Some, None}
use Rattle.std.proofs.Math.Path.{refl}
use Rattle.std.proofs.Common.{ap, ◌∙◌, append-nil, arith, rules}
use Rattle.std.proofs.Math.Bool.{and-false}
use borrow.Author.Tests.{eq-eqb, ne_eqb, le-leb, lt-leb}
use Rattle.std.proofs.Math.ListN.{length}
use Rattle.grammar.specs.Look.{Word}
use Rattle.numbers.specs.Numbers.{digits, value, parts, on_first, comma}
use Rattle.numbers.proofs.Laws.Cuts.{digits_uncut, digit_no_comma, parts_some, parts_end, parts_cut, parts_join}
use Rattle.numbers.specs.Cuts.{Uncut}
use Rattle.numbers.proofs.Laws.Cuts.{digits_are, digits_few, digits_stopped, powers}
use Rattle.numbers.specs.Stream.{char_at, stream, digits_at}
use Rattle.numbers.proofs.Laws.Stream.{char_byte, char_end, Ran, digits_law}
use Rattle.numbers.specs.Parted.{numeral, Parted, part_comma, part_last, part_no}
use Rattle.numbers.specs.declared.Source.{Source}
use Rattle.numbers.specs.declared.Run.{Run}
use Rattle.numbers.specs.declared.Part.TheVariants.{Comma, Last, No}

pub from_zero : (most : ℕ) → most ≤ 15 → (most ≤ 15) × (0 < 10 ^ (15 - most))
from_zero most h = let p : 10 ^ 0 ≤ 10 ^ (15 - most) = powers 0 (15 - most) (omega arith) in (h, omega arith)

module _ (source : Source) (text : List ℕ) (most lo hi at : ℕ) {run : Run} (er : run ≡ digits_at source text most 0 0 at) where
  ran : Ran source text most 0 0 at run
  ran = rw er (digits_law source text most 0 0 at)

  uncut : Uncut comma ran.read
  uncut = digits_uncut digit_no_comma ran.read ran.all_digits

  is_value_lem : run.value ≡ value ran.read
  unfolding value
  is_value_lem = ran.valued

  goes_on : {b : ℕ} {x : Word} → stream source text run.next ≡ b ∷ x → stream source text at ≡ ran.read ++ (b ∷ x)
  goes_on e = ran.splits ∙ ap (λ l. ran.read ++ l) e

  -- what is ahead of the digits: nothing, a comma, or another byte
  at_end : stream source text run.next ≡ [] → parts comma (stream source text at) ≡ ran.read ∷ []
  at_end e = ap (parts comma) (ran.splits ∙ rw e (append-nil ran.read)) ∙ parts_end uncut

  at_comma : {b : ℕ} {x : Word} → stream source text run.next ≡ b ∷ x → comma b ≡ true
      → parts comma (stream source text at) ≡ ran.read ∷ parts comma x
  at_comma {b} {x} e h = ap (parts comma) (goes_on e) ∙ parts_cut b x uncut h

  at_other : {b : ℕ} {x : Word} → stream source text run.next ≡ b ∷ x → comma b ≡ false → Parted source text most lo hi at No
  unfolding parts on_first numeral
  at_other {b} {x} e h =
      let k = parts_some comma x in
      let q : parts comma (b ∷ x) ≡ (b ∷ k.first) ∷ k.others = rw (h, k.are) refl in
      part_no (ran.read ++ (b ∷ k.first)) k.others
      (rw (digits_stopped 1 most ran.read k.first b ran.few (ran.stops b x e)) refl)
      (ap (parts comma) (goes_on e) ∙ parts_join (b ∷ x) (b ∷ k.first) k.others uncut q)

  refused : numeral most lo hi ran.read ≡ false → Parted source text most lo hi at No
  refused f = go (stream source text run.next) refl
    where
      by : (b : ℕ) (x : Word) → stream source text run.next ≡ b ∷ x → (t : Bool) → comma b ≡ t → Parted source text most lo hi at No
      by b x e true h = part_no ran.read (parts comma x) f (at_comma e h)
      by b x e false h = at_other e h

      go : (w : Word) → stream source text run.next ≡ w → Parted source text most lo hi at No
      go [] e = part_no ran.read [] f (at_end e)
      go (b ∷ x) e = by b x e (comma b) refl

  pub part_empty : run.count ≡ 0 → Parted source text most lo hi at No
  unfolding numeral
  part_empty z =
      let e : length ran.read ≡ 0 = omega (arith, ran.counted) in
      refused (rw (digits_few 1 most ran.read (omega arith)) refl)

  pub part_low : run.value < lo → Parted source text most lo hi at No
  unfolding numeral
  part_low h =
      let e : value ran.read < lo = omega (arith, is_value_lem) in
      refused (rw (lt-leb lo (value ran.read) e) (and-false (digits 1 most ran.read)))

  pub part_high : hi < run.value → Parted source text most lo hi at No
  unfolding numeral
  part_high h =
      let e : hi < value ran.read = omega (arith, is_value_lem) in
      refused (rw (lt-leb (value ran.read) hi e, and-false (leb lo (value ran.read))) (and-false (digits 1 most ran.read)))

  module _ (some : run.count ≡ 0 → ⊥) (low : lo ≤ run.value) (high : run.value ≤ hi) where
    right : numeral most lo hi ran.read ≡ true
    unfolding numeral
    right =
        let e : 1 ≤ length ran.read = omega (arith, ran.counted) in
        let l : lo ≤ value ran.read = omega (arith, is_value_lem) in
        let h : value ran.read ≤ hi = omega (arith, is_value_lem) in
        rw (
          digits_are 1 most ran.read ran.all_digits e ran.few,
          le-leb lo (value ran.read) l,
          le-leb (value ran.read) hi h,
        ) refl

    module _ {c : Option (ℕ × ℕ)} (ec : c ≡ char_at source text run.next) where
      pub part_finds_last : c ≡ None → Parted source text most lo hi at (Last run.value)
      part_finds_last q = rw is_value_lem (part_last ran.read right (at_end (char_end source text run.next ec q)))

      module _ {b j : ℕ} (q : c ≡ Some (b, j)) where
        pub part_finds_other : (b ≡ 44 → ⊥) → Parted source text most lo hi at No
        unfolding comma
        part_finds_other h = at_other (char_byte source text run.next ec q).splits (ne_eqb b 44 h)

        pub part_finds_comma : b ≡ 44 → Parted source text most lo hi at (Comma run.value j)
        unfolding comma
        part_finds_comma h =
            let s = char_byte source text run.next ec q in
            rw is_value_lem (part_comma ran.read right (at_comma s.splits (eq-eqb b 44 h)) (omega (arith, s.ahead, ran.ahead)))

pub ruleset finding = (from_zero, part_empty, part_low, part_high, part_finds_last, part_finds_other, part_finds_comma, rules)
