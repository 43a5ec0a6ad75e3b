-- Four plain letters.
use Rattle.std.specs.Prelude.{◌≡◌, refl, List, Bool, true, false, ◌&&◌, ◌||◌, not, ℕ, ◌+◌, ◌-◌, ◌<◌, ◌≤◌, eqb, length, get_or, Some}
use Rattle.std.proofs.Common.{ap, arith, rules}
use Rattle.std.proofs.lemmas.Bool.{not-true}
use Rattle.lists.specs.Lists.{all_below}
use Rattle.lists.proofs.Laws.Quantifiers.{all_below_iff}
use Rattle.lists.proofs.Laws.Booleans.{and_left, and_right, both_ways}
use Rattle.grammar.specs.Bytes.{blank, special}
use Rattle.numbers.specs.Stream.{char_at}
use Rattle.numbers.proofs.Laws.Listed.{plain_char}
use Rattle.base64_text.specs.Base64.{worth, is_value}
use Rattle.base64_text.proofs.Laws.Letters.{value_byte, is_value_lem}
use Rattle.base64_reader.specs.Groups.{LetterTold, GroupTold, bits_of, QuickGroup}
use Rattle.base64_reader.proofs.Laws.Letters.{passing_start, passing_letter}
use Rattle.base64_reader.proofs.Laws.Groups.{group_four, four_right, Values, bits_some}
use Rattle.base64_reader.specs.declared.Group.TheVariants.{Bytes}

-- a letter stands for itself: it is no blank, no return, and begins no mark
unfoldable itself : ℕ → Bool
itself a = not (blank a) && (not (special a) && not (eqb a 13))

all_itself : all_below 256 (λ a. not (is_value (worth a)) || itself a) ≡ true
unfolding all_below itself is_value worth blank special
all_itself = refl

letter_itself : (a : ℕ) → worth a < 64 → itself a ≡ true
letter_itself a h =
    let v = is_value_lem (worth a) h in
    unless (is_value (worth a)) v ((all_below_iff 256 (λ a. not (is_value (worth a)) || itself a)).0 all_itself a (value_byte a v))
  where
    unless : (t : Bool) {u : Bool} → t ≡ true → (not t || u) ≡ true → u ≡ true
    unless true k q = q
    unless false k q = both_ways k refl

letter_there : (text : List ℕ) (i : ℕ) → i < length text → worth (get_or text i 0) < 64
    → LetterTold text i (Some ((get_or text i 0), (i + 1)))
unfolding itself char_at
letter_there text i h w =
    let a = get_or text i 0 in
    let k = letter_itself (get_or text i 0) w in
    let b : blank (get_or text i 0) ≡ false = not-true (blank (get_or text i 0)) (and_left (not (blank (get_or text i 0))) _ k) in
    let m = and_right (not (blank (get_or text i 0))) _ k in
    let s = not-true (special (get_or text i 0)) (and_left (not (special (get_or text i 0))) _ m) in
    let r = not-true (eqb (get_or text i 0) 13) (and_right (not (special (get_or text i 0))) _ m) in
    passing_letter (passing_start text i) refl (plain_char text i h s r) refl (ap not b)

module _ (text : List ℕ) (at : ℕ) where
  pub quick_none : QuickGroup text at 16777216
  quick_none = record { told = λ h. absurd (omega arith); inside = λ h. absurd (omega arith) }

  module _ (long : 4 ≤ length text) (ahead : at ≤ length text - 4) where
    pub quick_0 : at < length text
    quick_0 = omega arith

    pub quick_1 : at + 1 < length text
    quick_1 = omega arith

    pub quick_2 : at + 2 < length text
    quick_2 = omega arith

    pub quick_3 : at + 3 < length text
    quick_3 = omega arith

    module _ {p q r s n : ℕ} (ep : p ≡ worth (get_or text at 0)) (eq : q ≡ worth (get_or text (at + 1) 0))
        (er : r ≡ worth (get_or text (at + 2) 0)) (es : s ≡ worth (get_or text (at + 3) 0)) (en : n ≡ bits_of p q r s) where
      module _ (h : n < 16777216) where
        are : Values p q r s n
        are = bits_some p q r s en h

        one : LetterTold text at (Some ((get_or text at 0), (at + 1)))
        one = letter_there text at quick_0 (rw ep at are.first)

        two : LetterTold text (at + 1) (Some ((get_or text (at + 1) 0), (at + 2)))
        two = let e : at + 1 + 1 ≡ at + 2 = omega arith in rw e at (letter_there text (at + 1) quick_1 (rw eq at are.second))

        three : LetterTold text (at + 2) (Some ((get_or text (at + 2) 0), (at + 3)))
        three = let e : at + 2 + 1 ≡ at + 3 = omega arith in rw e at (letter_there text (at + 2) quick_2 (rw er at are.third))

        four : LetterTold text (at + 3) (Some ((get_or text (at + 3) 0), (at + 4)))
        four = let e : at + 3 + 1 ≡ at + 4 = omega arith in rw e at (letter_there text (at + 3) quick_3 (rw es at are.fourth))

        told : GroupTold text at (Bytes n 3 (at + 4))
        told = group_four one refl two refl three refl four refl ep eq er es (four_right text p q r s (at + 4) en h)

      pub quick_told : QuickGroup text at n
      quick_told = record { told = told; inside = λ _. omega arith }

pub ruleset quickly = (quick_none, quick_0, quick_1, quick_2, quick_3, quick_told, rules)

-- the place behind them
pub quick_place : {text : List ℕ} {at n : ℕ} → QuickGroup text at n → n < 16777216 → at + 4 ≤ length text
quick_place k h = k.inside h
