-- The turns of the tests of form.
use Rattle.std.specs.Option.{is_some}
use Rattle.std.specs.Prelude.{◌≡◌, refl, List, [], Bool, true, false, ◌&&◌, cond, ℕ, ◌<◌, ◌≤◌, leb, ℤ, Option, Some, None}
use Rattle.std.proofs.Math.Path.{ap, sym}
use Rattle.std.proofs.Common.{◌∙◌, arith, rules}
use borrow.Author.Tests.{le-leb, lt-leb}
use Rattle.lists.specs.Lists.{all, those}
use Rattle.grammar.specs.Look.{Word}
use Rattle.nodes.specs.Texts.{says_at, left, inside, text_of_lem}
use Rattle.nodes.proofs.Laws.TextSteps.{text_none, text_some}
use Rattle.numbers.specs.Numbers.{parts, filled, words, whole, dimension_list, exponent, decimal, volume_dimensions, wholes, last_row, sixteen}
use Rattle.numbers.specs.Answers.{whole_in, listed_in, exponent_in, decimal_in, three_in, next_number}
use Rattle.numbers.proofs.Laws.Walk.{Handed, number_law, end_law, bad_law}
use Rattle.numbers.specs.declared.Lengths.{Lengths}
use Rattle.numbers.specs.declared.Decimal.{Decimal}
use Rattle.numbers.specs.declared.Next.{Next}
use Rattle.numbers.specs.declared.Next.TheVariants.{Number, End, Bad}

-- a form, told by whether there is a value of it
some_of : {A : Type 0} (b : Bool) (x : A) → is_some (cond b (Some x) None) ≡ b
some_of true x = refl
some_of false x = refl

module _ (w : Word) where
  pub whole_told : (lo hi : ℕ) → is_some (whole_in lo hi w) ≡ whole lo hi w
  unfolding whole_in
  whole_told lo hi = some_of (whole lo hi w) _

  pub listed_told : is_some (listed_in w) ≡ dimension_list w
  unfolding listed_in
  listed_told = some_of (dimension_list w) _

  pub exponent_told : (most : ℕ) → is_some (exponent_in most w) ≡ exponent most w
  unfolding exponent_in
  exponent_told most = some_of (exponent most w) _

  pub decimal_told : is_some (decimal_in w) ≡ decimal w
  unfolding decimal_in
  decimal_told = some_of (decimal w) _

  pub three_told : (a b c : ℕ) → is_some (three_in a b c w) ≡ volume_dimensions a b c w
  unfolding three_in
  three_told a b c = some_of (volume_dimensions a b c w) _

-- an answer, told from the other
module _ {A : Type 0} {yes no : A} (apart : yes ≡ no → ⊥) {r : A} where
  told_yes : (b : Bool) → r ≡ cond b yes no → r ≡ no → false ≡ b
  told_yes true e f = absurd (apart (sym e ∙ f))
  told_yes false e f = refl

  told_no : (b : Bool) {x : A} → (x ≡ no → ⊥) → r ≡ cond b yes no → r ≡ x → true ≡ b
  told_no true d e f = refl
  told_no false d e f = absurd (d (sym f ∙ e))

no_value : {A : Type 0} {x : A} → Some x ≡ None → ⊥
no_value e = let z : ◌≡◌ {A = ℕ} 0 1 = cc in omega arith

module _ (w : Word) {r : Option ℕ} where
  pub whole_yes : (lo hi : ℕ) → r ≡ whole_in lo hi w → {n : ℕ} → r ≡ Some n → true ≡ whole lo hi w
  unfolding whole_in
  whole_yes lo hi e f = told_no no_value (whole lo hi w) no_value e f

  pub whole_no : (lo hi : ℕ) → r ≡ whole_in lo hi w → r ≡ None → false ≡ whole lo hi w
  unfolding whole_in
  whole_no lo hi e f = told_yes no_value (whole lo hi w) e f

  pub listed_yes : r ≡ listed_in w → {n : ℕ} → r ≡ Some n → true ≡ dimension_list w
  unfolding listed_in
  listed_yes e f = told_no no_value (dimension_list w) no_value e f

  pub listed_no : r ≡ listed_in w → r ≡ None → false ≡ dimension_list w
  unfolding listed_in
  listed_no e f = told_yes no_value (dimension_list w) e f

module _ (w : Word) where
  pub exponent_yes : {r : Option ℤ} (most : ℕ) → r ≡ exponent_in most w → {n : ℤ} → r ≡ Some n → true ≡ exponent most w
  unfolding exponent_in
  exponent_yes most e f = told_no no_value (exponent most w) no_value e f

  pub exponent_none : {r : Option ℤ} (most : ℕ) → r ≡ exponent_in most w → r ≡ None → false ≡ exponent most w
  unfolding exponent_in
  exponent_none most e f = told_yes no_value (exponent most w) e f

  pub decimal_yes : {r : Option Decimal} → r ≡ decimal_in w → {n : Decimal} → r ≡ Some n → true ≡ decimal w
  unfolding decimal_in
  decimal_yes e f = told_no no_value (decimal w) no_value e f

  pub decimal_none : {r : Option Decimal} → r ≡ decimal_in w → r ≡ None → false ≡ decimal w
  unfolding decimal_in
  decimal_none e f = told_yes no_value (decimal w) e f

  pub three_yes : {r : Option Lengths} (a b c : ℕ) → r ≡ three_in a b c w → {n : Lengths} → r ≡ Some n → true ≡ volume_dimensions a b c w
  unfolding three_in
  three_yes a b c e f = told_no no_value (volume_dimensions a b c w) no_value e f

  pub three_none : {r : Option Lengths} (a b c : ℕ) → r ≡ three_in a b c w → r ≡ None → false ≡ volume_dimensions a b c w
  unfolding three_in
  three_none a b c e f = told_yes no_value (volume_dimensions a b c w) e f

pub ruleset telling = (
  whole_yes,
  whole_no,
  listed_yes,
  listed_no,
  exponent_yes,
  exponent_none,
  decimal_yes,
  decimal_none,
  three_yes,
  three_none,
  rules,
)

-- A LIST OF WHOLE NUMBERS
pub record Listing (text : List ℕ) (at most i : ℕ) : Type 0 where
  pub same_list : wholes most (says_at text at) ≡ wholes most (says_at text i)

pub listing_start : (text : List ℕ) (at most : ℕ) → Listing text at most at
listing_start text at most = record { same_list = refl }

module _ {text : List ℕ} {at most i : ℕ} (go : Listing text at most i) {r : Next} (e : r ≡ next_number text i) where
  pub listing_end : r ≡ End → true ≡ wholes most (says_at text at)
  unfolding wholes all
  listing_end f = sym (go.same_list ∙ rw (end_law text i e f))

  pub listing_bad : r ≡ Bad → false ≡ wholes most (says_at text at)
  unfolding wholes all whole
  listing_bad f = let b = bad_law text i e f in sym (go.same_list ∙ rw (b.splits, b.out_of_form))

  module _ {n j : ℕ} (f : r ≡ Number n j) where
    handed : Handed text i n j
    handed = number_law text i e f

    pub listing_less : left text j < left text i
    listing_less = handed.ahead

    one : wholes most (says_at text at) ≡ (leb n most && wholes most (says_at text j))
    unfolding wholes all whole
    one = let h = handed in go.same_list ∙ rw (h.splits, h.in_form_lem, h.valued, le-leb 0 n (omega arith))

    pub listing_many : most < n → false ≡ wholes most (says_at text at)
    listing_many h = sym (one ∙ rw (lt-leb n most h))

    pub listing_on : n ≤ most → Listing text at most j
    listing_on h = record { same_list = one ∙ rw (le-leb n most h) }

-- THE TEXT OF AN ELEMENT
module _ (text : List ℕ) (at : ℕ) {f : Option ℕ} (e : f ≡ inside text at) where
  text_there : {i : ℕ} → f ≡ Some i → says_at text i ≡ text_of_lem text at
  text_there h = sym (text_some text at (sym e ∙ h))

  text_missing : f ≡ None → [] ≡ text_of_lem text at
  text_missing h = sym (text_none text at (sym e ∙ h))

  pub wholes_there : (most : ℕ) {i : ℕ} → f ≡ Some i → {r : Bool} → r ≡ wholes most (says_at text i) → r ≡ wholes most (text_of_lem text at)
  wholes_there most h k = k ∙ ap (wholes most) (text_there h)

  pub wholes_missing : (most : ℕ) → f ≡ None → true ≡ wholes most (text_of_lem text at)
  unfolding wholes words parts those filled all
  wholes_missing most h = ap (wholes most) (text_missing h)

  pub sixteen_there : {i : ℕ} → f ≡ Some i → {r : Bool} → r ≡ sixteen (says_at text i) → r ≡ sixteen (text_of_lem text at)
  sixteen_there h k = k ∙ ap sixteen (text_there h)

  pub sixteen_missing : f ≡ None → false ≡ sixteen (text_of_lem text at)
  unfolding sixteen words parts those filled all last_row
  sixteen_missing h = ap sixteen (text_missing h)

pub ruleset inside_text = (wholes_there, wholes_missing, sixteen_there, sixteen_missing, rules)
