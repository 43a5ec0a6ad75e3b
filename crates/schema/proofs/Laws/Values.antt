-- The turns of the functions on values and texts.
use Rattle.std.specs.Prelude.{◌≡◌, List, Bool, not, ℕ, zero, suc, ◌+◌, ◌-◌, ltb}
use Rattle.std.proofs.Math.Path.{refl, ap, sym}
use Rattle.std.proofs.Common.{◌∙◌, arith, rules}
use Rattle.std.proofs.Math.Bool.{true, false, cond}
use Rattle.std.proofs.Math.Dec.{eqb}
use borrow.Author.Tests.{ne_eqb, eqb-true, not-true, not-false}
use Rattle.lists.specs.Lists.{count_up}
use Rattle.grammar.specs.Look.{Word, text_of}
use Rattle.nodes.specs.Places.{the}
use Rattle.nodes.specs.Texts.{text_of_lem}
use Rattle.nodes.proofs.Laws.TextSteps.{text_law}
use Rattle.numbers.specs.Numbers.{whole, volume_dimensions, dimension_list, exponent, decimal, wholes, sixteen, key, key_list, colour}
use Rattle.base64_text.specs.Base64.{coded}
use Rattle.schema.specs.Schema.{Form, word, number, any_value, is_word, is_number, is_text, any_text, numbers}
use Rattle.schema.specs.Words.{number_in}
use Rattle.schema.specs.Table.{fronted_at, form_by, form_at, form_cell, text_form_by, text_form_at}
use Rattle.schema.specs.Faults.{fault}
use Rattle.schema.specs.Parts.{among_words, number_by, label_by_form, keys_by_form, text_numbered, text_fault}
use Rattle.schema.specs.Asked.{Known}
use Rattle.schema.proofs.Laws.Searches.{among_found}

-- FORMS: those that are no words, by whether each is the one
abbrev numbers_by : (a b c : ℕ) (b₂ b₃ b₄ b₅ b₆ b₇ b₈ : Bool) → Form
numbers_by a b c b₂ b₃ b₄ b₅ b₆ b₇ b₈ =
    cond b₂ (number dimension_list) (cond b₃ (number (whole a b)) (cond b₄ (number decimal) (cond b₅ (number (exponent a))
    (cond b₆ (number (volume_dimensions a b c)) (cond b₇ (number key) (cond b₈ (number colour) any_value))))))

word_free : (x : Word) (a b c : ℕ) (b₂ b₃ b₄ b₅ b₆ b₇ b₈ : Bool) → is_word (numbers_by a b c b₂ b₃ b₄ b₅ b₆ b₇ b₈) x ≡ true
unfolding is_word
word_free x a b c true b₃ b₄ b₅ b₆ b₇ b₈ = refl
word_free x a b c false true b₄ b₅ b₆ b₇ b₈ = refl
word_free x a b c false false true b₅ b₆ b₇ b₈ = refl
word_free x a b c false false false true b₆ b₇ b₈ = refl
word_free x a b c false false false false true b₇ b₈ = refl
word_free x a b c false false false false false true b₈ = refl
word_free x a b c false false false false false false true = refl
word_free x a b c false false false false false false false = refl

number_so : (x : Word) (a b c : ℕ) (b₂ b₃ b₄ b₅ b₆ b₇ b₈ : Bool)
    → is_number (numbers_by a b c b₂ b₃ b₄ b₅ b₆ b₇ b₈) x
    ≡ cond b₂ (dimension_list x) (cond b₃ (whole a b x) (cond b₄ (decimal x) (cond b₅ (exponent a x)
    (cond b₆ (volume_dimensions a b c x) (cond b₇ (key x) (cond b₈ (colour x) true))))))
unfolding is_number
number_so x a b c true b₃ b₄ b₅ b₆ b₇ b₈ = refl
number_so x a b c false true b₄ b₅ b₆ b₇ b₈ = refl
number_so x a b c false false true b₅ b₆ b₇ b₈ = refl
number_so x a b c false false false true b₆ b₇ b₈ = refl
number_so x a b c false false false false true b₇ b₈ = refl
number_so x a b c false false false false false true b₈ = refl
number_so x a b c false false false false false false true = refl
number_so x a b c false false false false false false false = refl

module _ (t l : List ℕ) (x : Word) where
  number_form : (f a b c : ℕ) → is_number (form_by t l f a b c) x ≡ number_by f a b c x
  unfolding form_by number_by label_by_form is_number
  number_form f a b c = go (eqb f 1) refl
    where
      go : (o : Bool) → eqb f 1 ≡ o
          → is_number (cond o (word (count_up (fronted_at t l c) a (b - a)))
          (numbers_by a b c (eqb f 2) (eqb f 3) (eqb f 4) (eqb f 5) (eqb f 6) (eqb f 7) (eqb f 8))) x
          ≡ cond (eqb f 2) (dimension_list x) (cond (eqb f 3) (whole a b x) (cond (eqb f 4) (decimal x) (cond (eqb f 5) (exponent a x)
          (cond (eqb f 6) (volume_dimensions a b c x) (cond (eqb f 7) (key x) (cond (eqb f 8) (colour x) true))))))
      go true e = let z : f ≡ 1 = eqb-true f 1 e in rw z
      go false e = number_so x a b c (eqb f 2) (eqb f 3) (eqb f 4) (eqb f 5) (eqb f 6) (eqb f 7) (eqb f 8)

  module _ (f : ℕ) {id : ℕ} (i : id ≡ form_cell t f 0) where
    pub right_words : id ≡ 1 → {from : ℕ} → from ≡ form_cell t f 1 → {to : ℕ} → to ≡ form_cell t f 2 → {front : ℕ}
        → front ≡ form_cell t f 3 → {p : ℕ} → p ≡ from + number_in (count_up (fronted_at t l front) from (to - from)) x
        → ltb p to ≡ is_word (form_at t l f) x
    unfolding form_at form_by is_word among_words
    right_words o {from} a {to} b {front} e k = among_found (fronted_at t l front) x from to k ∙ rw (← i, o, ← a, ← b, ← e)

    pub right_free : (id ≡ 1 → ⊥) → true ≡ is_word (form_at t l f) x
    unfolding form_at form_by
    right_free o = sym (rw (← i, ne_eqb id 1 o)
        (word_free x (form_cell t f 1) (form_cell t f 2) (form_cell t f 3) (eqb id 2) (eqb id 3) (eqb id 4) (eqb id 5) (eqb id 6) (eqb id 7)
        (eqb id 8)))

    pub right_number : {a : ℕ} → a ≡ form_cell t f 1 → {b : ℕ} → b ≡ form_cell t f 2 → {c : ℕ} → c ≡ form_cell t f 3 → {r : Bool}
        → r ≡ number_by id a b c x → r ≡ is_number (form_at t l f) x
    unfolding form_at
    right_number a b c k = k ∙ rw (i, a, b, c) (sym (number_form (form_cell t f 0) (form_cell t f 1) (form_cell t f 2) (form_cell t f 3)))

module _ (x : Word) (f a b c : ℕ) where
  pub by_dimensions : {r : Bool} → f ≡ 2 → r ≡ dimension_list x → r ≡ number_by f a b c x
  unfolding number_by
  by_dimensions e h = rw e h

  pub by_whole : {r : Bool} → f ≡ 3 → r ≡ whole a b x → r ≡ number_by f a b c x
  unfolding number_by
  by_whole e h = rw e h

  pub by_decimal : {r : Bool} → f ≡ 4 → r ≡ decimal x → r ≡ number_by f a b c x
  unfolding number_by
  by_decimal e h = rw e h

  pub by_exponent : {r : Bool} → f ≡ 5 → r ≡ exponent a x → r ≡ number_by f a b c x
  unfolding number_by
  by_exponent e h = rw e h

  pub by_three : {r : Bool} → f ≡ 6 → r ≡ volume_dimensions a b c x → r ≡ number_by f a b c x
  unfolding number_by
  by_three e h = rw e h

  pub by_label : {t : Bool} → (f ≡ 2 → ⊥) → (f ≡ 3 → ⊥) → (f ≡ 4 → ⊥) → (f ≡ 5 → ⊥) → (f ≡ 6 → ⊥) → t ≡ label_by_form f x
      → t ≡ number_by f a b c x
  unfolding number_by
  by_label p q r s u h = h ∙ sym (rw (ne_eqb f 2 p, ne_eqb f 3 q, ne_eqb f 4 r, ne_eqb f 5 s, ne_eqb f 6 u) refl)

pub ruleset forming = (right_words, right_free, right_number, by_dimensions, by_whole, by_decimal, by_exponent, by_three, by_label, rules)

module _ (x : Word) (f : ℕ) where
  pub by_key : {t : Bool} → f ≡ 7 → t ≡ key x → t ≡ label_by_form f x
  unfolding label_by_form
  by_key e h = rw e h

  pub by_colour : {t : Bool} → f ≡ 8 → t ≡ colour x → t ≡ label_by_form f x
  unfolding label_by_form
  by_colour e h = rw e h

  pub by_none : (f ≡ 7 → ⊥) → (f ≡ 8 → ⊥) → true ≡ label_by_form f x
  unfolding label_by_form
  by_none p q = rw (ne_eqb f 7 p, ne_eqb f 8 q)

pub ruleset labelling = (by_key, by_colour, by_none, rules)

-- A VALUE'S FAULT
module _ {s a : Bool} (n : Bool) (e : a ≡ s) where
  pub fault_shape : not a ≡ true → 6 ≡ fault s n
  unfolding fault
  fault_shape h = rw (sym e ∙ not-true a h)

  pub fault_number : {b : Bool} → not a ≡ false → b ≡ n → not b ≡ true → 7 ≡ fault s n
  unfolding fault
  fault_number {b} h f k = rw (sym e ∙ not-false a h, sym f ∙ not-true b k)

  pub fault_none : {b : Bool} → not a ≡ false → b ≡ n → not b ≡ false → 0 ≡ fault s n
  unfolding fault
  fault_none {b} h f k = rw (sym e ∙ not-false a h, sym f ∙ not-false b k)

pub ruleset faulting = (fault_shape, fault_number, fault_none, rules)

-- TEXTS
text_form : (t : List ℕ) (f : ℕ) (w : Word) → (f ≡ 0 → ⊥) → text_numbered t f w ≡ is_text (text_form_at t (f - 1)) w
unfolding text_numbered
text_form t zero w h = absurd (h refl)
text_form t (suc f) w h = let z : suc f - 1 ≡ f = omega arith in rw z

-- those that are neither the sixteen nor whole numbers
keys_form : (k a : ℕ) (w : Word) → (k ≡ 1 → ⊥) → (k ≡ 2 → ⊥) → is_text (text_form_by k a) w ≡ keys_by_form k w
unfolding text_form_by keys_by_form is_text
keys_form k a w p q = rw (ne_eqb k 1 p, ne_eqb k 2 q) (go (eqb k 3) (eqb k 4))
  where
    go : (b c : Bool) → is_text (cond b (numbers key_list) (cond c (numbers coded) any_text)) w ≡ cond b (key_list w) (cond c (coded w) true)
    go true c = refl
    go false true = refl
    go false false = refl

module _ (w : Word) (k : ℕ) where
  pub by_list : {r : Bool} → k ≡ 3 → r ≡ key_list w → r ≡ keys_by_form k w
  unfolding keys_by_form
  by_list e h = rw e h

  pub by_code : {r : Bool} → k ≡ 4 → r ≡ coded w → r ≡ keys_by_form k w
  unfolding keys_by_form
  by_code e h = rw e h

  pub by_any : (k ≡ 3 → ⊥) → (k ≡ 4 → ⊥) → true ≡ keys_by_form k w
  unfolding keys_by_form
  by_any p q = rw (ne_eqb k 3 p, ne_eqb k 4 q)

pub ruleset keying = (by_list, by_code, by_any, rules)

module _ (t : List ℕ) {text : List ℕ} {at f : ℕ} (p₀ : Known text at f) where
  abbrev w : Word
  w = text_of (the text at)

  pub text_blank : f ≡ 0 → true ≡ text_numbered t f w
  unfolding text_numbered
  text_blank e = rw e

  module _ (h : f ≡ 0 → ⊥) {k : ℕ} (i : k ≡ form_cell t (f - 1) 0) where
    pub text_sixteen : {r : Bool} → k ≡ 1 → r ≡ sixteen (text_of_lem text at) → r ≡ text_numbered t f w
    unfolding text_form_at text_form_by is_text
    text_sixteen e q = q ∙ ap sixteen (text_law p₀.stands) ∙ sym (text_form t f w h ∙ rw (← i, e))

    pub text_wholes : {r : Bool} → k ≡ 2 → {a : ℕ} → a ≡ form_cell t (f - 1) 1 → r ≡ wholes a (text_of_lem text at) → r ≡ text_numbered t f w
    unfolding text_form_at text_form_by is_text
    text_wholes e {a} q u = u ∙ ap (wholes a) (text_law p₀.stands) ∙ sym (text_form t f w h ∙ rw (← i, e, ← q))

    pub text_others : {r : Bool} → (k ≡ 1 → ⊥) → (k ≡ 2 → ⊥) → r ≡ keys_by_form k (text_of_lem text at) → r ≡ text_numbered t f w
    unfolding text_form_at
    text_others p q u = u ∙ ap (keys_by_form k) (text_law p₀.stands)
        ∙ sym (text_form t f w h ∙ rw (← i) (keys_form k (form_cell t (f - 1) 1) w p q))

module _ (t : List ℕ) (f : ℕ) (w : Word) {b : Bool} where
  pub text_good : b ≡ text_numbered t f w → b ≡ true → 0 ≡ text_fault t f w
  unfolding text_fault fault
  text_good h k = rw (sym h ∙ k)

  pub text_bad : b ≡ text_numbered t f w → b ≡ false → 7 ≡ text_fault t f w
  unfolding text_fault fault
  text_bad h k = rw (sym h ∙ k)

pub ruleset texting = (text_blank, text_sixteen, text_wholes, text_others, text_good, text_bad, rules)
