-- A DOCTYPE, and what stands between the declaration and the root: one law for each way through the code.
use Rattle.std.specs.Prelude.{◌≡◌, refl, List, [], ◌∷◌, ℕ, ◌+◌, ◌-◌, ◌≤◌, ◌<◌, Bool, not, get_or, Option, Some, None}
use Rattle.std.proofs.Common.{ap, ◌∙◌, rules}
use Rattle.std.proofs.Math.Path.{sym}
use native.Mathlib.Omega.{arith}
use Rattle.std.proofs.Math.Bool.{true, false}
use borrow.Author.Tests.{eq-eqb, ne_eqb, not-true, not-false}
use Rattle.std.proofs.Math.ListN.{length, drop}
use Rattle.grammar.specs.Bytes.{ascii, begins, skipped}
use Rattle.grammar.specs.Read.{fail, got, bind, byte, mark}
use Rattle.grammar.proofs.Laws.Read.{mark_complete}
use Rattle.grammar.specs.Parser.{literal_at, skipped_at, doctype_at, doctype_if, prologue_at}
use Rattle.steps.specs.Step.{stepped}
use Rattle.steps.proofs.Laws.Step.{at_byte, at_end, arrives, refuses}
use Rattle.steps.proofs.Laws.Until.{Going, going_start, going_stops, going_fails, going_stuck, going_goes, moved, stepped_value}
use Rattle.steps.specs.Until.{until}
use Rattle.steps.proofs.Laws.Parsing.{stuck, follows}
use Rattle.steps.specs.Leaves.{character_at, doctype_rest_at}
use Rattle.steps.proofs.Laws.Leaves.{literal_is, literal_not, mark_tails, skipped_eats, skipped_tails}
use Rattle.steps.specs.Prologue.{asides_at, typed_at}
use Rattle.steps.proofs.Laws.Prologue.{asides_tails, doctype_tails}

-- one character
skipped_nil : skipped_at [] ≡ fail
unfolding skipped_at literal_at byte bind
skipped_nil = refl

module _ (text : List ℕ) (at : ℕ) where
  abbrev Skips : Option ℕ → Type 0
  Skips r = r ≡ stepped (length text) (skipped_at (drop at text))

  pub skip_none : length text ≤ at → Skips None
  skip_none h = refuses (length text) (skipped_at (drop at text)) (rw (at_end text at h) skipped_nil)

  module _ (h : at < length text) {t : Bool} (b : t ≡ skipped (get_or text at 0)) where
    pub skip_other : not t ≡ true → Skips None
    unfolding skipped_at bind
    skip_other e = refuses (length text) (skipped_at (drop at text))
        (rw (at_byte text at h, literal_not skipped (get_or text at 0) (drop (at + 1) text) (sym b ∙ not-true t e)))

    pub skip_one : not t ≡ false → {r : Option ℕ} → r ≡ stepped (length text) (character_at (drop at text)) → Skips r
    unfolding skipped_at
    skip_one e k =
        k ∙ rw (at_byte text at h) (ap (stepped (length text)) (sym (literal_is skipped (get_or text at 0) (drop (at + 1) text)
        (sym b ∙ not-false t e))) ∙ sym (stepped_value (length text) (literal_at skipped (get_or text at 0 ∷ drop (at + 1) text)) (λ _. [])))

-- up to `>`
abbrev pub InDoctype : List ℕ → ℕ → ℕ → Type 0
InDoctype text at i = Going (begins (ascii ">")) skipped_at (mark (ascii ">")) text at i

pub doctype_start : (text : List ℕ) (at : ℕ) → InDoctype text at at
doctype_start text at = going_start (begins (ascii ">")) skipped_at (mark (ascii ">")) text at

module _ (text : List ℕ) (at i : ℕ) (go : InDoctype text at i) where
  abbrev Rest : Option ℕ → Type 0
  Rest r = r ≡ stepped (length text) (doctype_rest_at (drop at text))

  pub doctype_open : length text ≤ i → Rest None
  unfolding doctype_rest_at begins
  doctype_open h =
      let k : skipped_at (drop i text) ≡ fail = rw (at_end text i h) skipped_nil in
      let none : begins (ascii ">") (drop i text) ≡ false = rw (at_end text i h) in
      going_fails (begins (ascii ">")) skipped_at (mark (ascii ">")) skipped_eats text at i go none k

  module _ (h : i < length text) where
    pub doctype_closes : get_or text i 0 ≡ 62 → Rest (Some (i + 1))
    unfolding doctype_rest_at begins
    doctype_closes e =
        let here : begins (ascii ">") (drop i text) ≡ true = rw (at_byte text i h, eq-eqb (get_or text i 0) 62 e) in
        let inside : i + 1 ≤ length text = omega arith in
        going_stops (begins (ascii ">")) skipped_at (mark (ascii ">")) skipped_eats text at i go here
        (arrives text (mark (ascii ">") (drop i text)) (i + 1) inside
        (rw (at_byte text i h, e) (mark_complete (ascii ">") (drop (i + 1) text))))

    module _ (f : get_or text i 0 ≡ 62 → ⊥) {r : Option ℕ} (s : r ≡ stepped (length text) (skipped_at (drop i text))) where
      other : begins (ascii ">") (drop i text) ≡ false
      unfolding begins
      other = rw (at_byte text i h, ne_eqb (get_or text i 0) 62 f)

      pub doctype_stuck : r ≡ None → Rest None
      unfolding doctype_rest_at
      doctype_stuck n = going_stuck (begins (ascii ">")) skipped_at (mark (ascii ">")) skipped_eats text at i go other s n

      pub doctype_more : {j : ℕ} → r ≡ Some j → InDoctype text at j
      doctype_more n = going_goes (begins (ascii ">")) skipped_at (mark (ascii ">")) skipped_eats text at i go other skipped_tails s n

pub doctype_less : (text : List ℕ) (i : ℕ) {r : Option ℕ} {j : ℕ} → i < length text → r ≡ stepped (length text) (skipped_at (drop i text))
    → r ≡ Some j → length text - j < length text - i
doctype_less text i {j = j} h is n = let on : i < j = moved skipped_at skipped_eats skipped_tails text i is n in omega arith

-- the whole
module _ (text : List ℕ) (at : ℕ) {r : Option ℕ} (is : r ≡ stepped (length text) (mark (ascii "<!DOCTYPE") (drop at text))) where
  pub doctype_missing : r ≡ None → None ≡ stepped (length text) (doctype_at (drop at text))
  unfolding doctype_at
  doctype_missing n = stuck (length text) (mark (ascii "<!DOCTYPE") (drop at text)) _ is n

  pub doctype_there : {i : ℕ} → r ≡ Some i → {x : Option ℕ} → x ≡ stepped (length text) (doctype_rest_at (drop i text))
      → x ≡ stepped (length text) (doctype_at (drop at text))
  unfolding doctype_at doctype_rest_at until
  doctype_there {i} n k = follows (mark (ascii "<!DOCTYPE")) (mark_tails (ascii "<!DOCTYPE")) text at _ is i n λ _ _. k

-- with what stands behind it, or nothing
module _ (text : List ℕ) (at : ℕ) where
  abbrev Typed : Option ℕ → Type 0
  Typed r = r ≡ stepped (length text) (typed_at (drop at text))

  pub typed_none : length text ≤ at → Typed (Some (length text))
  unfolding typed_at doctype_if begins
  typed_none h = arrives text (typed_at (drop at text)) (length text) (omega arith)
      (rw (at_end text at h, at_end text (length text) (omega arith)))

  module _ (h : at < length text) {t : Bool} (b : t ≡ begins (ascii "<!D") (drop at text)) where
    pub typed_other : not t ≡ true → Typed (Some at)
    unfolding typed_at doctype_if
    typed_other e =
        let inside : at ≤ length text = omega arith in
        arrives text (typed_at (drop at text)) at inside (rw (sym b ∙ not-true t e))

    module _ (e : not t ≡ false) {r : Option ℕ} (q : r ≡ stepped (length text) (doctype_at (drop at text))) where
      there : typed_at (drop at text) ≡ bind (doctype_at (drop at text)) (λ _ r. bind (asides_at r) (λ _ r₁. got tt r₁))
      unfolding typed_at doctype_if asides_at
      there = rw (sym b ∙ not-false t e)

      pub typed_stuck : r ≡ None → Typed None
      typed_stuck n = stuck (length text) (doctype_at (drop at text)) _ q n ∙ ap (stepped (length text)) (sym there)

      pub typed_on : {i : ℕ} → r ≡ Some i → {x : Option ℕ} → x ≡ stepped (length text) (asides_at (drop i text)) → Typed x
      typed_on {i} n k =
          follows doctype_at doctype_tails text at _ q i n
          (λ _ _. k ∙ sym (stepped_value (length text) (asides_at (drop i text)) (λ _. tt)))
          ∙ ap (stepped (length text)) (sym there)

-- between the declaration and the root
module _ (text : List ℕ) (at : ℕ) {r : Option ℕ} (q : r ≡ stepped (length text) (asides_at (drop at text))) where
  pub prologue_none : r ≡ None → None ≡ stepped (length text) (prologue_at (drop at text))
  unfolding prologue_at asides_at
  prologue_none e = stuck (length text) (asides_at (drop at text)) _ q e

  pub prologue_some : {i : ℕ} → r ≡ Some i → {x : Option ℕ} → x ≡ stepped (length text) (typed_at (drop i text))
      → x ≡ stepped (length text) (prologue_at (drop at text))
  unfolding prologue_at asides_at typed_at
  prologue_some {i} e l = follows asides_at asides_tails text at _ q i e λ _ _. l

pub ruleset skipping = (skip_none, skip_other, skip_one, rules)

pub ruleset in_doctype = (doctype_start, doctype_open, doctype_closes, doctype_stuck, doctype_more, doctype_less, rules)

pub ruleset doctypes = (doctype_missing, doctype_there, rules)

pub ruleset typing = (typed_none, typed_other, typed_stuck, typed_on, rules)

pub ruleset prologues = (prologue_none, prologue_some, rules)
