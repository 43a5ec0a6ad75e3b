-- Comments, at a position of the text: one law for each way through the code.
use Rattle.std.specs.Prelude.{◌≡◌, refl, List, [], ◌∷◌, ℕ, ◌+◌, ◌-◌, ◌≤◌, ◌<◌, Bool, true, false, eqb, length, drop, get_or, Option, Some, None}
use Rattle.std.proofs.Common.{ap, ◌∙◌, arith}
use Rattle.std.proofs.Math.Path.{sym}
use borrow.Author.Tests.{eq-eqb, ne_eqb}
use Rattle.lists.proofs.Laws.Booleans.{and_true}
use Rattle.grammar.specs.Bytes.{ascii, between, begins}
use Rattle.grammar.specs.Read.{fail, bind, byte, mark, alt}
use Rattle.grammar.proofs.Laws.Read.{mark_other, mark_complete, alt_fail}
use Rattle.grammar.specs.Parser.{literal_at, no_dash, plain_at, dashed_at, remark_at, comment_at}
use Rattle.steps.specs.Step.{stepped}
use Rattle.steps.proofs.Laws.Step.{at_byte, at_end, refuses, fell, went}
use Rattle.steps.proofs.Laws.Until.{Going, going_start, going_stops, going_fails, going_stuck, going_goes, moved, stepped_value}
use Rattle.steps.specs.Until.{until}
use Rattle.steps.specs.Leaves.{character_at, comment_rest_at}
use Rattle.steps.proofs.Laws.Leaves.{literal_is, literal_not, mark_tails, remark_eats, remark_tails}
use Rattle.steps.proofs.Laws.Characters.{plain_step}

-- two dashes
module _ (text : List ℕ) (at : ℕ) where
  pub dashes_none : length text ≤ at → false ≡ begins (ascii "--") (drop at text)
  unfolding begins
  dashes_none h = rw (at_end text at h)

  module _ (h : at < length text) where
    pub dashes_other : (get_or text at 0 ≡ 45 → ⊥) → false ≡ begins (ascii "--") (drop at text)
    unfolding begins
    dashes_other f = rw (at_byte text at h, ne_eqb (get_or text at 0) 45 f)

    module _ (e : get_or text at 0 ≡ 45) where
      pub dashes_last : length text ≤ at + 1 → false ≡ begins (ascii "--") (drop at text)
      unfolding begins
      dashes_last k = rw (at_byte text at h, at_end text (at + 1) k, eq-eqb (get_or text at 0) 45 e)

      pub dashes_two : at + 1 < length text → eqb (get_or text (at + 1) 0) 45 ≡ begins (ascii "--") (drop at text)
      unfolding begins
      dashes_two k = sym (rw (at_byte text at h, at_byte text (at + 1) k, eq-eqb (get_or text at 0) 45 e)
          (and_true (eqb (get_or text (at + 1) 0) 45)))

-- one character, or a dash and one
plain_at_step : (n a : ℕ) (s : List ℕ) → (a ≡ 45 → ⊥) → stepped n (plain_at (a ∷ s)) ≡ stepped n (character_at (a ∷ s))
unfolding plain_at no_dash
plain_at_step n a s f =
    let e : no_dash a ≡ true = rw (ne_eqb a 45 f) in
    stepped_value n (literal_at no_dash (a ∷ s)) (λ _. []) ∙ ap (stepped n) (literal_is no_dash a s e)

plain_dash : (s : List ℕ) → plain_at (45 ∷ s) ≡ fail
unfolding plain_at bind no_dash
plain_dash s = rw (literal_not no_dash 45 s refl)

plain_nil : plain_at [] ≡ fail
unfolding plain_at literal_at bind byte
plain_nil = refl

dashed_other : (a : ℕ) (s : List ℕ) → (a ≡ 45 → ⊥) → dashed_at (a ∷ s) ≡ fail
unfolding dashed_at bind
dashed_other a s f = rw (mark_other 45 a [] s (ne_eqb a 45 f))

dashed_dash : (s : List ℕ) → dashed_at (45 ∷ s) ≡ plain_at s
unfolding dashed_at bind
dashed_dash s = rw (mark_complete (ascii "-") s)

remark_plain : (n a : ℕ) (s : List ℕ) → (a ≡ 45 → ⊥) → stepped n (remark_at (a ∷ s)) ≡ stepped n (character_at (a ∷ s))
unfolding remark_at
remark_plain n a s f = ap (stepped n) (alt_fail (plain_at (a ∷ s)) (dashed_other a s f)) ∙ plain_at_step n a s f

remark_dash : (s : List ℕ) → remark_at (45 ∷ s) ≡ plain_at s
unfolding remark_at alt
remark_dash s = rw (plain_dash s) (dashed_dash s)

remark_nil : remark_at [] ≡ fail
unfolding remark_at alt dashed_at mark bind
remark_nil = rw plain_nil

module _ (text : List ℕ) (at : ℕ) where
  abbrev Remarks : Option ℕ → Type 0
  Remarks r = r ≡ stepped (length text) (remark_at (drop at text))

  pub remark_none : length text ≤ at → Remarks None
  remark_none h = refuses (length text) (remark_at (drop at text)) (rw (at_end text at h) remark_nil)

  module _ (h : at < length text) where
    pub remark_other : (get_or text at 0 ≡ 45 → ⊥) → {r : Option ℕ} → r ≡ stepped (length text) (character_at (drop at text)) → Remarks r
    remark_other f k = k ∙ rw (at_byte text at h) (sym (remark_plain (length text) (get_or text at 0) (drop (at + 1) text) f))

    pub remark_plainly : (get_or text at 0 ≡ 45 → ⊥) → {t : Bool} → t ≡ between 32 127 (get_or text at 0) → t ≡ true → Remarks (Some (at + 1))
    remark_plainly f is e = remark_other f (plain_step text at h is e)

    module _ (e : get_or text at 0 ≡ 45) where
      behind_dash : remark_at (drop at text) ≡ plain_at (drop (at + 1) text)
      behind_dash = rw (at_byte text at h, e) (remark_dash (drop (at + 1) text))

      pub remark_last : length text ≤ at + 1 → Remarks None
      remark_last k = refuses (length text) (remark_at (drop at text)) (behind_dash ∙ rw (at_end text (at + 1) k) plain_nil)

      module _ (k : at + 1 < length text) where
        pub remark_two : get_or text (at + 1) 0 ≡ 45 → Remarks None
        remark_two l = refuses (length text) (remark_at (drop at text))
            (behind_dash ∙ rw (at_byte text (at + 1) k, l) (plain_dash (drop ((at + 1) + 1) text)))

        pub remark_dashed : (get_or text (at + 1) 0 ≡ 45 → ⊥) → {r : Option ℕ} → r ≡ stepped (length text) (character_at (drop (at + 1) text))
            → Remarks r
        remark_dashed f l =
            l ∙ sym (ap (stepped (length text)) behind_dash
            ∙ rw (at_byte text (at + 1) k) (plain_at_step (length text) (get_or text (at + 1) 0) (drop ((at + 1) + 1) text) f))

-- up to two dashes
abbrev pub InComment : List ℕ → ℕ → ℕ → Type 0
InComment text at i = Going (begins (ascii "--")) remark_at (mark (ascii "-->")) text at i

pub comment_start : (text : List ℕ) (at : ℕ) → InComment text at at
comment_start text at = going_start (begins (ascii "--")) remark_at (mark (ascii "-->")) text at

module _ (text : List ℕ) (at i : ℕ) (go : InComment text at i) where
  abbrev Rest : Option ℕ → Type 0
  Rest r = r ≡ stepped (length text) (comment_rest_at (drop at text))

  pub comment_open : length text ≤ i → Rest None
  unfolding comment_rest_at
  comment_open h =
      let k : remark_at (drop i text) ≡ fail = rw (at_end text i h) remark_nil in
      going_fails (begins (ascii "--")) remark_at (mark (ascii "-->")) remark_eats text at i go (sym (dashes_none text i h)) k

  module _ {t : Bool} (is : t ≡ begins (ascii "--") (drop i text)) where
    pub comment_closes : t ≡ true → {r : Option ℕ} → r ≡ stepped (length text) (mark (ascii "-->") (drop i text)) → Rest r
    unfolding comment_rest_at
    comment_closes e k = going_stops (begins (ascii "--")) remark_at (mark (ascii "-->")) remark_eats text at i go (sym is ∙ e) k

    module _ (e : t ≡ false) {r : Option ℕ} (s : r ≡ stepped (length text) (remark_at (drop i text))) where
      pub comment_stuck : r ≡ None → Rest None
      unfolding comment_rest_at
      comment_stuck n = going_stuck (begins (ascii "--")) remark_at (mark (ascii "-->")) remark_eats text at i go (sym is ∙ e) s n

      pub comment_more : {j : ℕ} → r ≡ Some j → InComment text at j
      comment_more n = going_goes (begins (ascii "--")) remark_at (mark (ascii "-->")) remark_eats text at i go
          (sym is ∙ e) remark_tails s n

pub comment_less : (text : List ℕ) (i : ℕ) {r : Option ℕ} {j : ℕ} → i < length text → r ≡ stepped (length text) (remark_at (drop i text))
    → r ≡ Some j → length text - j < length text - i
comment_less text i {j = j} h is n = let on : i < j = moved remark_at remark_eats remark_tails text i is n in omega arith

-- the whole comment
module _ (text : List ℕ) (at : ℕ) {r : Option ℕ} (is : r ≡ stepped (length text) (mark (ascii "<!--") (drop at text))) where
  pub comment_none : r ≡ None → None ≡ stepped (length text) (comment_at (drop at text))
  unfolding comment_at bind
  comment_none n = refuses (length text) (comment_at (drop at text))
      (rw (fell (length text) (mark (ascii "<!--") (drop at text)) (sym n ∙ is)))

  pub comment_some : {i : ℕ} → r ≡ Some i → {x : Option ℕ} → x ≡ stepped (length text) (comment_rest_at (drop i text))
      → x ≡ stepped (length text) (comment_at (drop at text))
  unfolding comment_at comment_rest_at until bind
  comment_some {i} n k =
      let w = went (mark (ascii "<!--")) text at i (mark_tails (ascii "<!--") (drop at text)) (sym n ∙ is) in
      k ∙ sym (rw w.reads)
