-- The scan for tags, at a position of the text: one law for each way through the code.
use Rattle.std.specs.Prelude.{◌≡◌, refl, List, ◌∷◌, ℕ, ◌+◌, ◌-◌, ◌≤◌, ◌<◌, Bool, true, false, eqb, length, get_or, Option, Some, None}
use Rattle.std.proofs.Math.Path.{sym}
use Rattle.std.proofs.Common.{◌∙◌, rules}
use native.Mathlib.Omega.{arith}
use borrow.Author.Tests.{eq-eqb, ne_eqb, eqb-false, not-true}
use Rattle.std.proofs.Math.ListN.{drop, length-drop}
use Rattle.grammar.specs.Read.{got, bind, mark, test}
use Rattle.grammar.specs.Parser.{Look, at_close, at_comment, at_data, at_element, at_text, look}
use Rattle.steps.specs.Step.{stepped}
use Rattle.steps.proofs.Laws.Step.{at_byte, at_end, arrives, refuses}
use Rattle.steps.specs.Blocks.{Through, other}
use Rattle.steps.proofs.Laws.Blocks.{through_passed}
use Rattle.nodes.specs.Scan.{to_tag, Quoted, past_tag, quoting, finishes, finish, tag_from, tag_at, InTag}
use Rattle.nodes.specs.ScanSteps.{tag_told}
use Rattle.steps.specs.Pieces.{front}
use Rattle.steps.proofs.Laws.Pieces.{front_is}
use Rattle.steps.specs.declared.pieces.Front.{Front}
use Rattle.steps.specs.declared.pieces.Front.TheVariants as shows
use Rattle.nodes.specs.declared.scan.Tag.{Tag}
use Rattle.nodes.specs.declared.scan.Tag.TheVariants as tag_is

-- what a front says of a look
pub front_look : (l : Look) (f : Front) → f ≡ front l → {k : Look} → f ≡ front k → l ≡ k
front_look l f e {k} q = front_is l k (sym e ∙ q)

module _ (s : List ℕ) {f : Front} (e : f ≡ front (look s)) where
  pub looks_close : f ≡ shows.Close → look s ≡ at_close
  unfolding front
  looks_close q = front_look (look s) f e q

  pub looks_comment : f ≡ shows.Comment → look s ≡ at_comment
  unfolding front
  looks_comment q = front_look (look s) f e q

  pub looks_data : f ≡ shows.Data → look s ≡ at_data
  unfolding front
  looks_data q = front_look (look s) f e q

  pub looks_start : f ≡ shows.Start → look s ≡ at_element
  unfolding front
  looks_start q = front_look (look s) f e q

  pub looks_text : f ≡ shows.Text → look s ≡ at_text
  unfolding front
  looks_text q = front_look (look s) f e q

-- TO THE NEXT TAG
pub record Seeking (text : List ℕ) (at i : ℕ) : Type 0 where
  same_tag : to_tag (drop at text) ≡ to_tag (drop i text)

module _ (text : List ℕ) (at i : ℕ) (go : Seeking text at i) where
  pub seek_end : length text ≤ i → length text ≡ length text - length (to_tag (drop at text))
  unfolding to_tag
  seek_end h = rw (go.same_tag, at_end text i h) (omega arith)

  pub seek_here : i < length text → get_or text i 0 ≡ 60 → i ≡ length text - length (to_tag (drop at text))
  unfolding to_tag
  seek_here h e =
      let q : to_tag (drop i text) ≡ drop i text = rw (at_byte text i h, eq-eqb _ _ e) in
      rw (go.same_tag, q, length-drop i text) (omega arith)

  pub seek_on : i < length text → (get_or text i 0 ≡ 60 → ⊥) → Seeking text at (i + 1)
  unfolding to_tag
  seek_on h f = record { same_tag = go.same_tag ∙ rw (at_byte text i h, ne_eqb _ _ f) }

pub seek_from : {text : List ℕ} {at i : ℕ} → Through (other 60) text at i → Seeking text at i
unfolding to_tag other
seek_from k = record { same_tag = through_passed (other 60) to_tag (λ a s h. rw (not-true (eqb a 60) h)) k }

pub ruleset seeking = (seek_from, seek_end, seek_here, seek_on, rules)

-- PAST THE NEXT `>`
pub record Passing (text : List ℕ) (at i : ℕ) : Type 0 where
  same_end : past_tag (drop at text) ≡ past_tag (drop i text)

pub pass_start : (text : List ℕ) (at : ℕ) → Passing text at at
pass_start text at = record { same_end = refl }

module _ (text : List ℕ) (at i : ℕ) (go : Passing text at i) where
  pub pass_end : length text ≤ i → None ≡ stepped (length text) (past_tag (drop at text))
  unfolding past_tag
  pass_end h = refuses (length text) (past_tag (drop at text)) (rw (go.same_end, at_end text i h))

  pub pass_here : i < length text → get_or text i 0 ≡ 62 → Some (i + 1) ≡ stepped (length text) (past_tag (drop at text))
  unfolding past_tag
  pass_here h e =
      let q : past_tag (drop at text) ≡ got tt (drop (i + 1) text) = rw (go.same_end, at_byte text i h, eq-eqb _ _ e) in
      arrives text (past_tag (drop at text)) (i + 1) (omega arith) q

  pub pass_on : i < length text → (get_or text i 0 ≡ 62 → ⊥) → Passing text at (i + 1)
  unfolding past_tag
  pass_on h f = record { same_end = go.same_end ∙ rw (at_byte text i h, ne_eqb _ _ f) }

pub ruleset passing = (pass_start, pass_end, pass_here, pass_on, rules)

-- THE END OF A START TAG
module _ (text : List ℕ) (at : ℕ) (here : at < length text) where
  place : (k : ℕ) → k ≤ length text → length text - length (drop k text) ≡ k
  place k h = simp length-drop (omega arith)

  pub finish_open : get_or text at 0 ≡ 62 → Some (tag_is.Open (at + 1)) ≡ tag_told (length text) (finish (get_or text at 0) (drop (at + 1) text))
  unfolding finish tag_told
  finish_open e = rw (eq-eqb _ _ e, place (at + 1) (omega arith))

  pub finish_short : (get_or text at 0 ≡ 62 → ⊥) → length text ≤ at + 1
      → None ≡ tag_told (length text) (finish (get_or text at 0) (drop (at + 1) text))
  unfolding finish tag_told bind mark
  finish_short f h = rw (ne_eqb _ _ f, at_end text (at + 1) h)

  pub finish_bare : (get_or text at 0 ≡ 62 → ⊥) → at + 1 < length text → get_or text (at + 1) 0 ≡ 62
      → Some (tag_is.Bare (at + 2)) ≡ tag_told (length text) (finish (get_or text at 0) (drop (at + 1) text))
  unfolding finish tag_told bind mark test
  finish_bare f h e =
      let z : at + 1 + 1 ≡ at + 2 = omega arith in
      rw (ne_eqb _ _ f, at_byte text (at + 1) h, eq-eqb _ _ e, z, place (at + 2) (omega arith))

  pub finish_bad : (get_or text at 0 ≡ 62 → ⊥) → at + 1 < length text → (get_or text (at + 1) 0 ≡ 62 → ⊥)
      → None ≡ tag_told (length text) (finish (get_or text at 0) (drop (at + 1) text))
  unfolding finish tag_told bind mark test
  finish_bad f h e = rw (ne_eqb _ _ f, at_byte text (at + 1) h, ne_eqb _ _ e)

pub ruleset finishing = (finish_open, finish_short, finish_bare, finish_bad, rules)

pub record Tagging (text : List ℕ) (at q i : ℕ) : Type 0 where
  same_rest : tag_from 0 (drop at text) ≡ tag_from q (drop i text)

pub tag_start : (text : List ℕ) (at : ℕ) → Tagging text at 0 at
tag_start text at = record { same_rest = refl }

module _ (text : List ℕ) (at q i : ℕ) (go : Tagging text at q i) where
  pub tag_none : length text ≤ i → None ≡ tag_told (length text) (tag_from 0 (drop at text))
  unfolding tag_from tag_told
  tag_none h = rw (go.same_rest, at_end text i h)

  module _ (h : i < length text) {t : Bool} (e : t ≡ finishes q (get_or text i 0)) where
    pub tag_stops : t ≡ true → {r : Option Tag} → r ≡ tag_told (length text) (finish (get_or text i 0) (drop (i + 1) text))
        → r ≡ tag_told (length text) (tag_from 0 (drop at text))
    unfolding tag_from
    tag_stops y z = z ∙ sym (rw (go.same_rest, at_byte text i h, sym e ∙ y))

    pub tag_goes : t ≡ false → {p : ℕ} → p ≡ quoting q (get_or text i 0) → Tagging text at p (i + 1)
    unfolding tag_from
    tag_goes n z = record { same_rest = go.same_rest ∙ rw (at_byte text i h, sym e ∙ n, z) }

-- INSIDE OF QUOTES
quote_goes : (q b : ℕ) → (q ≡ 0 → ⊥) → (b ≡ q → ⊥) → q ≡ quoting q b
unfolding quoting
quote_goes q b f e = rw (ne_eqb _ _ f, ne_eqb _ _ e)

module _ (text : List ℕ) (q : ℕ) (k : q ≡ 0 → ⊥) where
  quote_one : (a : ℕ) (s : List ℕ) → (a ≡ q → ⊥) → tag_from q (a ∷ s) ≡ tag_from q s
  unfolding tag_from finishes
  quote_one a s f = rw (ne_eqb q 0 k, sym (quote_goes q a k f))

  pub quote_from : {at i : ℕ} → Through (other q) text at i → Quoted text q at i
  unfolding other
  quote_from l = record {
    ahead = l.ahead;
    same = through_passed (other q) (tag_from q) (λ a s h. quote_one a s (eqb-false a q (not-true (eqb a q) h))) l;
  }

pub tag_jumps : {text : List ℕ} {at p i j : ℕ} → Tagging text at p i → Quoted text p i j → Tagging text at p j
tag_jumps t k = record { same_rest = t.same_rest ∙ k.same }

-- THE WHOLE TAG
module _ (text : List ℕ) (at : ℕ) where
  pub tag_past : length text ≤ at → None ≡ tag_told (length text) (tag_at (drop at text))
  unfolding tag_at tag_told
  tag_past h = rw (at_end text at h)

  pub tag_opens : at < length text → InTag text at (at + 1)
  unfolding tag_at
  tag_opens h = record { same_tag = rw (at_byte text at h) }

  pub tag_whole : at < length text → {r : Option Tag} → r ≡ tag_told (length text) (tag_from 0 (drop (at + 1) text))
      → r ≡ tag_told (length text) (tag_at (drop at text))
  tag_whole h e = rw (tag_opens h).same_tag e

pub ruleset whole_tag = (tag_past, tag_whole, rules)
