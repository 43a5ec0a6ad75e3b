-- Round the root: blanks and comments, a DOCTYPE, and the end.
use Rattle.std.specs.Prelude.{◌≡◌, ℕ, Bool, ◌&&◌}
use Rattle.std.proofs.Math.Path.{refl, ap, sym}
use Rattle.std.proofs.Common.{◌∙◌}
use mathlib.Core.List.{List, [], ◌∷◌}
use Rattle.std.proofs.Math.Bool.{true, false, cond}
use Rattle.std.proofs.Math.Dec.{eqb}
use borrow.Author.Tests.{eqb-true}
use Rattle.grammar.specs.Bytes.{ascii, blank, name_start, letter, begins}
use Rattle.grammar.specs.Read.{fail, bind, test, mark, byte, stops, alt, all_of, many_step}
use Rattle.grammar.proofs.Laws.Read.{mark_other, byte_other, byte_complete}
use Rattle.grammar.specs.Parser.{name_at, comment_at, blank_at, remarked_at, aside_at, no_aside, end_at, element_at, doctype_at, doctype_if}
use Rattle.grammar.proofs.Laws.Unfuelled.{all_of_step}
use Rattle.steps.specs.Until.{until}
use Rattle.steps.specs.Leaves.{comment_rest_at, doctype_rest_at}
use Rattle.steps.specs.Prologue.{asides_at, typed_at}
use Rattle.steps.proofs.Laws.Prologue.{aside_eats}
use Rattle.stream.specs.Jobs.{fixed, remarks, skipping, trailing, prologue, dead, turn, change_trailing, change_prologue}
use Rattle.stream.specs.Jobs.{change_prologue_angle, change_prologue_mark}
use Rattle.stream.proofs.Laws.Meets.{Passing, leads, meets, meets_all, changed, root, typing, rooted, leads_bind, leads_same}
use Rattle.stream.proofs.Laws.Meets.{leads_value, leads_fail, alt_second, by_test}
use Rattle.stream.proofs.Laws.Leaves.{leads_mark}
use Rattle.stream.proofs.Laws.Elements.{element_law}

-- BLANKS AND COMMENTS: `f` is what follows them
module _ (f : Passing) where
  abbrev pub aside : Passing
  aside s = leads (asides_at s) (λ _ r. f r)

  pub asides_step : (s : List ℕ) → aside s ≡ cond (no_aside s) (f s) (leads (aside_at s) (λ _ r. aside r))
  unfolding asides_at many_step leads
  asides_step s = ap (λ m. leads m (λ _ r. f r)) (all_of_step aside_at no_aside aside_eats s) ∙ go (no_aside s)
    where
      go : (t : Bool)
          → leads (many_step t aside_at (all_of no_aside aside_at) s) (λ _ r. f r) ≡ cond t (f s) (leads (aside_at s) (λ _ r. aside r))
      go true = refl
      go false = leads_bind (aside_at s) _ _ ∙ leads_same (aside_at s) _ _ λ x r. leads_bind (all_of no_aside aside_at r) _ _

  -- something else stands there
  pub asides_none : (s : List ℕ) → no_aside s ≡ true → aside s ≡ f s
  asides_none s e = asides_step s ∙ ap (λ t. cond t (f s) (leads (aside_at s) (λ _ r. aside r))) e

  asides_some : (s : List ℕ) → no_aside s ≡ false → aside s ≡ leads (aside_at s) (λ _ r. aside r)
  asides_some s e = asides_step s ∙ ap (λ t. cond t (f s) (leads (aside_at s) (λ _ r. aside r))) e

  pub asides_blank : (a : ℕ) (s : List ℕ) → blank a ≡ true → aside (a ∷ s) ≡ aside s
  unfolding no_aside stops aside_at blank_at bind alt leads
  asides_blank a s e = asides_some (a ∷ s) (rw e) ∙ rw (byte_complete blank a e s)

  pub asides_other : (a : ℕ) (s : List ℕ) → blank a ≡ false → eqb a 60 ≡ false → aside (a ∷ s) ≡ f (a ∷ s)
  unfolding no_aside stops begins
  asides_other a s e h = asides_none (a ∷ s) (rw (e, h))

  no_blank_less : (s : List ℕ) → blank_at (60 ∷ s) ≡ fail
  unfolding blank_at bind blank
  no_blank_less s = rw (byte_other blank 60 refl s)

  pub asides_comment : (s : List ℕ) → aside (60 ∷ 33 ∷ 45 ∷ s) ≡ meets (fixed (ascii "-")) (meets remarks aside) s
  unfolding no_aside stops begins blank aside_at remarked_at comment_at comment_rest_at until meets
  asides_comment s =
      asides_some (60 ∷ 33 ∷ 45 ∷ s) refl
      ∙ ap (λ m. leads m (λ _ r. aside r)) (alt_second _ _ (no_blank_less (33 ∷ 45 ∷ s)))
      ∙ leads_value (comment_at (60 ∷ 33 ∷ 45 ∷ s)) (λ _. []) aside
      ∙ leads_bind (mark (ascii "<!--") (60 ∷ 33 ∷ 45 ∷ s)) _ _
      ∙ leads_mark 60 (ascii "!--") (33 ∷ 45 ∷ s) _ ∙ leads_mark 33 (ascii "--") (45 ∷ s) _ ∙ leads_mark 45 (ascii "-") s _

  pub asides_angle : (a : ℕ) (s : List ℕ) → eqb a 33 ≡ false → aside (60 ∷ a ∷ s) ≡ f (60 ∷ a ∷ s)
  unfolding no_aside stops begins blank
  asides_angle a s e = asides_none (60 ∷ a ∷ s) (rw e)

  pub asides_mark : (a : ℕ) (s : List ℕ) → eqb a 45 ≡ false → aside (60 ∷ 33 ∷ a ∷ s) ≡ f (60 ∷ 33 ∷ a ∷ s)
  unfolding no_aside stops begins blank
  asides_mark a s e = asides_none (60 ∷ 33 ∷ a ∷ s) (rw e)

  pub asides_end : aside [] ≡ f []
  unfolding no_aside stops begins
  asides_end = asides_none [] refl

  pub angle_end : aside (60 ∷ []) ≡ f (60 ∷ [])
  unfolding no_aside stops begins blank
  angle_end = asides_none (60 ∷ []) refl

  pub mark_end : aside (60 ∷ 33 ∷ []) ≡ f (60 ∷ 33 ∷ [])
  unfolding no_aside stops begins blank
  mark_end = asides_none (60 ∷ 33 ∷ []) refl

-- BEHIND THE ROOT
module _ (k : Passing) where
  ending : Passing
  ending s = leads (end_at s) (λ _ r. k r)

  no_end : (a : ℕ) (s : List ℕ) → ending (a ∷ s) ≡ false
  unfolding ending end_at leads
  no_end a s = refl

  trailing_mark : (s : List ℕ) → aside ending (60 ∷ 33 ∷ s) ≡ leads (mark (ascii "--") s) (λ _ r. meets remarks (aside ending) r)
  unfolding meets mark leads
  trailing_mark [] = mark_end ending ∙ no_end 60 (33 ∷ [])
  trailing_mark (a ∷ s) = go (eqb a 45) refl
    where
      go : (t : Bool) → eqb a 45 ≡ t
          → aside ending (60 ∷ 33 ∷ a ∷ s) ≡ leads (mark (ascii "--") (a ∷ s)) (λ _ r. meets remarks (aside ending) r)
      go true e = let z = eqb-true a 45 e in rw z (asides_comment ending s ∙ sym (leads_mark 45 (ascii "-") s _))
      go false e = asides_mark ending a s e ∙ no_end 60 (33 ∷ a ∷ s) ∙ sym (leads_fail _ _ (mark_other 45 a (ascii "-") s e))

  trailing_angle : (s : List ℕ) → aside ending (60 ∷ s) ≡ meets (fixed (ascii "!--")) (meets remarks (aside ending)) s
  unfolding meets mark leads
  trailing_angle [] = angle_end ending ∙ no_end 60 []
  trailing_angle (a ∷ s) = go (eqb a 33) refl
    where
      go : (t : Bool) → eqb a 33 ≡ t
          → aside ending (60 ∷ a ∷ s) ≡ leads (mark (ascii "!--") (a ∷ s)) (λ _ r. meets remarks (aside ending) r)
      go true e = let z = eqb-true a 33 e in rw z (trailing_mark s ∙ sym (leads_mark 33 (ascii "--") s _))
      go false e = asides_angle ending a s e ∙ no_end 60 (a ∷ s) ∙ sym (leads_fail _ _ (mark_other 33 a (ascii "--") s e))

  pub trailing_law : (a : ℕ) (s : List ℕ) → meets trailing k (a ∷ s) ≡ changed (change_trailing a) k a s
  unfolding change_trailing changed meets_all meets ending
  trailing_law a s =
      by_test (blank a) _ _ k a s (λ e. asides_blank ending a s e) λ e₁.
      by_test (eqb a 60) _ _ k a s (λ e. let z = eqb-true a 60 e in rw z (trailing_angle s)) λ e₂.
      asides_other ending a s e₁ e₂ ∙ no_end a s

-- BEFORE THE ROOT
module _ (k : Passing) where
  no_root : (a : ℕ) (s : List ℕ) → eqb a 60 ≡ false → root k (a ∷ s) ≡ false
  unfolding root element_at leads bind
  no_root a s e = rw (mark_other 60 a [] s e)

  root_mark : (s : List ℕ) → root k (60 ∷ 33 ∷ s) ≡ false
  unfolding root element_at name_at name_start letter mark byte test bind leads
  root_mark s = refl

  -- no DOCTYPE stands there
  pub untyped : (t : Bool) (s : List ℕ) → begins (ascii "<!D") s ≡ false → typing t k s ≡ root k s
  unfolding typing typed_at doctype_if leads
  untyped true s e = rw e
  untyped false s e = refl

  only_root : (s : List ℕ) → typing false k s ≡ root k s
  unfolding typing
  only_root s = refl

  no_typing : (t : Bool) (a : ℕ) (s : List ℕ) → eqb a 60 ≡ false → typing t k (a ∷ s) ≡ false
  unfolding begins
  no_typing t a s e = untyped t (a ∷ s) (rw e) ∙ no_root a s e

  pub prologue_law : (t : Bool) (a : ℕ) (s : List ℕ) → rooted t k (a ∷ s) ≡ changed (change_prologue t a) k a s
  unfolding change_prologue changed meets_all meets rooted
  prologue_law t a s =
      by_test (blank a) _ _ k a s (λ e. asides_blank (typing t k) a s e) λ e₁.
      by_test (eqb a 60) _ _ k a s (λ e. let z = eqb-true a 60 e in rw z) λ e₂. asides_other (typing t k) a s e₁ e₂ ∙ no_typing t a s e₂

  rooted_angle : (t : Bool) (a : ℕ) (s : List ℕ) → eqb a 33 ≡ false → rooted t k (60 ∷ a ∷ s) ≡ root k (60 ∷ a ∷ s)
  unfolding rooted begins
  rooted_angle t a s e = asides_angle (typing t k) a s e ∙ untyped t (60 ∷ a ∷ s) (rw e)

  pub prologue_angle_law : (t : Bool) (a : ℕ) (s : List ℕ) → rooted t k (60 ∷ a ∷ s) ≡ changed (change_prologue_angle t a) k a s
  unfolding change_prologue_angle changed meets_all meets root
  prologue_angle_law t a s =
      by_test (eqb a 33) _ _ k a s (λ e. let z = eqb-true a 33 e in rw z) λ e. rooted_angle t a s e ∙ element_law 15 k a s

  -- A DOCTYPE
  doctype_jobs : (f : Passing) (s : List ℕ)
      → leads (doctype_at (60 ∷ 33 ∷ 68 ∷ s)) (λ _ r. f r) ≡ meets (fixed (ascii "OCTYPE")) (meets skipping f) s
  unfolding doctype_at doctype_rest_at until meets
  doctype_jobs f s =
      leads_bind (mark (ascii "<!DOCTYPE") (60 ∷ 33 ∷ 68 ∷ s)) _ _
      ∙ leads_mark 60 (ascii "!DOCTYPE") (33 ∷ 68 ∷ s) _ ∙ leads_mark 33 (ascii "DOCTYPE") (68 ∷ s) _ ∙ leads_mark 68 (ascii "OCTYPE") s _

  typed : (s : List ℕ) → typing true k (60 ∷ 33 ∷ 68 ∷ s) ≡ meets (fixed (ascii "OCTYPE")) (meets skipping (rooted false k)) s
  unfolding typing typed_at begins doctype_if rooted asides_at leads
  typed s =
      leads_bind (doctype_at (60 ∷ 33 ∷ 68 ∷ s)) _ _
      ∙ leads_same (doctype_at (60 ∷ 33 ∷ 68 ∷ s)) _ _ (λ _ r. leads_value (all_of no_aside aside_at r) (λ _. tt) (root k))
      ∙ doctype_jobs (rooted false k) s

  typing_mark : (t : Bool) (a : ℕ) (s : List ℕ)
      → typing t k (60 ∷ 33 ∷ a ∷ s)
      ≡ changed (cond (t && eqb a 68) (turn (fixed (ascii "OCTYPE") ∷ skipping ∷ prologue false ∷ [])) dead) k a s
  unfolding changed meets_all meets begins
  typing_mark true a s =
      by_test (eqb a 68) _ _ k a s (λ e. let z = eqb-true a 68 e in rw z (typed s)) λ e.
      untyped true (60 ∷ 33 ∷ a ∷ s) (rw e) ∙ root_mark (a ∷ s)
  typing_mark false a s = only_root (60 ∷ 33 ∷ a ∷ s) ∙ root_mark (a ∷ s)

  pub prologue_mark_law : (t : Bool) (a : ℕ) (s : List ℕ) → rooted t k (60 ∷ 33 ∷ a ∷ s) ≡ changed (change_prologue_mark t a) k a s
  unfolding change_prologue_mark changed meets_all meets rooted
  prologue_mark_law t a s =
      by_test (eqb a 45) _ _ k a s (λ e. let z = eqb-true a 45 e in rw z (asides_comment (typing t k) s)) λ e.
      asides_mark (typing t k) a s e ∙ typing_mark t a s
