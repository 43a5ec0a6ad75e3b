-- What is proved of Texts.
use Rattle.std.specs.Prelude.{◌≡◌, ℕ, suc, ◌+◌, ◌-◌, ◌≤◌, ◌<◌, Bool, true, false, leb, length, drop, Some, None}
use Rattle.std.proofs.Math.Path.{refl}
use Rattle.std.proofs.Common.{ap, sym, ◌∙◌, arith, le-leb, length-drop}
use mathlib.Core.List.{List, [], ◌∷◌, ◌++◌}
use Rattle.std.proofs.lemmas.Bool.{lt-leb}
use Rattle.lists.proofs.Laws.Booleans.{clash}
use Rattle.grammar.specs.Document.{Attribute, Element}
use Rattle.grammar.specs.Look.{contents_of, characters, text_of}
use Rattle.grammar.specs.Read.{Read, fail, got, mark}
use Rattle.grammar.proofs.Laws.Read.{Ok, good}
use Rattle.grammar.specs.Bytes.{ascii, begins}
use Rattle.grammar.specs.Parser.{reference_at, line_end_at, comment_at, Look, at_close, at_comment, at_data, at_element, at_text, look}
use Rattle.grammar.proofs.Laws.Sound.{comment_sound}
use Rattle.steps.proofs.Laws.Step.{Tails, tails}
use Rattle.steps.proofs.Laws.Leaves.{reference_tails, line_end_tails, mark_tails}
use Rattle.nodes.specs.Places.{Stands, the}
use Rattle.nodes.proofs.Laws.Places.{Tail, tail_of, tail_more}
use Rattle.nodes.proofs.Laws.ReadSteps.{Ending, bare, filled, spelled}
use Rattle.nodes.specs.Scan.{tag_from, skip_at}
use Rattle.nodes.proofs.Laws.Scanned.{skip_less, less_tails}
use Rattle.nodes.proofs.Laws.Skipping.{tag_read, tag_bare, tag_filled}
use Rattle.nodes.proofs.Laws.Children.{tail_behind}
use Rattle.nodes.specs.TextBytes.{Rest, outside, within, bytes, Move, stop, skip, char, past, referring, bare_char, step_by, step_in}
use Rattle.nodes.specs.TextBytes.{step, say, says_from}
use Rattle.nodes.proofs.Laws.TextBytes.{says, says_from_lem, Shorter, skip_short, char_short, step_short, contents_say}
use Rattle.nodes.specs.declared.Text.{Text}
use Rattle.nodes.specs.declared.Text.TheVariants.{Stop, Skip, Letter}
use Rattle.nodes.specs.Texts.{inside_by, inside, rest_from_by, rest_from, place_of, says_at, left, text_from, text_of_lem, as_text}
use Rattle.nodes.specs.Texts.{text_step}

pub rest_outside : (text : List ℕ) (i : ℕ) → i ≤ length text → rest_from text i ≡ outside (drop i text)
unfolding rest_from rest_from_by
rest_outside text i h = rw (le-leb i (length text) h)

pub rest_within : (text : List ℕ) (i : ℕ) → length text < i → rest_from text i ≡ within (drop (i - suc (length text)) text)
unfolding rest_from rest_from_by
rest_within text i h = rw (lt-leb i (length text) h)

-- up to the end of the text a place is a byte of it
pub says_at_outside : (text : List ℕ) (i : ℕ) → i ≤ length text → says_at text i ≡ says (drop i text)
unfolding says_at
says_at_outside text i h = rw (rest_outside text i h)

pub left_outside : (text : List ℕ) (i : ℕ) → i ≤ length text → left text i ≡ length text - i
unfolding left
left_outside text i h = rw (rest_outside text i h) (length-drop i text)

rest_tail : (text : List ℕ) (i : ℕ) → Tail text (bytes (rest_from text i))
unfolding rest_from rest_from_by
rest_tail text i = go (leb i (length text))
  where
    go : (t : Bool) → Tail text (bytes (rest_from_by t text i))
    go true = tail_of text i
    go false = tail_of text (i - suc (length text))

pub left_most : (text : List ℕ) (i : ℕ) → left text i ≤ length text
unfolding left
left_most text i = (rest_tail text i).fits

-- a rest of the text is what stands at its place
rest_place : (text : List ℕ) (x : Rest) → Tail text (bytes x) → rest_from text (place_of (length text) x) ≡ x
unfolding place_of
rest_place text (outside r) t = rest_outside text (length text - length r) (omega arith) ∙ ap outside t.stands
rest_place text (within r) t =
    let n : ℕ = length text in
    let k : (n + 1 + (n - length r)) - suc n ≡ n - length r = omega arith in
    let h : n < n + 1 + (n - length r) = omega arith in
    rest_within text (n + 1 + (n - length r)) h ∙ ap within (ap (λ i. drop i text) k ∙ t.stands)

place_fits : (n : ℕ) (x : Rest) → place_of n x ≤ n + n + 1
unfolding place_of
place_fits n (outside r) = omega arith
place_fits n (within r) = omega arith

pub says_at_tail : {text r : List ℕ} → Tail text r → says_at text (length text - length r) ≡ says r
says_at_tail {text} {r} t = says_at_outside text (length text - length r) (omega arith) ∙ ap says t.stands

ending_text : (text n : List ℕ) {l : List Attribute} {s : List ℕ} {e : Element} {r : List ℕ} → Tail text s → Ending n l s e r
    → text_from text (inside_by (length text) (tag_from 0 s)) ≡ text_of e
unfolding inside_by text_from text_of contents_of characters
ending_text text n {r = r} tail (bare k q) = rw (k, tag_bare r, q)
ending_text text n tail (filled {t} {behind} {c} k h z q) =
    let u : Tail text t = tail_more (62 ∷ []) t k tail in
    rw (k, tag_filled t, q, says_at_tail u) (contents_say t c behind h)

-- THE LAW OF TEXTS
pub text_law : {text : List ℕ} {at : ℕ} → Stands text at → text_of_lem text at ≡ text_of (the text at)
unfolding inside text_of_lem
text_law {text} {at} st =
    let p = spelled (drop at text) (the text at) st.rest st.reads in
    rw (tag_read p) (ending_text text p.name (tail_behind p (tail_of text at)) p.ending)

-- THE LAW OF TEXT STEPS
data Tailed (text : List ℕ) : Move → Type 0 where
  stop_tailed : Tailed text stop
  skip_tailed : {r : Rest} → Tail text (bytes r) → Tailed text (skip r)
  char_tailed : {b : ℕ} {r : Rest} → Tail text (bytes r) → Tailed text (char b r)

module _ (text : List ℕ) (side : List ℕ → Rest) (same : (r : List ℕ) → bytes (side r) ≡ r) where
  past_tailed : (s : List ℕ) (m : Read (Unit {0})) → Tail text s → Ok (Tails s) m → Tailed text (past side m)
  unfolding past
  past_tailed s fail t h = stop_tailed
  past_tailed s (got u r) t (good h) = skip_tailed {r = side r} (rw (same r) (tail_more h.0 r h.1 t))

  referring_tailed : (s : List ℕ) (m : Read (List ℕ)) (x : Move) → Tail text s → Ok (Tails s) m → Tailed text x
      → Tailed text (referring side m x)
  unfolding referring
  referring_tailed s fail x t h k = k
  referring_tailed s (got b r) x t (good h) k = char_tailed {r = side r} (rw (same r) (tail_more h.0 r h.1 t))

  bare_tailed : (a : ℕ) (s : List ℕ) → Tail text (a ∷ s) → Tailed text (bare_char side a s)
  unfolding bare_char
  bare_tailed a s t = referring_tailed (a ∷ s) (line_end_at (ascii "\n") (a ∷ s)) (char a (side s)) t (line_end_tails (ascii "\n") (a ∷ s))
      (char_tailed {r = side s} (rw (same s) (tail_more (a ∷ []) s refl t)))

by_tailed : (text : List ℕ) (l : Look) (s : List ℕ) → Tail text s → Tailed text (step_by l s)
unfolding step_by
by_tailed text at_close s t = stop_tailed
by_tailed text at_element s t = past_tailed text outside (λ _. refl) s (skip_at s) t (less_tails (skip_less s))
by_tailed text at_comment s t = past_tailed text outside (λ _. refl) s (comment_at s) t (tails (comment_sound s))
by_tailed text at_data s t = past_tailed text within (λ _. refl) s (mark (ascii "<![CDATA[") s) t (mark_tails (ascii "<![CDATA[") s)
by_tailed text at_text [] t = stop_tailed
by_tailed text at_text (a ∷ s) t = referring_tailed text outside (λ _. refl) (a ∷ s) (reference_at (a ∷ s)) _ t (reference_tails (a ∷ s))
    (bare_tailed text outside (λ _. refl) a s t)

in_tailed : (text : List ℕ) (b : Bool) (s : List ℕ) → Tail text s → Tailed text (step_in b s)
unfolding step_in
in_tailed text true s t = past_tailed text outside (λ _. refl) s (mark (ascii "]]>") s) t (mark_tails (ascii "]]>") s)
in_tailed text false [] t = stop_tailed
in_tailed text false (a ∷ s) t = bare_tailed text within (λ _. refl) a s t

step_tailed : (text : List ℕ) (x : Rest) → Tail text (bytes x) → Tailed text (step x)
unfolding step
step_tailed text (outside s) t = by_tailed text (look s) s t
step_tailed text (within s) t = in_tailed text (begins (ascii "]]>") s) s t

-- what a step says: `front` is what is read
pub record Steps (text : List ℕ) (i : ℕ) (front : List ℕ) (j : ℕ) : Type 0 where
  pub inside_text : j ≤ length text + length text + 1
  pub ahead : left text j < left text i
  pub splits : says_at text i ≡ front ++ says_at text j

steps_by : (text : List ℕ) (i : ℕ) (front : List ℕ) (r : Rest) (j : ℕ) → place_of (length text) r ≡ j → Tail text (bytes r)
    → length (bytes r) < left text i → says_at text i ≡ front ++ says_from r → Steps text i front j
unfolding says_at left
steps_by text i front r j p t s e =
    let there : rest_from text j ≡ r = rw p at (rest_place text r t) in
    record { inside_text = rw p at (place_fits (length text) r); ahead = rw there s; splits = rw there e }

module _ (text : List ℕ) (i : ℕ) where
  letter_law : (x : Move) → step (rest_from text i) ≡ x → Tailed text x → Shorter (left text i) x → {b j : ℕ}
      → as_text (length text) x ≡ Letter b j → Steps text i (b ∷ []) j
  unfolding as_text say says_at
  letter_law stop e t s h = clash (cc)
  letter_law (skip r) e t s h = clash (cc)
  letter_law (char c r) e (char_tailed t) (char_short s) {b} {j} h =
      let w : c ≡ b = cc in
      steps_by text i (b ∷ []) r j (cc) t s (rw (says_from_lem (rest_from text i), e, w))

  skip_law : (x : Move) → step (rest_from text i) ≡ x → Tailed text x → Shorter (left text i) x → {j : ℕ}
      → as_text (length text) x ≡ Skip j → Steps text i [] j
  unfolding as_text say says_at
  skip_law stop e t s h = clash (cc)
  skip_law (char c r) e t s h = clash (cc)
  skip_law (skip r) e (skip_tailed t) (skip_short s) {j} h =
      steps_by text i [] r j (cc) t s (rw (says_from_lem (rest_from text i), e))

  stop_law : (x : Move) → step (rest_from text i) ≡ x → as_text (length text) x ≡ Stop → says_at text i ≡ []
  unfolding as_text say says_at
  stop_law stop e h = rw (says_from_lem (rest_from text i), e)
  stop_law (skip r) e h = clash (cc)
  stop_law (char b r) e h = clash (cc)

  tailed : Tailed text (step (rest_from text i))
  tailed = step_tailed text (rest_from text i) (rest_tail text i)

  shorter : Shorter (left text i) (step (rest_from text i))
  unfolding left
  shorter = step_short (rest_from text i)

  module _ {a : Text} (e : a ≡ text_step text i) where
    pub text_letter : {b j : ℕ} → a ≡ Letter b j → Steps text i (b ∷ []) j
    unfolding text_step
    text_letter z = letter_law (step (rest_from text i)) refl tailed shorter (sym e ∙ z)

    pub text_skip : {j : ℕ} → a ≡ Skip j → Steps text i [] j
    unfolding text_step
    text_skip z = skip_law (step (rest_from text i)) refl tailed shorter (sym e ∙ z)

    pub text_stop : a ≡ Stop → says_at text i ≡ []
    unfolding text_step
    text_stop z = stop_law (step (rest_from text i)) refl (sym e ∙ z)

pub from_none : (text : List ℕ) → text_from text None ≡ []
unfolding text_from
from_none text = refl

pub from_at : (text : List ℕ) (i : ℕ) → text_from text (Some i) ≡ says_at text i
unfolding text_from
from_at text i = refl

pub text_none : (text : List ℕ) (at : ℕ) → inside text at ≡ None → text_of_lem text at ≡ []
unfolding text_from text_of_lem
text_none text at e = rw e

pub text_some : (text : List ℕ) (at : ℕ) {i : ℕ} → inside text at ≡ Some i → text_of_lem text at ≡ says_at text i
unfolding text_from text_of_lem
text_some text at e = rw e
