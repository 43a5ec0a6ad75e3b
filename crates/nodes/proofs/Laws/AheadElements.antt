-- THE LAW OF WHAT STANDS AHEAD: it is the next child, or the element ends there; and where no words may stand, the gap up to it is blank.
use Rattle.std.specs.Prelude.{◌≡◌, Bool, ◌&&◌, ◌||◌, eqb, drop, Option, Some, None, ℕ}
use Rattle.std.proofs.Math.Path.{refl, ap}
use Rattle.std.proofs.Common.{sym, ◌∙◌, subst, arith, ne_eqb, eqb-true}
use mathlib.Core.List.{List, [], ◌∷◌, ◌++◌, append-nil}
use Prim.Native.Nat.{ℕ, zero, suc, ◌-◌, ◌≤◌, ◌<◌}
use Rattle.std.proofs.Math.Bool.{true, false}
use Rattle.std.proofs.Math.ListN.{length}
use Rattle.lists.proofs.Laws.Booleans.{clash, or_left, or_right}
use Rattle.lists.proofs.Laws.Lists.{all_append}
use Rattle.lists.specs.Lists.{all}
use Rattle.grammar.specs.Bytes.{ascii, blank, special, Each}
use Rattle.grammar.proofs.Laws.Facts.{blank_in, no_return}
use Rattle.grammar.proofs.Laws.Tokens.{line_end_other}
use Rattle.grammar.specs.Grammar
use Rattle.grammar.specs.Grammar.{Reference}
use Rattle.grammar.specs.Read.{Read, fail, got, bind, span}
use Rattle.grammar.proofs.Laws.Read.{Ok, good, span_sound, Takes}
use Rattle.grammar.specs.Parser.{Look, at_close, at_comment, at_data, at_element, at_text, look, comment_at, data_at_lem, reference_at}
use Rattle.grammar.proofs.Laws.Sound.{comment_sound, data_sound, reference_sound}
use Rattle.steps.proofs.Laws.Step.{tails}
use Rattle.steps.specs.Leaves.{first_byte}
use Rattle.steps.proofs.Laws.Feeds.{left_by, fed}
use Rattle.nodes.specs.Places.{Stands, the, pick}
use Rattle.nodes.proofs.Laws.Places.{Tail, tail_of, tail_more, tail_read}
use Rattle.nodes.proofs.Laws.Depth.{comment_eats, data_eats}
use Rattle.nodes.specs.Scan.{to_tag, past_tag, tag_at, scan_by, scan}
use Rattle.nodes.proofs.Laws.Scanned.{to_tag_tail, past_tag_less, Less, tag_less, scan_step}
use Rattle.nodes.specs.Scan.{leave_at, passed, skip_at}
use Rattle.nodes.proofs.Laws.Skipping.{tag_here, no_text, no_text_comment, no_text_data, no_text_element, scan_element, skip_element}
use Rattle.nodes.specs.Children.{kid_then, kid_by, kid_at, first_child, first_by}
use Rattle.nodes.proofs.Laws.Children.{kid_step, left}
use Rattle.nodes.specs.ElementEnd.{Behind}
use Rattle.nodes.specs.TextBytes.{outside, Move, referring, past, bare_char, step_by, step, say, says_from}
use Rattle.nodes.proofs.Laws.TextBytes.{says, says_step, plain}
use Rattle.nodes.proofs.Laws.TextBytes.{returned, child_says, marked_says}
use Rattle.nodes.specs.Texts.{inside_by, inside, text_from, text_of_lem}
use Rattle.nodes.proofs.Laws.TextSteps.{says_at_tail}
use Rattle.nodes.specs.Ahead.{after_gap, past_gap, gap_data, ending, ahead_then, ahead_by, ahead_at}
use Rattle.nodes.proofs.Laws.AheadSteps.{gap_short, ahead_step}
use Rattle.nodes.specs.Ahead.{first_ahead}
use Rattle.nodes.specs.Ahead as Ahead-of
use Rattle.nodes.specs.declared.ahead.Ahead.{Ahead}
use Rattle.nodes.specs.declared.ahead.Ahead.TheVariants as ahead-is

-- of contents whose characters are blank or not, which are left so, and have this next child
pub data Facing (text : List ℕ) (words blanks : Bool) (leaves : Read (Unit {0})) : Option ℕ → Ahead → Type 0 where
  to_child : {k : ℕ} → look (drop k text) ≡ at_element → leaves ≡ leave_at (drop k text)
      → (words ≡ false → blanks ≡ all blank (says (drop k text))) → Facing text words blanks leaves (Some k) (ahead-is.Child k)
  to_end : {j : ℕ} → leaves ≡ got tt (drop j text) → 0 < j → j ≤ length text → (words ≡ false → blanks ≡ true)
      → Facing text words blanks leaves None (ahead-is.End j)
  stray : {kid : Option ℕ} → ((r : List ℕ) → leaves ≡ got tt r → (words ≡ false) × (blanks ≡ false))
      → Facing text words blanks leaves kid ahead-is.Stray

-- ---- The gap.

pub blank_special : (a : ℕ) → blank a ≡ true → special a ≡ false
unfolding special
blank_special a h = let x = blank_in a h in rw (ne_eqb a 60 (λ e. omega arith), ne_eqb a 38 (λ e. omega arith))

blank_open : (a : ℕ) (s : List ℕ) → blank a ≡ true → to_tag (a ∷ s) ≡ to_tag s
unfolding to_tag
blank_open a s h = let x = blank_in a h in rw (ne_eqb a 60 (λ e. omega arith))

plain_says : (a : ℕ) (s : List ℕ) → blank a ≡ true → eqb a 13 ≡ false → all blank (says (a ∷ s)) ≡ all blank (says s)
unfolding all
plain_says a s h f = ap (all blank) (plain a s (blank_special a h) f) ∙ rw h

-- a line feed behind a return is a blank too
fed_says : (s : List ℕ) → all blank (says (fed s)) ≡ all blank (says s)
unfolding fed left_by blank
fed_says [] = refl
fed_says (b ∷ s) = go (eqb b 10) refl
  where
    go : (t : Bool) → eqb b 10 ≡ t → all blank (says (left_by t b s)) ≡ all blank (says (b ∷ s))
    go true e = let same = eqb-true b 10 e in rw same (sym (plain_says 10 s refl refl))
    go false e = refl

blank_says : (a : ℕ) (s : List ℕ) → blank a ≡ true → all blank (says (a ∷ s)) ≡ all blank (says s)
unfolding all blank
blank_says a s h = go (eqb a 13) refl
  where
    go : (t : Bool) → eqb a 13 ≡ t → all blank (says (a ∷ s)) ≡ all blank (says s)
    go true e = let same = eqb-true a 13 e in rw (same, returned s) (fed_says s)
    go false e = plain_says a s h e

tag_again : (s : List ℕ) → to_tag (to_tag s) ≡ to_tag s
unfolding to_tag
tag_again [] = refl
tag_again (a ∷ s) = go (eqb a 60) refl (tag_again s)
  where
    go : (t : Bool) → eqb a 60 ≡ t → to_tag (to_tag s) ≡ to_tag s → to_tag (pick t (a ∷ s) (to_tag s)) ≡ pick t (a ∷ s) (to_tag s)
    go true e h = rw e
    go false e h = h

abbrev unblank : List ℕ → List ℕ
unblank s = after_gap (span blank s)

unblank_step : (a : ℕ) (s : List ℕ) → unblank (a ∷ s) ≡ pick (blank a) (unblank s) (a ∷ s)
unfolding after_gap span bind
unblank_step a s = go (blank a) (span blank s)
  where
    go : (t : Bool) (m : Read (List ℕ)) → after_gap
        (elim t as (λ _. Read (List ℕ)) [ true ↦ bind m (λ w r. got (a ∷ w) r) | false ↦ got [] (a ∷ s) ]) ≡ pick t (after_gap m) (a ∷ s)
    go true fail = refl
    go true (got w r) = refl
    go false m = refl

unblank_tag : (s : List ℕ) → to_tag (unblank s) ≡ to_tag s
unfolding after_gap span
unblank_tag [] = refl
unblank_tag (a ∷ s) = ap to_tag (unblank_step a s) ∙ go (blank a) refl (unblank_tag s)
  where
    go : (t : Bool) → blank a ≡ t → to_tag (unblank s) ≡ to_tag s → to_tag (pick t (unblank s) (a ∷ s)) ≡ to_tag (a ∷ s)
    go true e h = h ∙ sym (blank_open a s e)
    go false e h = refl

unblank_says : (s : List ℕ) → all blank (says s) ≡ all blank (says (unblank s))
unfolding after_gap span
unblank_says [] = refl
unblank_says (a ∷ s) = go (blank a) refl (unblank_says s) ∙ ap (λ x. all blank (says x)) (sym (unblank_step a s))
  where
    go : (t : Bool) → blank a ≡ t → all blank (says s) ≡ all blank (says (unblank s))
        → all blank (says (a ∷ s)) ≡ all blank (says (pick t (unblank s) (a ∷ s)))
    go true e h = blank_says a s e ∙ h
    go false e h = refl

pub gap_tag : (words : Bool) (s : List ℕ) → to_tag (past_gap words s) ≡ to_tag s
unfolding past_gap
gap_tag true s = tag_again s
gap_tag false s = unblank_tag s

gap_says : (words : Bool) (s : List ℕ) → words ≡ false → all blank (says s) ≡ all blank (says (past_gap words s))
unfolding past_gap
gap_says true s e = clash (cc)
gap_says false s e = unblank_says s

pub gap_tail : (text : List ℕ) (words : Bool) (s : List ℕ) → Tail text s → Tail text (past_gap words s)
unfolding past_gap after_gap
gap_tail text true s t = let k = to_tag_tail s in tail_more k.0 (to_tag s) k.1 t
gap_tail text false s t = go (span blank s) refl (span_sound blank s)
  where
    go : (m : Read (List ℕ)) → span blank s ≡ m → Ok (λ w r. (s ≡ w ++ r) × Each blank w) m → Tail text (after_gap m)
    go fail e h = tail_more s [] (sym (append-nil s)) t
    go (got w r) e (good h) = tail_more w r h.0 t

-- ---- A character behind blanks is none.

reference_dark : {b w : List ℕ} → Reference b w → blank (first_byte b) ≡ false
unfolding blank first_byte
reference_dark Grammar.amp = refl
reference_dark Grammar.lt = refl
reference_dark Grammar.gt = refl
reference_dark Grammar.quot = refl
reference_dark Grammar.apos = refl

letter_dark : (a : ℕ) (s : List ℕ) → blank a ≡ false → look (a ∷ s) ≡ at_text → all blank (says (a ∷ s)) ≡ false
unfolding step step_by bare_char referring say all
letter_dark a s h q =
    let z : says (a ∷ s) ≡ say (referring outside (reference_at (a ∷ s)) (Move.char a (outside s))) says_from =
    says_step (a ∷ s) ∙ rw (q, line_end_other (ascii "\n") a (no_return a h) s) in
    ap (all blank) z ∙ go (reference_at (a ∷ s)) (reference_sound (a ∷ s))
  where
    go : (m : Read (List ℕ)) → Ok (Takes Reference (a ∷ s)) m
        → all blank (say (referring outside m (Move.char a (outside s))) says_from) ≡ false
    go fail k = rw h
    go (got b r) (good k) = rw (reference_dark k.2)

gap_dark : (s : List ℕ) → look (unblank s) ≡ at_text → all blank (says (unblank s)) ≡ false
unfolding span after_gap look
gap_dark [] q = clash (cc)
gap_dark (a ∷ s) q = ap (λ x. all blank (says x)) (unblank_step a s)
    ∙ go (blank a) refl (λ k. gap_dark s k) (ap look (sym (unblank_step a s)) ∙ q)
  where
    go : (t : Bool) → blank a ≡ t → (look (unblank s) ≡ at_text → all blank (says (unblank s)) ≡ false)
        → look (pick t (unblank s) (a ∷ s)) ≡ at_text → all blank (says (pick t (unblank s) (a ∷ s))) ≡ false
    go true e ih k = ih k
    go false e ih k = letter_dark a s e k

-- ---- From a tail of the text on.

kid_same : (n : ℕ) (s t : List ℕ) → to_tag s ≡ to_tag t → kid_at n s ≡ kid_at n t
kid_same n s t e = kid_step n s ∙ rw e (sym (kid_step n t))

leave_same : (s t : List ℕ) → to_tag s ≡ to_tag t → leave_at s ≡ leave_at t
unfolding leave_at
leave_same s t e = ap (λ m. bind m (λ _ r. past_tag r)) (scan_step 0 s ∙ rw e (sym (scan_step 0 t)))

kid_look : (n : ℕ) (s : List ℕ) (l : Look) → look s ≡ l → (l ≡ at_text → ⊥) → kid_at n s ≡ kid_by l (kid_at n) n s
kid_look n s l e f = let z = tag_here s l e f in kid_step n s ∙ rw (z, e)

leave_look : (s : List ℕ) (l : Look) → look s ≡ l → (l ≡ at_text → ⊥) → leave_at s ≡ bind (scan_by l scan 0 s) (λ _ r. past_tag r)
unfolding leave_at
leave_look s l e f = let z = tag_here s l e f in ap (λ m. bind m (λ _ r. past_tag r)) (scan_step 0 s ∙ rw (z, e))

facing_from : {text : List ℕ} {words blanks others : Bool} {leaves : Read (Unit {0})} {kid : Option ℕ} {a : Ahead}
    → (words ≡ false → blanks ≡ others) → Facing text words others leaves kid a → Facing text words blanks leaves kid a
facing_from f (to_child q e b) = to_child q e (λ w. f w ∙ b w)
facing_from f (to_end e p q b) = to_end e p q (λ w. f w ∙ b w)
facing_from f (stray h) = stray (λ r e. let (w, b) = h r e in (w, f w ∙ b))

module _ (text : List ℕ) (words : Bool) where
  abbrev Faces : List ℕ → Ahead → Type 0
  Faces s a = Facing text words (all blank (says s)) (leave_at s) (kid_at (length text) s) a

  at_end : (s : List ℕ) → Tail text s → look s ≡ at_close → Faces s (ending (length text) (past_tag s))
  unfolding kid_by scan_by bind ending step step_by say all
  at_end s t q = rw (kid_look (length text) s at_close q (no_text refl), leave_look s at_close q (no_text refl))
      (go (past_tag s) refl (past_tag_less s))
    where
      empty : all blank (says s) ≡ true
      empty = rw (says_step s, q)

      go : (m : Read (Unit {0})) → past_tag s ≡ m → Ok (Less s) m
          → Facing text words (all blank (says s)) (past_tag s) None (ending (length text) m)
      go fail e h = stray (λ r z. clash (cc))
      go (got _ r) e (good h) =
          let u : Tail text r = tail_more h.front r h.whole t in
          to_end {j = length text - length r} (e ∙ ap (got tt) (sym u.stands)) (omega (arith, h.falls, t.fits)) (omega arith)
          (λ _. empty)

  at_child_lem : (s : List ℕ) → Tail text s → look s ≡ at_element → Faces s (ahead-is.Child (length text - length s))
  unfolding kid_by
  at_child_lem s t q = rw (kid_look (length text) s at_element q (no_text_element refl))
      (to_child (ap look t.stands ∙ q) (ap leave_at (sym t.stands)) (λ _. ap (λ x. all blank (says x)) (sym t.stands)))

  at_remark : (s : List ℕ) → Tail text s → look s ≡ at_comment
      → ((r : List ℕ) → length r < length s → Tail text r → Faces r (ahead_at words (length text) r))
      → Faces s (ahead_then (comment_at s) (ahead_at words (length text)))
  unfolding kid_by scan_by kid_then ahead_then bind leave_at step step_by past say
  at_remark s t q ih = rw (
    kid_look (length text) s at_comment q (no_text_comment refl),
    leave_look s at_comment q (no_text_comment refl),
  ) (go (comment_at s) refl (comment_eats s))
    where
      go : (m : Read (Unit {0})) → comment_at s ≡ m → Ok (λ _ r. length r < length s) m
          → Facing text words (all blank (says s)) (bind (bind m (λ _ r. scan 0 r)) (λ _ r. past_tag r))
          (kid_then m (kid_at (length text))) (ahead_then m (ahead_at words (length text)))
      go fail e h = stray (λ r z. clash (cc))
      go (got _ r) e (good h) = facing_from (λ _. said) (ih r h (tail_read (tails (comment_sound s)) e t))
        where
          said : all blank (says s) ≡ all blank (says r)
          said = ap (all blank) (says_step s ∙ rw (q, e))

  at_marked : (s : List ℕ) → Tail text s → look s ≡ at_data
      → ((r : List ℕ) → length r < length s → Tail text r → Faces r (ahead_at words (length text) r))
      → Faces s (ahead_then (gap_data words (data_at_lem s)) (ahead_at words (length text)))
  unfolding kid_by scan_by kid_then ahead_then bind leave_at gap_data
  at_marked s t q ih = rw (kid_look (length text) s at_data q (no_text_data refl), leave_look s at_data q (no_text_data refl))
      (go (data_at_lem s) refl (data_eats s))
    where
      said : (b r : List ℕ) → data_at_lem s ≡ got b r → all blank (says s) ≡ (all blank b && all blank (says r))
      said b r e = ap (all blank) (marked_says s r b e) ∙ all_append blank b (says r)

      by : (b r : List ℕ) → data_at_lem s ≡ got b r → length r < length s → (u : Bool) → (words || all blank b) ≡ u
          → Facing text words (all blank (says s)) (leave_at r) (kid_at (length text) r)
          (ahead_then (pick u (got tt r) fail) (ahead_at words (length text)))
      by b r e h true k = facing_from (λ w. said b r e ∙ rw (rw w at k)) (ih r h (tail_read (tails (data_sound s)) e t))
      by b r e h false k = stray (λ _ _. (or_left words (all blank b) k, said b r e ∙ rw (or_right words (all blank b) k)))

      go : (m : Read (List ℕ)) → data_at_lem s ≡ m → Ok (λ _ r. length r < length s) m
          → Facing text words (all blank (says s)) (bind (bind m (λ _ r. scan 0 r)) (λ _ r. past_tag r))
          (kid_then m (kid_at (length text))) (ahead_then (gap_data words m) (ahead_at words (length text)))
      go fail e h = stray (λ r z. clash (cc))
      go (got b r) e (good h) = by b r e h (words || all blank b) refl

  at_stray : (s : List ℕ) → look (past_gap words s) ≡ at_text → Faces (past_gap words s) ahead-is.Stray
  unfolding past_gap leave_at scan_by bind
  at_stray s q = stray (λ r e. go words refl q r e)
    where
      go : (w : Bool) → words ≡ w → look (past_gap w s) ≡ at_text → (r : List ℕ) → leave_at (past_gap words s) ≡ got tt r
          → (words ≡ false) × (all blank (says (past_gap words s)) ≡ false)
      go true e k r l = clash (let y : scan 0 (to_tag s) ≡ fail = scan_step 0 (to_tag s) ∙ rw (tag_again s, k) in
          let z : leave_at (past_gap words s) ≡ fail = rw e (ap (λ m. bind m (λ _ r. past_tag r)) y) in cc)
      go false e k r l = (e, rw e (gap_dark s k))

  faces : (m : ℕ) (s : List ℕ) → length s < m → Tail text s → Faces s (ahead_at words (length text) s)
  unfolding ahead_by
  faces zero s h t = absurd (omega arith)
  faces (suc m) s h t =
      rw (ahead_step words (length text) s, kid_same (length text) s g (sym (gap_tag words s)), leave_same s g (sym (gap_tag words s)))
      (facing_from (gap_says words s) (go (look g) refl (λ r l t₁. faces m r (omega (arith, gap_short words s)) t₁)))
    where
      g : List ℕ
      g = past_gap words s

      u : Tail text g
      u = gap_tail text words s t

      go : (l : Look) → look g ≡ l → ((r : List ℕ) → length r < length g → Tail text r → Faces r (ahead_at words (length text) r))
          → Faces g (ahead_by words l (ahead_at words (length text)) (length text) g)
      go at_close q ih = at_end g u q
      go at_comment q ih = at_remark g u q ih
      go at_data q ih = at_marked g u q ih
      go at_element q ih = at_child_lem g u q
      go at_text q ih = at_stray s q

  pub facing : (i : ℕ) → Faces (drop i text) (ahead_at words (length text) (drop i text))
  facing i = faces (suc (length (drop i text))) (drop i text) (omega arith) (tail_of text i)

  -- and from the start of an element's contents
  pub facing_first : (at : ℕ) → Facing text words (all blank (text_of_lem text at)) (skip_at (drop at text)) (first_child text at)
      (first_ahead words text at)
  unfolding first_child first_ahead skip_at text_of_lem inside inside_by text_from passed bind first_by Ahead-of.first_ahead_by all
  facing_first at = go (tag_at (drop at text)) (tag_less (drop at text))
    where
      go : (m : Read Bool) → Ok (Less (drop at text)) m
          → Facing text words (all blank (text_from text (inside_by (length text) m))) (bind m (λ wide r. passed wide r))
          (first_by (length text) m) (Ahead-of.first_ahead_by words (length text) m)
      go fail h = stray (λ r z. clash (cc))
      go (got true r) (good h) =
          let u : Tail text r = tail_more h.front r h.whole (tail_of text at) in
          rw (says_at_tail u) (faces (suc (length r)) r (omega arith) u)
      go (got false r) (good h) =
          let t = tail_of text at in
          let u : Tail text r = tail_more h.front r h.whole t in
          to_end {j = length text - length r} (ap (got tt) (sym u.stands)) (omega (arith, h.falls, t.fits)) (omega arith) (λ _. refl)

-- ---- What is known of each.

pub record Met (text : List ℕ) (words blanks : Bool) (leaves : Read (Unit {0})) (kid : Option ℕ) (k : ℕ) : Type 0 where
  pub is_next : kid ≡ Some k
  pub looks : look (drop k text) ≡ at_element
  pub leaves_so : leaves ≡ leave_at (drop k text)
  pub blanks_so : words ≡ false → blanks ≡ all blank (says (drop k text))

pub record Over (text : List ℕ) (words blanks : Bool) (leaves : Read (Unit {0})) (kid : Option ℕ) (j : ℕ) : Type 0 where
  pub no_next : kid ≡ None
  pub ends : leaves ≡ got tt (drop j text)
  pub after : 0 < j
  pub inside : j ≤ length text
  pub all_blank : words ≡ false → blanks ≡ true

module _ {text : List ℕ} {words blanks : Bool} {leaves : Read (Unit {0})} where
  met_child : {kid : Option ℕ} {k : ℕ} → Facing text words blanks leaves kid (ahead-is.Child k) → Met text words blanks leaves kid k
  met_child (to_child q e b) = record { is_next = refl; looks = q; leaves_so = e; blanks_so = b }

  over_end : {kid : Option ℕ} {j : ℕ} → Facing text words blanks leaves kid (ahead-is.End j) → Over text words blanks leaves kid j
  over_end (to_end e p q b) = record { no_next = refl; ends = e; after = p; inside = q; all_blank = b }

  strayed : {kid : Option ℕ} → Facing text words blanks leaves kid ahead-is.Stray → (r : List ℕ) → leaves ≡ got tt r → (words ≡ false)
      × (blanks ≡ false)
  strayed (stray h) r e = h r e

  module _ {kid : Option ℕ} {a : Ahead} (f : Facing text words blanks leaves kid a) where
    pub facing_child : {k : ℕ} → a ≡ ahead-is.Child k → Met text words blanks leaves kid k
    facing_child e = met_child (subst (λ (x : Ahead). Facing text words blanks leaves kid x) e f)

    pub facing_end : {j : ℕ} → a ≡ ahead-is.End j → Over text words blanks leaves kid j
    facing_end e = over_end (subst (λ (x : Ahead). Facing text words blanks leaves kid x) e f)

    pub facing_stray : a ≡ ahead-is.Stray → (r : List ℕ) → leaves ≡ got tt r → (words ≡ false) × (blanks ≡ false)
    facing_stray e = strayed (subst (λ (x : Ahead). Facing text words blanks leaves kid x) e f)

-- how much is left: a measure
unfoldable pub left_ahead : List ℕ → Ahead → ℕ
left_ahead text (ahead-is.Child k) = length text - k
left_ahead text (ahead-is.End j) = 0
left_ahead text ahead-is.Stray = 0

pub facing_left : {text : List ℕ} {words blanks : Bool} {leaves : Read (Unit {0})} {kid : Option ℕ} {a : Ahead}
    → Facing text words blanks leaves kid a → left_ahead text a ≤ left text kid
unfolding left_ahead left
facing_left (to_child q e b) = omega arith
facing_left (to_end e p q b) = omega arith
facing_left (stray h) = omega arith

-- behind a child its parent goes on
module _ {text : List ℕ} {k j : ℕ} (st : Stands text k) (b : Behind text k j) (q : look (drop k text) ≡ at_element) where
  rest_is : st.rest ≡ drop j text
  rest_is = let e = skip_element (drop k text) (the text k) st.rest st.reads in let d = b.ends in cc

  pub behind_leaves : leave_at (drop k text) ≡ leave_at (drop j text)
  unfolding leave_at
  behind_leaves = ap (λ m. bind m (λ _ r. past_tag r))
      (scan_element 0 (drop k text) (the text k) st.rest q st.reads ∙ ap (scan 0) rest_is)

  pub behind_says : says (drop k text) ≡ says (drop j text)
  behind_says = child_says (drop k text) st.rest (the text k) q st.reads ∙ ap says rest_is
