-- Marks, classes of bytes and blanks are read alike.
use Rattle.std.specs.Prelude.{◌≡◌, refl, List, [], ◌∷◌, Bool, true, false, ◌&&◌, not, ℕ, ◌<◌, eqb, leb, length}
use Rattle.std.proofs.Common.{arith, ne_eqb}
use Rattle.std.proofs.lemmas.Bool.{not-true}
use Rattle.lists.specs.Lists.{all}
use Rattle.lists.proofs.Laws.Booleans.{and_left, and_right}
use Rattle.grammar.specs.Bytes.{ascii, blank, name_start, name_byte, letter, quote, begins, Each, no_byte, a_byte}
use Rattle.grammar.specs.Grammar
use Rattle.grammar.specs.Grammar.{Name}
use Rattle.grammar.specs.Read.{fail, got, bind, mark, byte, span}
use Rattle.grammar.proofs.Laws.Read.{mark_other, byte_other, byte_complete}
use Rattle.grammar.specs.Parser.{name_at, gap_at, equals_at, ends, look, look_if, look₂, look₃, look_third, look_by}
use Rattle.grammar.proofs.Laws.Facts.{quote_in, name_start_in, name_byte_in}
use Rattle.steps.proofs.Laws.Feeds.{fed}
use Rattle.steps.specs.LineEnds.{line_ends}
use Rattle.steps.proofs.Laws.LineEnds.{none_ends, pair_ends, lone_ends, other_ends, return_ends, View, at_end, at_return, at_other}
use Rattle.steps.proofs.Laws.LineEnds.{view}
use Rattle.steps.proofs.Laws.Alike.{Alike, both_fail, Same, Any, Ended, ended, reads}
use Rattle.steps.proofs.Laws.Alike.{reads_any, same_reads, any_reads, then_any, then_same, left_more, test_alike}

-- neither a line feed nor a carriage return
unfoldable pub sign : ℕ → Bool
sign a = not (eqb 10 a) && not (eqb 13 a)

no_feed : (a : ℕ) → sign a ≡ true → eqb 10 a ≡ false
unfolding sign
no_feed a e = not-true (eqb 10 a) (and_left (not (eqb 10 a)) _ e)

no_return : (a : ℕ) → sign a ≡ true → eqb 13 a ≡ false
unfolding sign
no_return a e = not-true (eqb 13 a) (and_right (not (eqb 10 a)) _ e)

pub high_sign : (a : ℕ) → 13 < a → sign a ≡ true
unfolding sign
high_sign a h = rw (ne_eqb 10 a (λ e. omega arith), ne_eqb 13 a (λ e. omega arith))

pub quote_sign : (q : ℕ) → quote q ≡ true → all sign (q ∷ []) ≡ true
unfolding all
quote_sign q h = let x = (quote_in q h).0 in rw (high_sign q (omega arith))

pub name_sign : {n : List ℕ} → Name n → all sign n ≡ true
unfolding all
name_sign (Grammar.name {a} {w} h k l) = let x = name_start_in a h in rw (high_sign a (omega arith)) (go k)
  where
    go : {w : List ℕ} → Each name_byte w → all sign w ≡ true
    go no_byte = refl
    go (a_byte {a = b} e t) = let y = name_byte_in b e in rw (high_sign b (omega arith)) (go t)

-- marks
mark_by : (a : ℕ) (k : List ℕ) → sign a ≡ true → ((s t : List ℕ) → Ended s t → Alike Same (mark k s) (mark k t)) → {s : List ℕ}
    → View s → Alike Same (mark (a ∷ k) s) (mark (a ∷ k) (line_ends s))
unfolding mark
mark_by a k h ih at_end = rw none_ends both_fail
mark_by a k h ih (at_return s) =
    rw (return_ends s, mark_other a 13 k s (no_return a h), mark_other a 10 k (line_ends (fed s)) (no_feed a h)) both_fail
mark_by a k h ih (at_other b s e) = rw (other_ends b s e) (then_same (test_alike (eqb b a) ended) λ _ r t e. ih r t e)

pub mark_alike : (k : List ℕ) → all sign k ≡ true → {s t : List ℕ} → Ended s t → Alike Same (mark k s) (mark k t)
unfolding all mark
mark_alike [] h e = same_reads e
mark_alike (a ∷ k) h {s} ended = mark_by a k (and_left (sign a) _ h) (λ s t e. mark_alike k (and_right (sign a) _ h) e) (view s)

begins_by : (a : ℕ) (k : List ℕ) → sign a ≡ true → ((s : List ℕ) → begins k (line_ends s) ≡ begins k s) → {s : List ℕ} → View s
    → begins (a ∷ k) (line_ends s) ≡ begins (a ∷ k) s
unfolding begins
begins_by a k h ih at_end = rw none_ends
begins_by a k h ih (at_return s) = rw (return_ends s, no_return a h, no_feed a h)
begins_by a k h ih (at_other b s e) = rw (other_ends b s e, ih s)

pub begins_alike : (k : List ℕ) → all sign k ≡ true → (s : List ℕ) → begins k (line_ends s) ≡ begins k s
unfolding all begins
begins_alike [] h s = refl
begins_alike (a ∷ k) h s = begins_by a k (and_left (sign a) _ h) (λ r. begins_alike k (and_right (sign a) _ h) r) (view s)

-- a byte of a class without them
pub front_alike : (p : ℕ → Bool) (a : ℕ) {s t : List ℕ} → Ended s t → Alike Same (byte p (a ∷ s)) (byte p (a ∷ t))
unfolding byte
front_alike p a e = then_same (test_alike (p a) e) λ _ r t e. same_reads e

byte_by : (p : ℕ → Bool) → p 10 ≡ false → p 13 ≡ false → {s : List ℕ} → View s → Alike Same (byte p s) (byte p (line_ends s))
unfolding byte
byte_by p f g at_end = rw none_ends both_fail
byte_by p f g (at_return s) = rw (return_ends s, byte_other p 13 g s, byte_other p 10 f (line_ends (fed s))) both_fail
byte_by p f g (at_other a s e) = rw (other_ends a s e) (front_alike p a ended)

pub byte_alike : (p : ℕ → Bool) → p 10 ≡ false → p 13 ≡ false → {s t : List ℕ} → Ended s t → Alike Same (byte p s) (byte p t)
byte_alike p f g {s} ended = byte_by p f g (view s)

span_go : (p : ℕ → Bool) (a : ℕ) (s : List ℕ) → p a ≡ true → span p (a ∷ s) ≡ bind (span p s) (λ w r. got (a ∷ w) r)
unfolding span
span_go p a s e = rw (e, span)

span_stop : (p : ℕ → Bool) (a : ℕ) (s : List ℕ) → p a ≡ false → span p (a ∷ s) ≡ got [] (a ∷ s)
unfolding span
span_stop p a s e = rw (e, span)

span_by : (p : ℕ → Bool) → p 10 ≡ false → p 13 ≡ false → (a : ℕ) (s : List ℕ) → Alike Same (span p s) (span p (line_ends s))
    → View (a ∷ s) → Alike Same (span p (a ∷ s)) (span p (line_ends (a ∷ s)))
span_by p f g _ s ih (at_return _) =
    rw (span_stop p 13 s g, return_ends s, span_stop p 10 (line_ends (fed s)) f) (reads (return_ends s))
span_by p f g a s ih (at_other _ _ e) = rw (other_ends a s e) (by (p a) refl)
  where
    by : (t : Bool) → p a ≡ t → Alike Same (span p (a ∷ s)) (span p (a ∷ line_ends s))
    by true h = rw (span_go p a s h, span_go p a (line_ends s) h) (then_same ih λ w r t e. same_reads e)
    by false h = rw (span_stop p a s h, span_stop p a (line_ends s) h) (reads (other_ends a s e))

pub span_alike : (p : ℕ → Bool) → p 10 ≡ false → p 13 ≡ false → (s : List ℕ) → {t : List ℕ} → Ended s t → Alike Same (span p s) (span p t)
unfolding span
span_alike p f g [] ended = rw none_ends (reads none_ends)
span_alike p f g (a ∷ s) ended = span_by p f g a s (span_alike p f g s ended) (view (a ∷ s))

pub name_alike : {s t : List ℕ} → Ended s t → Alike Same (name_at s) (name_at t)
unfolding name_at name_start name_byte letter
name_alike e =
    then_same (byte_alike name_start refl refl e) λ a r₁ t₁ e₁.
    then_same (span_alike name_byte refl refl r₁ e₁) λ w r₂ t₂ e₂.
    then_same (test_alike (leb (length (a ∷ w)) 64) e₂) λ _ r₃ t₃ e₃. same_reads e₃

-- blanks: a return and its line feed are two, or one
blanks_pair : (s : List ℕ) → begins (ascii "\n") s ≡ true → Alike Any (span blank s) (span blank (line_ends s))
    → Alike Any (span blank (13 ∷ s)) (span blank (line_ends (13 ∷ s)))
unfolding blank
blanks_pair s e h = rw (pair_ends s e, span_go blank 13 s refl) (left_more (λ w. 13 ∷ w) h)

blanks_by : (a : ℕ) (s : List ℕ) → Alike Any (span blank s) (span blank (line_ends s)) → View (a ∷ s)
    → Alike Any (span blank (a ∷ s)) (span blank (line_ends (a ∷ s)))
unfolding blank
blanks_by _ s ih (at_return _) = by (begins (ascii "\n") s) refl
  where
    by : (t : Bool) → begins (ascii "\n") s ≡ t → Alike Any (span blank (13 ∷ s)) (span blank (line_ends (13 ∷ s)))
    by true e = blanks_pair s e ih
    by false e = rw (lone_ends s e, span_go blank 13 s refl, span_go blank 10 (line_ends s) refl) (then_any ih λ w v r t e. any_reads e)
blanks_by a s ih (at_other _ _ e) = rw (other_ends a s e) (by (blank a) refl)
  where
    by : (t : Bool) → blank a ≡ t → Alike Any (span blank (a ∷ s)) (span blank (a ∷ line_ends s))
    by true h = rw (span_go blank a s h, span_go blank a (line_ends s) h) (then_any ih λ w v r t e. any_reads e)
    by false h = rw (span_stop blank a s h, span_stop blank a (line_ends s) h) (reads_any (other_ends a s e))

blanks_there : (s : List ℕ) → Alike Any (span blank s) (span blank (line_ends s))
unfolding span
blanks_there [] = rw none_ends (reads_any none_ends)
blanks_there (a ∷ s) = blanks_by a s (blanks_there s) (view (a ∷ s))

pub blanks_alike : {s t : List ℕ} → Ended s t → Alike Any (span blank s) (span blank t)
blanks_alike {s} ended = blanks_there s

-- a gap is blanks, where one stands
gap_some : (a : ℕ) (s : List ℕ) → blank a ≡ true → gap_at (a ∷ s) ≡ span blank (a ∷ s)
unfolding gap_at bind
gap_some a s e = rw (byte_complete blank a e s, span_go blank a s e)

gap_none : (a : ℕ) (s : List ℕ) → blank a ≡ false → gap_at (a ∷ s) ≡ fail
unfolding gap_at bind
gap_none a s e = rw (byte_other blank a e s)

gap_by : {s : List ℕ} → View s → Alike Any (gap_at s) (gap_at (line_ends s))
unfolding gap_at byte bind blank
gap_by at_end = rw none_ends both_fail
gap_by (at_return s) =
    rw (gap_some 13 s refl, return_ends s, gap_some 10 (line_ends (fed s)) refl) (rw (return_ends s) at (blanks_there (13 ∷ s)))
gap_by (at_other a s e) = rw (other_ends a s e) (by (blank a) refl)
  where
    by : (t : Bool) → blank a ≡ t → Alike Any (gap_at (a ∷ s)) (gap_at (a ∷ line_ends s))
    by true h = rw (gap_some a s h, gap_some a (line_ends s) h) (rw (other_ends a s e) at (blanks_there (a ∷ s)))
    by false h = rw (gap_none a s h, gap_none a (line_ends s) h) both_fail

pub gap_alike : {s t : List ℕ} → Ended s t → Alike Any (gap_at s) (gap_at t)
gap_alike {s} ended = gap_by (view s)

pub equals_alike : {s t : List ℕ} → Ended s t → Alike Same (equals_at s) (equals_at t)
unfolding equals_at sign all
equals_alike e =
    then_any (blanks_alike e) λ u v r₁ t₁ e₁.
    then_same (mark_alike (ascii "=") refl e₁) λ _ r₂ t₂ e₂.
    then_any (blanks_alike e₂) λ u v r₃ t₃ e₃. same_reads e₃

-- what stands behind blanks
ends_over : (p : ℕ → Bool) (a : ℕ) (s : List ℕ) → blank a ≡ true → ends p (a ∷ s) ≡ ends p s
unfolding ends
ends_over p a s e = rw (e, ends)

ends_here : (p : ℕ → Bool) (a : ℕ) (s : List ℕ) → blank a ≡ false → ends p (a ∷ s) ≡ p a
unfolding ends
ends_here p a s e = rw (e, ends)

ends_by : (p : ℕ → Bool) (a : ℕ) (s : List ℕ) → ends p (line_ends s) ≡ ends p s → View (a ∷ s) → ends p (line_ends (a ∷ s)) ≡ ends p (a ∷ s)
unfolding blank
ends_by p _ s ih (at_return _) = by (begins (ascii "\n") s) refl
  where
    by : (t : Bool) → begins (ascii "\n") s ≡ t → ends p (line_ends (13 ∷ s)) ≡ ends p (13 ∷ s)
    by true e = rw (pair_ends s e, ends_over p 13 s refl) ih
    by false e = rw (lone_ends s e, ends_over p 13 s refl, ends_over p 10 (line_ends s) refl) ih
ends_by p a s ih (at_other _ _ e) = rw (other_ends a s e) (by (blank a) refl)
  where
    by : (t : Bool) → blank a ≡ t → ends p (a ∷ line_ends s) ≡ ends p (a ∷ s)
    by true h = rw (ends_over p a s h, ends_over p a (line_ends s) h) ih
    by false h = rw (ends_here p a s h, ends_here p a (line_ends s) h)

pub ends_alike : (p : ℕ → Bool) (s : List ℕ) → ends p (line_ends s) ≡ ends p s
unfolding ends
ends_alike p [] = rw none_ends
ends_alike p (a ∷ s) = ends_by p a s (ends_alike p s) (view (a ∷ s))

-- what stands at the front of contents
third_by : {s : List ℕ} → View s → look₃ (line_ends s) ≡ look₃ s
unfolding look₃ look_third
third_by at_end = rw none_ends
third_by (at_return s) = rw (return_ends s)
third_by (at_other a s e) = rw (other_ends a s e)

second_by : {s : List ℕ} → View s → look₂ (line_ends s) ≡ look₂ s
unfolding look₂ look_by
second_by at_end = rw none_ends
second_by (at_return s) = rw (return_ends s)
second_by (at_other a s e) = rw (other_ends a s e, third_by (view s))

look_by_view : {s : List ℕ} → View s → look (line_ends s) ≡ look s
unfolding look look_if
look_by_view at_end = rw none_ends
look_by_view (at_return s) = rw (return_ends s)
look_by_view (at_other a s e) = rw (other_ends a s e, second_by (view s))

pub look_alike : (s : List ℕ) → look (line_ends s) ≡ look s
look_alike s = look_by_view (view s)
