-- Spans, gaps, marks and names, at a position of the text: one law for each way through the code.
use Rattle.std.specs.Prelude.{◌≡◌, refl, ℕ, suc, ◌+◌, ◌-◌, ◌≤◌, ◌<◌, Bool, true, false, not, ◌||◌, ◌&&◌, eqb, leb, drop, Some, None}
use Rattle.std.proofs.Common.{ap, ◌∙◌, arith, rules, length-append, length-drop}
use Rattle.std.proofs.Math.Path.{sym}
use mathlib.Core.List.{List, [], ◌∷◌}
use borrow.Author.Tests.{not-true, not-false, eq-eqb, ne_eqb, le-leb, lt-leb}
use Rattle.std.proofs.Math.ListN.{length, get_or}
use Rattle.lists.proofs.Laws.Booleans.{and_right, refute, clash}
use Rattle.grammar.specs.Bytes.{ascii, blank, name_start, name_byte}
use Rattle.grammar.specs.Read.{Read, fail, got, bind, span, byte, test, mark}
use Rattle.grammar.proofs.Laws.Read.{ok_got, span_sound, byte_complete, byte_other}
use Rattle.grammar.proofs.Laws.Read.{mark_complete, mark_other, test_complete}
use Rattle.grammar.specs.Parser.{gap_at, equals_at, name_at, ends, closing, asking, same_bytes}
use Rattle.steps.specs.Step.{stepped, Went}
use Rattle.steps.proofs.Laws.Step.{at_byte, at_end, arrives, refuses, went}
use Rattle.steps.proofs.Laws.Until.{stepped_value}
use Rattle.steps.proofs.Laws.Leaves.{span_tails}

-- SPANS: the same end from here
pub record Spanning (p : ℕ → Bool) (text : List ℕ) (at i : ℕ) : Type 0 where
  pub same_end : stepped (length text) (span p (drop at text)) ≡ stepped (length text) (span p (drop i text))

pub span_on : (p : ℕ → Bool) (n a : ℕ) (s : List ℕ) → p a ≡ true → stepped n (span p (a ∷ s)) ≡ stepped n (span p s)
unfolding span
span_on p n a s e = rw (e, span) (stepped_value n (span p s) (λ w. a ∷ w))

span_off : (p : ℕ → Bool) (a : ℕ) (s : List ℕ) → p a ≡ false → span p (a ∷ s) ≡ got [] (a ∷ s)
unfolding span
span_off p a s e = rw (e, span)

span_nil : (p : ℕ → Bool) → span p [] ≡ got [] []
unfolding span
span_nil p = refl

pub span_start : (p : ℕ → Bool) (text : List ℕ) (at : ℕ) → Spanning p text at at
span_start p text at = record { same_end = refl }

module _ (p : ℕ → Bool) (text : List ℕ) (at i : ℕ) (go : Spanning p text at i) where
  pub span_all : length text ≤ i → Some (length text) ≡ stepped (length text) (span p (drop at text))
  span_all h =
      let none : drop (length text) text ≡ [] = at_end text (length text) (omega arith) in
      let q : span p (drop i text) ≡ got [] (drop (length text) text) = rw (at_end text i h, none) (span_nil p) in
      arrives text (span p (drop i text)) (length text) (omega arith) q ∙ sym go.same_end

  pub span_rest : {to : ℕ} → Some to ≡ stepped (length text) (span p (drop i text)) → Some to ≡ stepped (length text) (span p (drop at text))
  span_rest e = e ∙ sym go.same_end

  module _ (h : i < length text) {t : Bool} (is : t ≡ p (get_or text i 0)) where
    pub span_more : not t ≡ false → Spanning p text at (i + 1)
    span_more e = record {
      same_end = go.same_end
          ∙ rw (at_byte text i h) (span_on p (length text) (get_or text i 0) (drop (i + 1) text) (sym is ∙ not-false t e));
    }

    pub span_stops : not t ≡ true → Some i ≡ stepped (length text) (span p (drop at text))
    span_stops e =
        let q : span p (drop i text) ≡ got [] (drop i text) =
        rw (at_byte text i h) (span_off p (get_or text i 0) (drop (i + 1) text) (sym is ∙ not-true t e)) in
        arrives text (span p (drop i text)) i (omega arith) q ∙ sym go.same_end

pub ruleset spanning = (span_start, span_all, span_more, span_stops, rules)

-- the span that a call has found
pub spanned : (p : ℕ → Bool) (text : List ℕ) (at to : ℕ) → Some to ≡ stepped (length text) (span p (drop at text)) → Went (span p) text at to
spanned p text at to e = went (span p) text at to (span_tails p (drop at text)) e

-- GAPS
pub gap_none : (text : List ℕ) (at : ℕ) → length text ≤ at → None ≡ stepped (length text) (gap_at (drop at text))
unfolding gap_at byte bind
gap_none text at h = refuses (length text) (gap_at (drop at text)) (rw (at_end text at h))

module _ (text : List ℕ) (at : ℕ) (h : at < length text) {t : Bool} (is : t ≡ blank (get_or text at 0)) where
  pub gap_other : not t ≡ true → None ≡ stepped (length text) (gap_at (drop at text))
  unfolding gap_at bind
  gap_other e = refuses (length text) (gap_at (drop at text))
      (rw (at_byte text at h, byte_other blank (get_or text at 0) (sym is ∙ not-true t e) (drop (at + 1) text)))

  pub gap_some : not t ≡ false → {to : ℕ} → Some to ≡ stepped (length text) (span blank (drop (at + 1) text))
      → Some to ≡ stepped (length text) (gap_at (drop at text))
  unfolding gap_at bind
  gap_some e {to} q =
      let w = spanned blank text (at + 1) to q in
      arrives text (gap_at (drop at text)) {a = get_or text at 0 ∷ w.value} to w.inside
      (rw (at_byte text at h, byte_complete blank (get_or text at 0) (sym is ∙ not-false t e) (drop (at + 1) text), w.reads))

-- EQUALS
module _ (text : List ℕ) (at i : ℕ) (q : Some i ≡ stepped (length text) (span blank (drop at text))) where
  equals_from : equals_at (drop at text) ≡ bind (mark (ascii "=") (drop i text)) (λ _ r. bind (span blank r) (λ _ r₁. got tt r₁))
  unfolding equals_at bind
  equals_from = rw (spanned blank text at i q).reads

  pub equals_none : length text ≤ i → None ≡ stepped (length text) (equals_at (drop at text))
  unfolding mark bind
  equals_none h = refuses (length text) (equals_at (drop at text)) (equals_from ∙ rw (at_end text i h))

  pub equals_other : i < length text → (get_or text i 0 ≡ 61 → ⊥) → None ≡ stepped (length text) (equals_at (drop at text))
  unfolding bind
  equals_other h f = refuses (length text) (equals_at (drop at text))
      (equals_from ∙ rw (at_byte text i h, mark_other 61 (get_or text i 0) [] (drop (i + 1) text) (ne_eqb (get_or text i 0) 61 f)))

  pub equals_some : i < length text → get_or text i 0 ≡ 61 → {to : ℕ} → Some to ≡ stepped (length text) (span blank (drop (i + 1) text))
      → Some to ≡ stepped (length text) (equals_at (drop at text))
  unfolding bind
  equals_some h e {to} k =
      let w = spanned blank text (i + 1) to k in
      arrives text (equals_at (drop at text)) to w.inside
      (equals_from ∙ rw (at_byte text i h, e, mark_complete (ascii "=") (drop (i + 1) text), w.reads))

-- ENDS OF TAGS
left : {A : Type 0} → Read A → List ℕ
left fail = []
left (got a r) = r

first : (ℕ → Bool) → List ℕ → Bool
first p [] = false
first p (a ∷ s) = p a

left_value : (m : Read (List ℕ)) (a : ℕ) → left (bind m (λ w r. got (a ∷ w) r)) ≡ left m
unfolding bind left
left_value fail a = refl
left_value (got w r) a = refl

ends_first : (p : ℕ → Bool) (s : List ℕ) → ends p s ≡ first p (left (span blank s))
unfolding ends span left first
ends_first p [] = refl
ends_first p (a ∷ s) = go (blank a) refl (ends_first p s)
  where
    go : (t : Bool) → blank a ≡ t → ends p s ≡ first p (left (span blank s)) → ends p (a ∷ s) ≡ first p (left (span blank (a ∷ s)))
    go true e ih = rw (e, ends, span, left_value (span blank s) a) ih
    go false e ih = rw (e, ends, span)

module _ (p : ℕ → Bool) (text : List ℕ) (at i : ℕ) (q : Some i ≡ stepped (length text) (span blank (drop at text))) where
  ends_from : ends p (drop at text) ≡ first p (drop i text)
  unfolding left
  ends_from = rw (ends_first p (drop at text), (spanned blank text at i q).reads)

  pub ends_none : length text ≤ i → false ≡ ends p (drop at text)
  unfolding first
  ends_none h = sym (ends_from ∙ rw (at_end text i h))

  pub ends_some : i < length text → p (get_or text i 0) ≡ ends p (drop at text)
  unfolding first
  ends_some h = sym (ends_from ∙ rw (at_byte text i h))

module _ (text : List ℕ) (at i : ℕ) (q : Some i ≡ stepped (length text) (span blank (drop at text))) (h : i < length text) where
  pub closing_some : (eqb (get_or text i 0) 62 || eqb (get_or text i 0) 47) ≡ ends closing (drop at text)
  unfolding closing
  closing_some = ends_some closing text at i q h

  pub asking_some : eqb (get_or text i 0) 63 ≡ ends asking (drop at text)
  unfolding asking
  asking_some = ends_some asking text at i q h

-- MARKS
pub record Marking (text : List ℕ) (at : ℕ) (word : List ℕ) (i k : ℕ) : Type 0 where
  pub same_end : stepped (length text) (mark word (drop at text)) ≡ stepped (length text) (mark (drop k word) (drop i text))

mark_same : (a b : ℕ) (k s : List ℕ) → b ≡ a → mark (a ∷ k) (b ∷ s) ≡ mark k s
unfolding mark bind
mark_same a b k s e = rw (test_complete (eq-eqb b a e) s)

mark_nil : (s : List ℕ) → mark [] s ≡ got tt s
unfolding mark
mark_nil s = refl

pub mark_start : (text : List ℕ) (at : ℕ) (word : List ℕ) → Marking text at word at 0
mark_start text at word = record { same_end = refl }

module _ (text : List ℕ) (at : ℕ) (word : List ℕ) (i k : ℕ) (go : Marking text at word i k) where
  module _ (h : length word ≤ k) where
    pub mark_far : length text < i → Some (length text) ≡ stepped (length text) (mark word (drop at text))
    mark_far l =
        let l₁ : length text ≤ i = omega arith in
        let none : length text ≤ length text = omega arith in
        let q : mark (drop k word) (drop i text) ≡ got tt (drop (length text) text) =
        rw (at_end word k h, mark_nil (drop i text), at_end text i l₁, at_end text (length text) none) in
        arrives text (mark (drop k word) (drop i text)) (length text) (omega arith) q ∙ sym go.same_end

    pub mark_all : i ≤ length text → Some i ≡ stepped (length text) (mark word (drop at text))
    mark_all l = arrives text (mark (drop k word) (drop i text)) i l (rw (at_end word k h) (mark_nil (drop i text))) ∙ sym go.same_end

  module _ (h : k < length word) where
    pub mark_short : length text ≤ i → None ≡ stepped (length text) (mark word (drop at text))
    unfolding mark
    mark_short l = refuses (length text) (mark (drop k word) (drop i text)) (rw (at_byte word k h, at_end text i l)) ∙ sym go.same_end

    pub mark_unlike : i < length text → (get_or text i 0 ≡ get_or word k 0 → ⊥) → None ≡ stepped (length text) (mark word (drop at text))
    mark_unlike l f =
        refuses (length text) (mark (drop k word) (drop i text))
        (rw (at_byte word k h, at_byte text i l)
        (mark_other (get_or word k 0) (get_or text i 0) (drop (k + 1) word) (drop (i + 1) text)
        (ne_eqb (get_or text i 0) (get_or word k 0) f))) ∙ sym go.same_end

    pub mark_more : i < length text → get_or text i 0 ≡ get_or word k 0 → Marking text at word (i + 1) (k + 1)
    mark_more l e = record {
      same_end = go.same_end
          ∙ rw (at_byte word k h, at_byte text i l, mark_same (get_or word k 0) (get_or text i 0) (drop (k + 1) word) (drop (i + 1) text) e);
    }

-- NAMES
pub name_none : (text : List ℕ) (at : ℕ) → length text ≤ at → None ≡ stepped (length text) (name_at (drop at text))
unfolding name_at byte bind
name_none text at h = refuses (length text) (name_at (drop at text)) (rw (at_end text at h))

module _ (text : List ℕ) (at : ℕ) (h : at < length text) {t : Bool} (is : t ≡ name_start (get_or text at 0)) where
  pub name_other : not t ≡ true → None ≡ stepped (length text) (name_at (drop at text))
  unfolding name_at bind
  name_other e = refuses (length text) (name_at (drop at text))
      (rw (at_byte text at h, byte_other name_start (get_or text at 0) (sym is ∙ not-true t e) (drop (at + 1) text)))

  module _ (e : not t ≡ false) {i : ℕ} (q : Some i ≡ stepped (length text) (span name_byte (drop (at + 1) text))) where
    pub name_ahead : at ≤ i
    name_ahead = let w = spanned name_byte text (at + 1) i q in let l : at + 1 ≤ length text = omega arith in omega (arith, w.ahead l)

    bytes : Went (span name_byte) text (at + 1) i
    bytes = spanned name_byte text (at + 1) i q

    size : length (get_or text at 0 ∷ bytes.value) ≡ i - at
    size =
        let k = ok_got (rw bytes.reads at (span_sound name_byte (drop (at + 1) text))) in
        let l : at + 1 ≤ length text = omega arith in
        omega (
          arith,
          bytes.ahead l,
          bytes.inside,
          ap length k.0,
          length-append bytes.value (drop i text),
          length-drop i text,
          length-drop (at + 1) text,
        )

    name_from : name_at (drop at text) ≡ bind (test (leb (i - at) 64) (drop i text)) (λ _ r. got (get_or text at 0 ∷ bytes.value) r)
    unfolding name_at bind
    name_from = rw (
      at_byte text at h,
      byte_complete name_start (get_or text at 0) (sym is ∙ not-false t e) (drop (at + 1) text),
      bytes.reads,
      size,
    )

    pub name_long : 64 < i - at → None ≡ stepped (length text) (name_at (drop at text))
    unfolding bind test
    name_long l = refuses (length text) (name_at (drop at text)) (name_from ∙ rw (lt-leb (i - at) 64 l))

    pub name_some : i - at ≤ 64 → Some i ≡ stepped (length text) (name_at (drop at text))
    unfolding bind
    name_some l = arrives text (name_at (drop at text)) {a = get_or text at 0 ∷ bytes.value} i bytes.inside
        (name_from ∙ rw (test_complete (le-leb (i - at) 64 l) (drop i text)))

-- TWO WORDS
pub record Matching (s t : List ℕ) (i : ℕ) : Type 0 where
  pub even : length s ≡ length t
  pub same_yet : same_bytes s t ≡ same_bytes (drop i s) (drop i t)

same_long : (s t : List ℕ) → same_bytes s t ≡ true → length s ≡ length t
unfolding same_bytes
same_long [] [] e = refl
same_long [] (b ∷ t) e = clash (cc)
same_long (a ∷ s) [] e = clash (cc)
same_long (a ∷ s) (b ∷ t) e = ap suc (same_long s t (and_right (eqb a b) (same_bytes s t) e))

pub equal_long : (s t : List ℕ) → (length s ≡ length t → ⊥) → false ≡ same_bytes s t
equal_long s t f = sym (refute (same_bytes s t) λ e. f (same_long s t e))

pub equal_start : (s t : List ℕ) → length s ≡ length t → Matching s t 0
equal_start s t e = record { even = e; same_yet = refl }

module _ (s t : List ℕ) (i : ℕ) (go : Matching s t i) where
  pub equal_all : length s ≤ i → true ≡ same_bytes s t
  unfolding same_bytes
  equal_all h = let k : length t ≤ i = omega (arith, go.even) in sym (go.same_yet ∙ rw (at_end s i h, at_end t i k))

  module _ (h : i < length s) where
    both_there : same_bytes (drop i s) (drop i t) ≡ (eqb (get_or s i 0) (get_or t i 0) && same_bytes (drop (i + 1) s) (drop (i + 1) t))
    unfolding same_bytes
    both_there = let k : i < length t = omega (arith, go.even) in rw (at_byte s i h, at_byte t i k)

    pub equal_other : (get_or s i 0 ≡ get_or t i 0 → ⊥) → false ≡ same_bytes s t
    equal_other f = sym (go.same_yet ∙ both_there ∙ rw (ne_eqb (get_or s i 0) (get_or t i 0) f))

    pub equal_more : get_or s i 0 ≡ get_or t i 0 → Matching s t (i + 1)
    equal_more e = record { even = go.even; same_yet = go.same_yet ∙ both_there ∙ rw (eq-eqb (get_or s i 0) (get_or t i 0) e) }
