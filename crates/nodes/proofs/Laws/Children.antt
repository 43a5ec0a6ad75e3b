-- The walk over children, at a position of the text: one law for each way through the code.
use Rattle.std.specs.Prelude.{◌≡◌, List, [], ◌∷◌, ◌++◌, Bool, true, false, drop, Option, Some, None, ℕ}
use Rattle.std.proofs.Math.Path.{refl, sym, ap}
use Rattle.std.proofs.Common.{◌∙◌, arith, rules}
use Prim.Native.Nat.{ℕ, zero, suc, ◌-◌, ◌≤◌, ◌<◌}
use Rattle.std.proofs.Math.ListN.{length, length-drop}
use Rattle.grammar.specs.Bytes.{blank}
use Rattle.grammar.specs.Document.{Attribute, Element, Contents, nothing, child, run, merged}
use Rattle.grammar.specs.Look.{contents_of, elements}
use Rattle.grammar.specs.Read.{Read, fail, got}
use Rattle.grammar.proofs.Laws.Read.{Ok, good}
use Rattle.grammar.specs.Parser.{Look, at_close, at_comment, at_data, at_element, at_text, look, comment_at, data_at_lem}
use Rattle.grammar.proofs.Laws.Sound.{comment_sound, data_sound, attributes_sound}
use Rattle.grammar.specs.Unfuelled.{contents}
use Rattle.steps.proofs.Laws.Step.{tails}
use Rattle.steps.proofs.Laws.Leaves.{name_tails, span_tails}
use Rattle.nodes.specs.Places.{element₁₆, the, Stands}
use Rattle.nodes.proofs.Laws.Places.{stands_read, the_read, Tail, tail_of, tail_more, tail_read}
use Rattle.nodes.proofs.Laws.Depth.{comment_eats, data_eats, element_tails}
use Rattle.nodes.proofs.Laws.ReadSteps.{Ending, bare, filled, Spelled, spelled, eats_child, Induction, induction}
use Rattle.nodes.specs.Scan.{to_tag, past_tag, tag_from, tag_at, skip_at}
use Rattle.nodes.proofs.Laws.Scanned.{to_tag_short, tag_less, Less}
use Rattle.nodes.proofs.Laws.ScanEnds.{to_tag_free, text_free}
use Rattle.nodes.proofs.Laws.Skipping.{tag_here, no_text, no_text_comment, no_text_data, no_text_element, tag_read, tag_bare}
use Rattle.nodes.proofs.Laws.Skipping.{tag_filled}
use Rattle.nodes.proofs.Laws.Skipping.{skip_element}
use Rattle.lists.proofs.Laws.Booleans.{clash}
use Rattle.nodes.specs.Children.{kid_then, kid_by, kid_within, kid_at, first_by, first_child, next}
use Rattle.steps.specs.Step.{stepped}
use Rattle.steps.proofs.Laws.Step.{fell, went}
use Rattle.nodes.proofs.Laws.Scanned.{skip_less, less_tails}
use Rattle.nodes.specs.ScanSteps.{tag_told}
use Rattle.steps.specs.Prologue.{preamble_at}
use Rattle.nodes.specs.Root.{root, root_by}
use Rattle.nodes.specs.Ahead.{past_gap, gap_data, ending, tag_passed, ahead_then, ahead_by, ahead_within, ahead_at}
use Rattle.nodes.specs.declared.ahead.Ahead.{Ahead}
use Rattle.nodes.specs.declared.ahead.Ahead.TheVariants.{Child, End, Stray}
use Rattle.nodes.specs.declared.scan.Tag.{Tag}
use Rattle.nodes.specs.declared.scan.Tag.TheVariants as tag_is
use Rattle.nodes.proofs.Laws.Skip.{opens_at, bare_at_lem, no_tag}

-- how much is left of a row: falls from each child to the next
unfoldable pub left : List ℕ → Option ℕ → ℕ
left text None = 0
left text (Some k) = length text - k

-- A ROW: the elements from a cursor on
pub data Siblings (text : List ℕ) : Option ℕ → List Element → Type 0 where
  no_more : Siblings text None []
  one_more : {k : ℕ} {l : List Element} → Stands text k → left text (next text k) < left text (Some k) → Siblings text (next text k) l
      → Siblings text (Some k) (the text k ∷ l)

-- fuel changes nothing
then_same : {A : Type 0} (m : Read A) (f g : List ℕ → Option ℕ) (s : List ℕ) → Ok (λ _ r. length r < length s) m
    → ((r : List ℕ) → length r < length s → f r ≡ g r) → kid_then m f ≡ kid_then m g
unfolding kid_then
then_same fail f g s h k = refl
then_same (got u r) f g s (good h) k = k r h

by_same : (f g : List ℕ → Option ℕ) (l : Look) (n : ℕ) (s : List ℕ) → ((r : List ℕ) → length r < length s → f r ≡ g r)
    → kid_by l f n s ≡ kid_by l g n s
unfolding kid_by
by_same f g at_close n s h = refl
by_same f g at_comment n s h = then_same (comment_at s) f g s (comment_eats s) h
by_same f g at_data n s h = then_same (data_at_lem s) f g s (data_eats s) h
by_same f g at_element n s h = refl
by_same f g at_text n s h = refl

kid_suc : (m n : ℕ) (s : List ℕ) → kid_within (suc m) n s ≡ kid_by (look (to_tag s)) (kid_within m n) n (to_tag s)
unfolding kid_within
kid_suc m n s = refl

kid_enough : (m k n : ℕ) (s : List ℕ) → length s < m → length s < k → kid_within m n s ≡ kid_within k n s
kid_enough zero k n s h j = absurd (omega arith)
kid_enough (suc m) zero n s h j = absurd (omega arith)
kid_enough (suc m) (suc k) n s h j =
    rw (kid_suc m n s, kid_suc k n s)
    (by_same (kid_within m n) (kid_within k n) (look (to_tag s)) n (to_tag s)
    (λ r l. kid_enough m k n r (omega (arith, to_tag_short s)) (omega (arith, to_tag_short s))))

pub kid_step : (n : ℕ) (s : List ℕ) → kid_at n s ≡ kid_by (look (to_tag s)) (kid_at n) n (to_tag s)
unfolding kid_at
kid_step n s =
    kid_suc (length s) n s
    ∙ by_same (kid_within (length s) n) (kid_at n) (look (to_tag s)) n (to_tag s)
    (λ r l. kid_enough (length s) (suc (length r)) n r (omega (arith, to_tag_short s)) (omega arith))

pub kid_look : (n : ℕ) (s : List ℕ) (l : Look) → look s ≡ l → (l ≡ at_text → ⊥) → kid_at n s ≡ kid_by l (kid_at n) n s
kid_look n s l e f = let z = tag_here s l e f in kid_step n s ∙ rw (z, e)

-- a cursor that was found in the end `s` of a text is not before it
then_left : {A : Type 0} (text : List ℕ) (m : Read A) (f : List ℕ → Option ℕ) (s : List ℕ) → Ok (λ _ r. length r < length s) m
    → ((r : List ℕ) → left text (f r) ≤ length r) → left text (kid_then m f) ≤ length s
unfolding kid_then left
then_left text fail f s h k = omega arith
then_left text (got u r) f s (good h) k = omega (arith, k r)

by_left : (text : List ℕ) (f : List ℕ → Option ℕ) (l : Look) (s : List ℕ) → ((r : List ℕ) → left text (f r) ≤ length r)
    → left text (kid_by l f (length text) s) ≤ length s
unfolding kid_by left
by_left text f at_close s k = omega arith
by_left text f at_comment s k = then_left text (comment_at s) f s (comment_eats s) k
by_left text f at_data s k = then_left text (data_at_lem s) f s (data_eats s) k
by_left text f at_element s k = omega arith
by_left text f at_text s k = omega arith

kid_zero : (n : ℕ) (s : List ℕ) → kid_within zero n s ≡ None
unfolding kid_within
kid_zero n s = refl

within_left : (m : ℕ) (text s : List ℕ) → left text (kid_within m (length text) s) ≤ length s
unfolding left
within_left zero text s = rw (kid_zero (length text) s) (omega arith)
within_left (suc m) text s = rw (kid_suc m (length text) s)
    (omega (arith, to_tag_short s, by_left text (kid_within m (length text)) (look (to_tag s)) (to_tag s) (λ r. within_left m text r)))

pub kid_left : (text s : List ℕ) → left text (kid_at (length text) s) ≤ length s
unfolding kid_at
kid_left text s = within_left (suc (length s)) text s

left_child : (text : List ℕ) (k : ℕ) → left text (Some k) ≡ length text - k
unfolding left
left_child text k = refl

pub next_read : (text : List ℕ) (at : ℕ) {e : Element} {r : List ℕ} → element₁₆ (drop at text) ≡ got e r
    → next text at ≡ kid_at (length text) r
unfolding next kid_then
next_read text at {e} {r} k = rw (skip_element (drop at text) e r k)

pub elements_joined : (b : List ℕ) (c : Contents) → elements (merged b c) ≡ elements c
unfolding elements merged
elements_joined [] c = refl
elements_joined (a ∷ b) nothing = refl
elements_joined (a ∷ b) (child e c) = refl
elements_joined (a ∷ b) (run w c) = refl

-- the row that contents hold
module _ (text : List ℕ) where
  record Rowed (s : List ℕ) (c : Contents) (t : List ℕ) : Type 0 where
    row : Tail text s → Siblings text (kid_at (length text) s) (elements c)

  row_closed : (s : List ℕ) → look s ≡ at_close → Siblings text (kid_at (length text) s) (elements nothing)
  unfolding kid_by elements
  row_closed s q = rw (kid_look (length text) s at_close q (no_text refl)) no_more

  row_remarked : (s r : List ℕ) → look s ≡ at_comment → comment_at s ≡ got tt r → kid_at (length text) s ≡ kid_at (length text) r
  unfolding kid_by kid_then
  row_remarked s r q e = kid_look (length text) s at_comment q (no_text_comment refl) ∙ rw e

  row_marked : (s r b : List ℕ) → look s ≡ at_data → data_at_lem s ≡ got b r → kid_at (length text) s ≡ kid_at (length text) r
  unfolding kid_by kid_then
  row_marked s r b q e = kid_look (length text) s at_data q (no_text_data refl) ∙ rw e

  row_lettered : (w r : List ℕ) → to_tag (w ++ r) ≡ to_tag r → kid_at (length text) (w ++ r) ≡ kid_at (length text) r
  row_lettered w r e = kid_step (length text) (w ++ r) ∙ rw e (sym (kid_step (length text) r))

  row_here : (s : List ℕ) → look s ≡ at_element → kid_at (length text) s ≡ Some (length text - length s)
  unfolding kid_by
  row_here s q = kid_look (length text) s at_element q (no_text_element refl)

  tail_child : (s r : List ℕ) (x : Element) → Tail text s → element₁₆ s ≡ got x r → Tail text r
  unfolding element₁₆
  tail_child s r x t e = tail_read (element_tails 16 s) e t

  row_child : (s r : List ℕ) (x : Element) (c : Contents) → Tail text s → look s ≡ at_element → element₁₆ s ≡ got x r
      → Siblings text (kid_at (length text) r) (elements c) → Siblings text (kid_at (length text) s) (elements (child x c))
  unfolding elements
  row_child s r x c tail q e₀ more =
      let k : ℕ = length text - length s in
      let e₁ : element₁₆ (drop k text) ≡ got x r = rw tail.stands e₀ in
      let short : length r < length s = eats_child s e₀ in
      let falls : left text (next text k) < left text (Some k) =
      rw (next_read text k e₁, left_child text k) (omega (arith, kid_left text r, tail.fits)) in
      let rest : Siblings text (next text k) (elements c) = rw (next_read text k e₁) more in
      rw (row_here s q, ← the_read text k e₁) (one_more (stands_read text k (omega (arith, tail.fits)) e₁) falls rest)

  rows : Induction Rowed
  rows = record {
    closed = λ s q. record { row = λ _. row_closed s q };
    remarked = λ s r c t q e h. record { row = λ tail. rw (row_remarked s r q e) (h.row (tail_read (tails (comment_sound s)) e tail)) };
    lettered = λ b w r c t k _ h. record {
      row = λ tail. rw (row_lettered w r (to_tag_free (text_free k) r), elements_joined b c)
          (h.row (tail_more w r refl tail));
    };
    marked = λ s r b c t q e h. record {
      row = λ tail. rw (row_marked s r b q e, elements_joined b c) (h.row (tail_read (tails (data_sound s)) e tail));
    };
    childed = λ s r x c t q e inside h. record
        { row = λ tail. row_child s r x c tail q e ((inside r c t (eats_child s e) h).row (tail_child s r x tail e)) };
  }

  contents_row : (s : List ℕ) → Tail text s → (c : Contents) (t : List ℕ) → contents 16 s ≡ got c t
      → Siblings text (kid_at (length text) s) (elements c)
  contents_row s tail c t e = (induction Rowed rows s c t e).row tail

-- behind a tag: the element's children
behind_row : (text n : List ℕ) {l : List Attribute} {s : List ℕ} {e : Element} {r : List ℕ} → Tail text s → Ending n l s e r
    → Siblings text (first_by (length text) (tag_from 0 s)) (elements (contents_of e))
unfolding first_by contents_of elements
behind_row text n {r = r} tail (bare k q) = rw (k, tag_bare r, q) no_more
behind_row text n tail (filled {t} {behind} {c} k h z q) =
    rw (k, tag_filled t, q) (contents_row text t (tail_more (62 ∷ []) t k tail) c behind h)

-- what stands behind the start tag's blanks is an end of the text
pub tail_behind : {text s : List ℕ} {e : Element} {r : List ℕ} (p : Spelled s e r) → Tail text s → Tail text p.behind_blanks
tail_behind {text} p t =
    let t₁ = tail_more (60 ∷ []) p.behind_open p.opens t in
    let t₂ = tail_read (name_tails p.behind_open) p.names t₁ in
    let t₃ = tail_read (tails (attributes_sound p.behind_name)) p.lists t₂ in
    tail_read (span_tails blank p.behind_all) p.blank_so t₃

-- THE LAW OF CHILDREN: where an element stands, the row from its first child on is its children
pub children : {text : List ℕ} {at : ℕ} → Stands text at → Siblings text (first_child text at) (elements (contents_of (the text at)))
unfolding first_child
children {text} {at} st =
    let p = spelled (drop at text) (the text at) st.rest st.reads in
    rw (tag_read p) (behind_row text p.name (tail_behind p (tail_of text at)) p.ending)

-- a first child stands behind its parent: with the law of rows, a measure for walks over all levels
first_left : (text s : List ℕ) (m : Read Bool) → Ok (Less s) m → 0 < length s → left text (first_by (length text) m) < length s
unfolding first_by left
first_left text s fail h k = k
first_left text s (got true r) (good h) k = omega (arith, kid_left text r, h.falls)
first_left text s (got false r) h k = k

pub first_falls : {text : List ℕ} {at : ℕ} → Stands text at → left text (first_child text at) < left text (Some at)
unfolding first_child
first_falls {text} {at} st =
    let h = st.here in
    let n : length (drop at text) ≡ length text - at = length-drop at text in
    rw (left_child text at) (omega (arith, first_left text (drop at text) (tag_at (drop at text)) (tag_less (drop at text)) (omega arith)))

-- WHERE WORDS MAY STAND, a child is what stands ahead
unfoldable pub child_of : Ahead → Option ℕ
child_of (Child k) = Some k
child_of (End k) = None
child_of Stray = None

close_child : (n : ℕ) (m : Read (Unit {0})) → None ≡ child_of (ending n m)
unfolding ending child_of
close_child n fail = refl
close_child n (got u r) = refl

module _ (f : List ℕ → Option ℕ) (g : List ℕ → Ahead) (h : (r : List ℕ) → f r ≡ child_of (g r)) where
  then_child : (m : Read (Unit {0})) → kid_then m f ≡ child_of (ahead_then m g)
  unfolding kid_then ahead_then child_of
  then_child fail = refl
  then_child (got u r) = h r

  data_child : (m : Read (List ℕ)) → kid_then m f ≡ child_of (ahead_then (gap_data true m) g)
  unfolding kid_then ahead_then child_of gap_data
  data_child fail = refl
  data_child (got b r) = h r

  by_child : (l : Look) (n : ℕ) (s : List ℕ) → kid_by l f n s ≡ child_of (ahead_by true l g n s)
  unfolding kid_by ahead_by child_of
  by_child at_close n s = close_child n (past_tag s)
  by_child at_comment n s = then_child (comment_at s)
  by_child at_data n s = data_child (data_at_lem s)
  by_child at_element n s = refl
  by_child at_text n s = refl

within_child : (m n : ℕ) (s : List ℕ) → kid_within m n s ≡ child_of (ahead_within m true n s)
unfolding kid_within ahead_within past_gap child_of
within_child zero n s = refl
within_child (suc m) n s = by_child (kid_within m n) (ahead_within m true n) (λ r. within_child m n r) (look (to_tag s)) n (to_tag s)

pub kid_ahead : (n : ℕ) (s : List ℕ) → kid_at n s ≡ child_of (ahead_at true n s)
unfolding kid_at ahead_at
kid_ahead n s = within_child (suc (length s)) n s

module _ (text : List ℕ) (at : ℕ) {a : Ahead} (k : a ≡ ahead_at true (length text) (drop at text)) where
  pub kid_there : {j : ℕ} → a ≡ Child j → Some j ≡ kid_at (length text) (drop at text)
  unfolding child_of
  kid_there z = sym (kid_ahead (length text) (drop at text) ∙ ap child_of (sym k ∙ z))

  pub kid_ended : {j : ℕ} → a ≡ End j → None ≡ kid_at (length text) (drop at text)
  unfolding child_of
  kid_ended z = sym (kid_ahead (length text) (drop at text) ∙ ap child_of (sym k ∙ z))

  pub kid_stray : a ≡ Stray → None ≡ kid_at (length text) (drop at text)
  unfolding child_of
  kid_stray z = sym (kid_ahead (length text) (drop at text) ∙ ap child_of (sym k ∙ z))

pub ruleset kid_of_ahead = (kid_there, kid_ended, kid_stray, rules)

-- the same where an end tag is told by where it begins
module _ (text : List ℕ) (at : ℕ) {a : Ahead} (k : tag_passed text a ≡ ahead_at true (length text) (drop at text)) where
  kid_passed : {y : Ahead} → a ≡ y → child_of (tag_passed text y) ≡ kid_at (length text) (drop at text)
  kid_passed z = ap child_of (rw z at k) ∙ sym (kid_ahead (length text) (drop at text))

  pub kid_begun : {j : ℕ} → a ≡ Child j → Some j ≡ kid_at (length text) (drop at text)
  unfolding child_of tag_passed
  kid_begun z = kid_passed z

  pub kid_closed : {j : ℕ} → a ≡ End j → None ≡ kid_at (length text) (drop at text)
  unfolding child_of tag_passed
  kid_closed {j} z = close_child (length text) (past_tag (drop j text)) ∙ kid_passed z

  pub kid_lost : a ≡ Stray → None ≡ kid_at (length text) (drop at text)
  unfolding child_of tag_passed
  kid_lost z = kid_passed z

pub ruleset kid_of_tag = (kid_begun, kid_closed, kid_lost, rules)

module _ (text : List ℕ) (at : ℕ) {x : Option Tag} (k : x ≡ tag_told (length text) (tag_at (drop at text))) where
  pub first_none : x ≡ None → None ≡ first_child text at
  unfolding first_child first_by
  first_none z = rw (no_tag text at k z)

  pub first_bare : {y : Tag} {j : ℕ} → x ≡ Some y → y ≡ tag_is.Bare j → None ≡ first_child text at
  unfolding first_child first_by
  first_bare z w = rw (bare_at_lem text at k (z ∙ ap Some w)).reads

  pub first_open : {y : Tag} {j : ℕ} → x ≡ Some y → y ≡ tag_is.Open j → {r : Option ℕ} → r ≡ kid_at (length text) (drop j text) → r ≡ first_child text at
  unfolding first_child first_by
  first_open z w q = q ∙ sym (rw (opens_at text at k (z ∙ ap Some w)).reads)

module _ (text : List ℕ) (at : ℕ) {x : Option ℕ} (k : x ≡ stepped (length text) (skip_at (drop at text))) where
  pub next_none : x ≡ None → None ≡ next text at
  unfolding next kid_then
  next_none z = rw (fell (length text) (skip_at (drop at text)) (sym z ∙ k))

  pub next_on : {j : ℕ} → x ≡ Some j → {r : Option ℕ} → r ≡ kid_at (length text) (drop j text) → r ≡ next text at
  unfolding next kid_then
  next_on {j} z w = w ∙ sym (rw (went skip_at text at j (less_tails (skip_less (drop at text))) (sym z ∙ k)).reads)

pub rooted : (text : List ℕ) {x : Option ℕ} → x ≡ stepped (length text) (preamble_at text) → x ≡ root text
unfolding root stepped root_by
rooted text k = k ∙ go (preamble_at text)
  where
    go : (m : Read (Unit {0})) → stepped (length text) m ≡ root_by (length text) m
    go fail = refl
    go (got u r) = refl

module _ (text : List ℕ) {x : Option ℕ} (k : x ≡ stepped (length text) (preamble_at text)) where
  pub root_none : x ≡ None → None ≡ root text
  unfolding root root_by
  root_none z = rw (fell (length text) (preamble_at text) (sym z ∙ k))

  pub root_there : {j : ℕ} → x ≡ Some j → Some j ≡ root text
  unfolding root root_by stepped
  root_there {j} z = go (preamble_at text) (sym k ∙ z)
    where
      go : (m : Read (Unit {0})) → stepped (length text) m ≡ Some j → Some j ≡ root_by (length text) m
      go fail e = clash (cc)
      go (got u r) e = let q : length text - length r ≡ j = cc in cc

pub ruleset rooting = (rooted, root_none, root_there, rules)

pub ruleset siblings = (first_none, first_bare, first_open, next_none, next_on, rules)
