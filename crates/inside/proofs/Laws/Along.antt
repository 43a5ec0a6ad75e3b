-- WHERE THE GRAMMAR PUTS AN ELEMENT, THE WALK FINDS IT: so a way has one place in a text.
use Rattle.std.specs.Prelude.{◌≡◌, List, ◌∷◌, ◌++◌, Bool, true, false, cond, drop, Option, Some, ℕ}
use Rattle.std.proofs.Math.Path.{refl}
use Rattle.std.proofs.Common.{ap, sym, ◌∙◌, append_assoc, arith}
use Prim.Native.Nat.{ℕ, zero, suc, ◌+◌, ◌-◌, ◌≤◌, ◌<◌}
use Rattle.std.proofs.Math.ListN.{length, length-append}
use Rattle.lists.specs.Lists.{those, count}
use Rattle.grammar.specs.Bytes.{◌⊹◌}
use Rattle.grammar.specs.Document.{Element, Contents, nothing, child, merged}
use Rattle.grammar.specs.Grammar
use Rattle.grammar.specs.Grammar.{TextCharacter, Comment, CData, WritesElement, WritesContents}
use Rattle.grammar.specs.Look.{elements}
use Rattle.grammar.specs.Read.{got}
use Rattle.grammar.specs.Parser.{at_comment, at_data, at_element}
use Rattle.grammar.proofs.Laws.Tokens.{comment_complete}
use Rattle.grammar.proofs.Laws.Data.{data_complete}
use Rattle.grammar.proofs.Laws.Complete.{opening_looks, comment_looks, data_looks, element_long}
use Rattle.nodes.specs.Places.{element₁₆, the}
use Rattle.nodes.proofs.Laws.Places.{the_read, Tail, tail_more}
use Rattle.nodes.specs.Scan.{tag_at}
use Rattle.nodes.proofs.Laws.ScanEnds.{to_tag_free, text_free, tag_name, tag_blanks, tag_attributes}
use Rattle.nodes.proofs.Laws.Skipping.{no_text_comment, no_text_data, no_text_element, tag_bare, tag_filled}
use Rattle.nodes.specs.Children.{kid_then, kid_by, kid_at, first_by, first_child, next}
use Rattle.nodes.proofs.Laws.Children.{kid_step, kid_look, next_read, elements_joined}
use Rattle.inside.specs.Way.{WayStep, step, StartTag, start_tag, OnlyTag, only_tag, Leads, here, down}
use Rattle.inside.proofs.Laws.Written.{element_reads, element_opens}
use Rattle.inside.specs.Walked.{places_within, places_from, nth_place, child_at, thence, walked}

-- ---- What the walk passes over.

over_comment : (n : ℕ) {w : List ℕ} → Comment w → (r : List ℕ) → kid_at n (w ++ r) ≡ kid_at n r
unfolding kid_by kid_then
over_comment n {w} k r = kid_look n (w ++ r) at_comment (comment_looks k r) (no_text_comment refl) ∙ rw (comment_complete k r)

over_data : (n : ℕ) {b w : List ℕ} → CData b w → (r : List ℕ) → kid_at n (w ++ r) ≡ kid_at n r
unfolding kid_by kid_then
over_data n {b} {w} k r = kid_look n (w ++ r) at_data (data_looks k r) (no_text_data refl) ∙ rw (data_complete k r)

over_text : (n : ℕ) {b w : List ℕ} → TextCharacter b w → (r : List ℕ) → kid_at n (w ++ r) ≡ kid_at n r
over_text n {b} {w} k r = kid_step n (w ++ r) ∙ rw (to_tag_free (text_free k) r) (sym (kid_step n r))

at_child_lem : (n : ℕ) {d : ℕ} {e : Element} {w : List ℕ} → WritesElement d e w → (r : List ℕ) → kid_at n (w ++ r) ≡ Some (n - length (w ++ r))
unfolding kid_by
at_child_lem n {w = w} h r = kid_look n (w ++ r) at_element (opening_looks (element_opens h) r) (no_text_element refl)

-- ---- The children in contents: behind those that pass, the next that passes is found.

nth_past : (n k : ℕ) (l : List ℕ) → nth_place (1 + n) (k ∷ l) ≡ nth_place n l
unfolding nth_place
nth_past n k l = let e : 1 + n ≡ suc n = omega arith in ap (λ i. nth_place i (k ∷ l)) e

module _ (text : List ℕ) (p : Element → Bool) where
  abbrev rest_of : ℕ → Option ℕ → List ℕ
  rest_of m kid = those (λ k. p (the text k)) (places_within m text kid)

  record Passes (d : ℕ) (c : Contents) (a : List ℕ) : Type 0 where
    finds : d ≤ 16 → (m : ℕ) (r : List ℕ) → length (a ++ r) < m → Tail text (a ++ r)
        → kid_at (length text) r ≡ Some (length text - length r) → p (the text (length text - length r)) ≡ true
        → nth_place (count p (elements c)) (rest_of m (kid_at (length text) (a ++ r))) ≡ Some (length text - length r)

  -- the first turn at a child
  turn : (m k : ℕ) → rest_of (suc m) (Some k) ≡ cond (p (the text k)) (k ∷ rest_of m (next text k)) (rest_of m (next text k))
  unfolding those places_within
  turn m k = refl

  none_finds : (m : ℕ) (r : List ℕ) → length r < m → kid_at (length text) r ≡ Some (length text - length r)
      → p (the text (length text - length r)) ≡ true
      → nth_place (count p (elements nothing)) (rest_of m (kid_at (length text) r)) ≡ Some (length text - length r)
  unfolding count elements nth_place
  none_finds zero r h q t = absurd (omega arith)
  none_finds (suc m) r h q t = rw (q, turn m (length text - length r), t)

  over : {d : ℕ} {c : Contents} (c₁ : Contents) (w : List ℕ) {s : List ℕ} → elements c₁ ≡ elements c
      → ((r : List ℕ) → kid_at (length text) (w ++ r) ≡ kid_at (length text) r) → Passes d c s → Passes d c₁ (w ⊹ s)
  over c₁ w {s} e f ih = record {
    finds = λ deep m r h t q y.
        let n : length ((w ++ s) ++ r) ≡ length w + length (s ++ r) = ap length (append_assoc w s r) ∙ length-append w (s ++ r) in
        let t₁ : Tail text (s ++ r) = tail_more w (s ++ r) (append_assoc w s r) t in
        rw (append_assoc w s r, f (s ++ r), e) (ih.finds deep m r (omega arith) t₁ q y);
  }

  -- a child that is written here
  record Met (w r : List ℕ) (e : Element) : Type 0 where
    is : the text (length text - length (w ++ r)) ≡ e
    then : next text (length text - length (w ++ r)) ≡ kid_at (length text) r

  met : {d : ℕ} {e : Element} {w : List ℕ} → WritesElement d e w → d ≤ 16 → (r : List ℕ) → Tail text (w ++ r) → Met w r e
  met {w = w} h deep r t =
      let k = rw (← t.stands) at (element_reads h deep r) in
      record { is = the_read text _ k; then = next_read text _ k }

  past_child : (b : Bool) (n j : ℕ) (l : List ℕ) → nth_place (cond b 1 0 + n) (cond b (j ∷ l) l) ≡ nth_place n l
  past_child true n j l = nth_past n j l
  past_child false n j l = ap (λ i. nth_place i l) (omega arith)

  inner_finds : {d : ℕ} {e : Element} {c : Contents} {w s : List ℕ} → WritesElement d e w → Passes d c s → d ≤ 16 → (m : ℕ) (r : List ℕ)
      → length (w ++ (s ++ r)) < m → Tail text (w ++ (s ++ r))
      → kid_at (length text) r ≡ Some (length text - length r) → p (the text (length text - length r)) ≡ true
      → nth_place (count p (elements (child e c))) (rest_of m (kid_at (length text) (w ++ (s ++ r)))) ≡ Some (length text - length r)
  unfolding count elements
  inner_finds h ih deep zero r f t q y = absurd (omega arith)
  inner_finds {e = e} {c} {w} {s} h ih deep (suc m) r f t q y =
      let here = met h deep (s ++ r) t in
      let j : ℕ = length text - length (w ++ (s ++ r)) in
      let n : length (w ++ (s ++ r)) ≡ length w + length (s ++ r) = length-append w (s ++ r) in
      let long = element_long h in
      rw (at_child_lem (length text) h (s ++ r), turn m j, here.is, here.then)
      (past_child (p e) (count p (elements c)) j (rest_of m (kid_at (length text) (s ++ r)))
      ∙ ih.finds deep m r (omega arith) (tail_more w (s ++ r) refl t) q y)

  inner_passes : {d : ℕ} {e : Element} {c : Contents} {w s : List ℕ} → WritesElement d e w → Passes d c s → Passes d (child e c) (w ⊹ s)
  inner_passes {w = w} {s} k ih = record {
    finds = λ deep m r h t q y.
        let z = append_assoc w s r in
        rw z (inner_finds k ih deep m r (rw z at h) (rw z at t) q y);
  }

  passes : {d : ℕ} {c : Contents} {a : List ℕ} → WritesContents d c a → Passes d c a
  passes t = elim t as (λ d e w _. Unit {0}) (λ d c a _. Passes d c a) [
    | Grammar.full nm at hu (kids → ih) hv ↦ tt
    | Grammar.empty nm at hu ↦ tt
    | Grammar.none ↦ record { finds = λ deep m r h t q y. none_finds m r h q y }
    | Grammar.remark {c = c} {w} k (t → ih) ↦ over c w refl (over_comment (length text) k) ih
    | Grammar.character {c = c} {b} {w} k p e (t → ih) ↦ over (merged b c) w (elements_joined b c) (over_text (length text) k) ih
    | Grammar.marked {c = c} {b} {w} k (t → ih) ↦ over (merged b c) w (elements_joined b c) (over_data (length text) k) ih
    | Grammar.inner k (t → ih) ↦ inner_passes k ih
  ]

-- ---- Along the way.

pub start_read : {tag : List ℕ} → StartTag tag → (r : List ℕ) → tag_at (tag ++ r) ≡ got true r
unfolding tag_at
start_read (start_tag {n} {t} {u} nm at hu) r =
    simp append_assoc (tag_name nm (t ++ (u ++ (62 ∷ r))) ∙ tag_attributes at (u ++ (62 ∷ r)) ∙ tag_blanks hu (62 ∷ r) ∙ tag_filled r)

pub only_read : {tag : List ℕ} → OnlyTag tag → (r : List ℕ) → tag_at (tag ++ r) ≡ got false r
unfolding tag_at
only_read (only_tag {n} {t} {u} nm at hu) r =
    simp append_assoc (tag_name nm (t ++ (u ++ (47 ∷ 62 ∷ r))) ∙ tag_attributes at (u ++ (47 ∷ 62 ∷ r))
    ∙ tag_blanks hu (47 ∷ 62 ∷ r) ∙ tag_bare r)

pub leads_writes : {way : List WayStep} {d : ℕ} {e x : Element} {w before s : List ℕ} → Leads way d e w before x s → WritesElement d e w
leads_writes (here h) = h
leads_writes (down rest h tg c y k) = h

-- the walk from a place finds the element, which is as far behind as what stands before it is long
pub record Ends (way : List WayStep) (text : List ℕ) (at : ℕ) (before s : List ℕ) (x : Element) : Type 0 where
  pub rest : List ℕ
  pub tail : Tail text (s ++ rest)
  pub reads : element₁₆ (s ++ rest) ≡ got x rest
  pub finds : walked way text at ≡ Some (length text - length (s ++ rest))
  pub far : length text - length (s ++ rest) ≡ at + length before

first_at : (text : List ℕ) (at : ℕ) (tag r : List ℕ) → StartTag tag → drop at text ≡ tag ++ r → first_child text at ≡ kid_at (length text) r
unfolding first_child first_by
first_at text at tag r tg e = rw (e, start_read tg r)

step_down : (text : List ℕ) (p : Element → Bool) (n : ℕ) (way : List WayStep) (at k : ℕ) → child_at (λ j. p (the text j)) n text at ≡ Some k
    → walked (step p n ∷ way) text at ≡ walked way text k
unfolding walked thence
step_down text p n way at k e = rw e

child_found : (text : List ℕ) (p : Element → Bool) {d : ℕ} {c : Contents} {y : Element} {tag a v : List ℕ} (r : List ℕ) (at : ℕ) → d ≤ 16
    → StartTag tag → WritesContents d c a → p y ≡ true → WritesElement d y v
    → drop at text ≡ tag ++ (a ++ (v ++ r)) → Tail text (a ++ (v ++ r))
    → child_at (λ j. p (the text j)) (count p (elements c)) text at ≡ Some (length text - length (v ++ r))
unfolding child_at places_from
child_found text p {d} {c} {y} {tag} {a} {v} r at deep tg wc ok wy e t =
    let t₁ : Tail text (v ++ r) = tail_more a (v ++ r) refl t in
    let here = met text p wy deep r t₁ in
    rw (first_at text at tag (a ++ (v ++ r)) tg e)
    ((passes text p wc).finds deep (suc (length text)) (v ++ r) (omega (arith, t.fits)) t (at_child_lem (length text) wy r)
    (ap p here.is ∙ ok))

pub along : (text : List ℕ) {way : List WayStep} {d : ℕ} {e x : Element} {w before s : List ℕ} → Leads way d e w before x s → d ≤ 16
    → (r : List ℕ) → Tail text (w ++ r)
    → Ends way text (length text - length (w ++ r)) before s x
unfolding walked
along text (here h) deep r t = record { rest = r; tail = t; reads = element_reads h deep r; finds = refl; far = omega arith }
along text (down {p} {way} {d} {e} {y} {x} {tag} {a} {v} {before} {s} {c} rest h tg wc ok k) deep r t =
    let whole : (tag ++ (a ++ (v ++ rest))) ++ r ≡ tag ++ (a ++ (v ++ (rest ++ r))) = simp append_assoc refl in
    let t₂ : Tail text (a ++ (v ++ (rest ++ r))) = tail_more tag (a ++ (v ++ (rest ++ r))) whole t in
    let t₃ : Tail text (v ++ (rest ++ r)) = tail_more a (v ++ (rest ++ r)) refl t₂ in
    let shallow : d ≤ 16 = omega arith in
    let below = along text k shallow (rest ++ r) t₃ in
    let at : ℕ = length text - length ((tag ++ (a ++ (v ++ rest))) ++ r) in
    let found = child_found text p (rest ++ r) at shallow tg wc ok (leads_writes k) (t.stands ∙ whole) t₂ in
    let n₁ : length ((tag ++ (a ++ (v ++ rest))) ++ r) ≡ length tag + (length a + length (v ++ (rest ++ r))) =
    ap length whole ∙ length-append tag (a ++ (v ++ (rest ++ r))) ∙ ap (λ i. length tag + i) (length-append a (v ++ (rest ++ r))) in
    let n₂ : length (tag ++ (a ++ before)) ≡ length tag + (length a + length before) =
    length-append tag (a ++ before) ∙ ap (λ i. length tag + i) (length-append a before) in
    let f = below.far in
    let g = t.fits in
    record {
      rest = below.rest;
      tail = below.tail;
      reads = below.reads;
      finds = step_down text p (count p (elements c)) way at (length text - length (v ++ (rest ++ r))) found ∙ below.finds;
      far = omega arith;
    }
