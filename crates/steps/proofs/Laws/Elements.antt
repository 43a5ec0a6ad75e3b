-- Elements and contents, step by step.
use Rattle.std.specs.Prelude.{◌≡◌, List, ◌∷◌, ◌++◌, ℕ, suc, ◌+◌, ◌-◌, ◌≤◌, ◌<◌, length, drop, Option, Some, None}
use Rattle.std.proofs.Math.Path.{refl}
use Rattle.std.proofs.Common.{ap, sym, ◌∙◌, subst, append_assoc, arith, rules, length-drop}
use Rattle.lists.proofs.Laws.Booleans.{clash}
use Rattle.grammar.specs.Bytes.{ascii, blank}
use Rattle.grammar.specs.Document.{Attribute, element, child}
use Rattle.grammar.specs.Read.{Read, fail, got, Reader, bind, alt, mark, span, seen, before}
use Rattle.grammar.proofs.Laws.Read.{mark_other, mark_sound, Ok}
use Rattle.grammar.proofs.Laws.Read.{failed, good, ok_got, ok_map, bind_ok}
use Rattle.grammar.specs.Parser.{Look, at_close, at_comment, at_data, at_element, at_text, look, name_at, attributes_at, empty_at, full_at}
use Rattle.grammar.specs.Parser.{element_at}
use Rattle.grammar.proofs.Laws.SoundElements.{contents_sound}
use Rattle.grammar.specs.Unfuelled.{contents}
use Rattle.steps.specs.Step.{stepped}
use Rattle.steps.proofs.Laws.Step.{Tails, tails, went, went_on, at_byte}
use Rattle.steps.proofs.Laws.Leaves.{mark_tails}
use Rattle.steps.specs.Keys.{Head, head, head_at}
use Rattle.steps.proofs.Laws.Keys.{head_tails}
use Rattle.steps.proofs.Laws.Until.{bind_assoc, stepped_value, stepped_each}
use Rattle.steps.proofs.Laws.Row as Row
use Rattle.steps.specs.Row.{Piece, pieces_at}
use Rattle.steps.proofs.Laws.Row.{rest_of, element_split, element_tails, element_eats, pieces_tails, pieces_eat_on}
use Rattle.steps.proofs.Laws.Row.{children_by, contents_split}
use Rattle.steps.specs.Tags.{ended, opened, close_at, closing_at}
use Rattle.steps.specs.Pieces.{halted, stopped_by}
use Rattle.steps.specs.declared.tags.Opened.{Opened}
use Rattle.steps.specs.declared.pieces.Between.{Between}
use Rattle.steps.proofs.Laws.Parsing.{stuck, follows}

-- what a turn of the contents' loop finds, by what stops the pieces
data Turn (d n : ℕ) (s : List ℕ) : Between → Type 0 where
  bad : stepped n (contents d s) ≡ None → Turn d n s Between.Bad
  close : (r : List ℕ) → stepped n (contents d s) ≡ Some (n - length r) → Turn d n s (Between.Close (n - length r))
  start : (l : List Piece) (r : List ℕ) → pieces_at s ≡ got l r
      → stepped n (contents d s) ≡ stepped n (bind (element_at contents d r) (λ e r₁. contents d r₁))
      → Turn d n s (Between.Start (n - length r))

module _ (d n : ℕ) (s : List ℕ) where
  turned : (l : List Piece) (r : List ℕ) → pieces_at s ≡ got l r → stepped n (contents d s) ≡ stepped n (children_by d (look r) r)
  unfolding bind
  turned l r e = rw (contents_split d s, e) (stepped_value n (children_by d (look r) r) (Row.joins l))

  turn_by : (l : List Piece) (r : List ℕ) → pieces_at s ≡ got l r → (k : Look) → look r ≡ k → Turn d n s (halted k (n - length r))
  unfolding halted children_by stepped
  turn_by l r e at_close h = close r (turned l r e ∙ rw h)
  turn_by l r e at_comment h = bad (turned l r e ∙ rw h)
  turn_by l r e at_data h = bad (turned l r e ∙ rw h)
  turn_by l r e at_element h =
      start l r e (turned l r e ∙ rw h (stepped_each n (element_at contents d r) _ (λ e r₁. contents d r₁) λ x r₁. stepped_value n
      (contents d r₁) (child x)))
  turn_by l r e at_text h = bad (turned l r e ∙ rw h)

  turn_of : (m : Read (List Piece)) → pieces_at s ≡ m → Turn d n s (stopped_by n m)
  unfolding stopped_by bind stepped
  turn_of fail e = bad (rw (contents_split d s, e))
  turn_of (got l r) e = turn_by l r e (look r) refl

is_close : {d n j : ℕ} {s : List ℕ} {b : Between} → Turn d n s b → b ≡ Between.Close j → Some j ≡ stepped n (contents d s)
is_close (bad e) q = clash (cc)
is_close (close r e) q = cc
is_close (start l r h e) q = clash (cc)

is_bad : {d n : ℕ} {s : List ℕ} {b : Between} → Turn d n s b → b ≡ Between.Bad → None ≡ stepped n (contents d s)
is_bad (bad e) q = sym e
is_bad (close r e) q = clash (cc)
is_bad (start l r h e) q = clash (cc)

-- an element begins at `j`, behind the pieces at `i`
record Starts (d : ℕ) (text : List ℕ) (i j : ℕ) : Type 0 where
  no_longer : length (drop j text) ≤ length (drop i text)
  goes : stepped (length text) (contents d (drop i text))
      ≡ stepped (length text) (bind (element_at contents d (drop j text)) (λ e r₁. contents d r₁))

is_start : {d : ℕ} {text : List ℕ} {i j : ℕ} {b : Between} → Turn d (length text) (drop i text) b → b ≡ Between.Start j → Starts d text i j
unfolding stepped
is_start (bad e) q = clash (cc)
is_start (close r e) q = clash (cc)
is_start {d} {text} {i} {j} (start l r h e) q =
    let place : j ≡ length text - length r = cc in
    let there : Some j ≡ stepped (length text) (pieces_at (drop i text)) = rw (h, place) in
    let w = went pieces_at text i j (pieces_tails (drop i text)) there in
    let here : r ≡ drop j text = cc w.reads in
    let parts : length r ≤ length (drop i text) = shorter (rw h at (pieces_eat_on (drop i text))) in
    record { no_longer = rw (← here) parts; goes = rw (← here) e }
  where
    shorter : {l : List Piece} {r : List ℕ} {n : ℕ} → Ok (λ _ r. length r ≤ n) (got l r) → length r ≤ n
    shorter h = ok_got h

abbrev pub Reading : ℕ → List ℕ → ℕ → ℕ → Type 0
Reading d text at i = stepped (length text) (contents d (drop at text)) ≡ stepped (length text) (contents d (drop i text))

module _ (d : ℕ) (text : List ℕ) (at i : ℕ) (inv : Reading d text at i) {b : Between}
    (q : b ≡ stopped_by (length text) (pieces_at (drop i text))) where
  turn : Turn d (length text) (drop i text) b
  turn = subst (λ (x : Between). Turn d (length text) (drop i text) x) (sym q)
      (turn_of d (length text) (drop i text) (pieces_at (drop i text)) refl)

  pub contents_close : {j : ℕ} → b ≡ Between.Close j → Some j ≡ stepped (length text) (contents d (drop at text))
  contents_close e = is_close turn e ∙ sym inv

  pub contents_bad : b ≡ Between.Bad → None ≡ stepped (length text) (contents d (drop at text))
  contents_bad e = is_bad turn e ∙ sym inv

  module _ {j : ℕ} (e : b ≡ Between.Start j) {r : Option ℕ} (q₂ : r ≡ stepped (length text) (element_at contents d (drop j text))) where
    starts : Starts d text i j
    starts = is_start turn e

    pub contents_stuck : r ≡ None → None ≡ stepped (length text) (contents d (drop at text))
    contents_stuck k = stuck (length text) (element_at contents d (drop j text)) (λ e r₁. contents d r₁) q₂ k ∙ sym (inv ∙ starts.goes)

    module _ {k : ℕ} (h : r ≡ Some k) where
      pub contents_on : Reading d text at k
      contents_on = inv ∙ starts.goes ∙ sym
          (follows (element_at contents d) (element_tails d) text j (λ e r₁. contents d r₁) q₂ k h λ _ _. refl)

      pub contents_less : length (drop k text) < length (drop i text)
      contents_less =
          let w = went (element_at contents d) text j k (element_tails d (drop j text)) (sym h ∙ q₂) in
          omega (arith, length-drop k text, length-drop j text, went_on w (element_eats d (drop j text)), w.inside, starts.no_longer)

-- ELEMENTS. A start tag, with its `>`.
start_at : Reader Head
start_at s = bind (head_at s) (λ h r. bind (mark (ascii ">") r) (λ _ r₁. got h r₁))

start_tails : (s : List ℕ) → Ok (Tails s) (start_at s)
unfolding start_at
start_tails s = bind_ok (head_tails s) λ h r k. bind_ok (mark_tails (ascii ">") r) λ _ r₁ k₁. good
    (k.0 ++ k₁.0, simp append_assoc (let a = k.1 in let b = k₁.1 in cc))

unfoldable name_of_lem : Head → List ℕ
name_of_lem (head n l) = n

-- what an element is, by how its start tag ends
data Opens (d n : ℕ) (s : List ℕ) : Opened → Type 0 where
  bad : stepped n (element_at contents (suc d) s) ≡ None → Opens d n s Opened.Bad
  empty : (r : List ℕ) → stepped n (element_at contents (suc d) s) ≡ Some (n - length r) → Opens d n s (Opened.Empty (n - length r))
  full : (h : Head) (r : List ℕ) → start_at s ≡ got h r
      → stepped n (element_at contents (suc d) s) ≡ stepped n (bind (contents d r) (λ _ r₁. close_at (name_of_lem h) r₁))
      → Opens d n s (Opened.Full (n - length r))

full_steps : (d n : ℕ) (nm : List ℕ) (l : List Attribute) (r r₁ : List ℕ) → mark (ascii ">") r ≡ got tt r₁
    → stepped n (full_at (contents d) nm l r) ≡ stepped n (bind (contents d r₁) (λ _ r₂. close_at nm r₂))
unfolding full_at close_at bind seen
full_steps d n nm l r r₁ e =
    rw (e, bind_assoc (contents d r₁))
    (stepped_each n (contents d r₁) _ _ λ c r₂.
    stepped_each n (mark (ascii "</") r₂) _ _ λ _ r₃.
    stepped_each n (mark nm r₃) _ _ λ _ r₄.
    stepped_each n (span blank r₄) _ _ λ _ r₅.
    stepped_value n (mark (ascii ">") r₅) (λ _. element nm l c (before r₁ r₂)))

full_fails : (d n : ℕ) (nm : List ℕ) (l : List Attribute) (r : List ℕ) → mark (ascii ">") r ≡ fail
    → stepped n (full_at (contents d) nm l r) ≡ None
unfolding full_at bind stepped
full_fails d n nm l r e = rw e

apart : (r : List ℕ) → Ok (λ _ r₁. mark (ascii "/>") r ≡ fail) (mark (ascii ">") r)
apart r = ok_map (mark_sound (ascii ">") r) λ _ r₁ e. rw e (mark_other 47 62 (ascii ">") r₁ refl)

module _ (d n : ℕ) (s : List ℕ) where
  opens_by : (nm : List ℕ) (l : List Attribute) (r : List ℕ) → head_at s ≡ got (head nm l) r
      → (m : Read (Unit {0})) → mark (ascii ">") r ≡ m → Ok (λ _ r₁. mark (ascii "/>") r ≡ fail) m → (m₂ : Read (Unit {0}))
      → mark (ascii "/>") r ≡ m₂
      → Opens d n s (ended (stepped n m) (stepped n m₂))
  unfolding ended stepped bind rest_of alt empty_at start_at name_of_lem
  opens_by nm l r e (got tt r₁) e₁ (good k) m₂ e₂ =
      full (head nm l) r₁ (rw (e, e₁)) (rw (element_split d s, e, k) (full_steps d n nm l r r₁ e₁))
  opens_by nm l r e fail e₁ k (got tt r₂) e₂ = empty r₂ (rw (element_split d s, e, e₂))
  opens_by nm l r e fail e₁ k fail e₂ = bad (rw (element_split d s, e, e₂) (full_fails d n nm l r e₁))

  opens_of : (m : Read Head) → head_at s ≡ m → Opens d n s (opened n m)
  unfolding opened bind stepped
  opens_of fail e = bad (rw (element_split d s, e))
  opens_of (got (head nm l) r) e = opens_by nm l r e (mark (ascii ">") r) refl (apart r) (mark (ascii "/>") r) refl

opens_bad : {d n : ℕ} {s : List ℕ} {o : Opened} → Opens d n s o → o ≡ Opened.Bad → None ≡ stepped n (element_at contents (suc d) s)
opens_bad (bad e) q = sym e
opens_bad (empty r e) q = clash (cc)
opens_bad (full h r k e) q = clash (cc)

opens_empty : {d n i : ℕ} {s : List ℕ} {o : Opened} → Opens d n s o → o ≡ Opened.Empty i → Some i ≡ stepped n (element_at contents (suc d) s)
opens_empty (bad e) q = clash (cc)
opens_empty (empty r e) q = cc
opens_empty (full h r k e) q = clash (cc)

-- the contents begin at `i`
record Begins (d : ℕ) (text : List ℕ) (at i : ℕ) : Type 0 where
  header : Head
  reads : start_at (drop at text) ≡ got header (drop i text)
  goes : stepped (length text) (element_at contents (suc d) (drop at text))
      ≡ stepped (length text) (bind (contents d (drop i text)) (λ _ r₁. close_at (name_of_lem header) r₁))

opens_full : {d : ℕ} {text : List ℕ} {at i : ℕ} {o : Opened} → Opens d (length text) (drop at text) o → o ≡ Opened.Full i
    → Begins d text at i
unfolding stepped
opens_full (bad e) q = clash (cc)
opens_full (empty r e) q = clash (cc)
opens_full {d} {text} {at} {i} (full h r k e) q =
    let place : i ≡ length text - length r = cc in
    let there : Some i ≡ stepped (length text) (start_at (drop at text)) = rw (k, place) in
    let w = went start_at text at i (start_tails (drop at text)) there in
    let here : r ≡ drop i text = cc w.reads in
    record { header = h; reads = rw (← here) k; goes = rw (← here) e }

-- the name behind `<`
data Names (s : List ℕ) : Head → Type 0 where
  names : {n : List ℕ} {l : List Attribute} (r₁ r₂ : List ℕ) → s ≡ 60 ∷ r₁ → name_at r₁ ≡ got n r₂ → Names s (head n l)

itself : {A : Type 0} (m : Read A) → Ok (λ a r. m ≡ got a r) m
itself fail = failed
itself (got a r) = good refl

start_names : (s : List ℕ) → Ok (λ h _. Names s h) (start_at s)
unfolding start_at head_at bind
start_names s =
    bind_ok (bind_ok (mark_sound (ascii "<") s) λ _ r₁ e₁.
    bind_ok (itself (name_at r₁)) λ n r₂ e₂.
    bind_ok (itself (attributes_at r₂)) λ l r₃ _.
    bind_ok (itself (span blank r₃)) λ _ r₄ _. good (names r₁ r₂ e₁ e₂)) λ h r k.
    bind_ok (itself (mark (ascii ">") r)) λ _ r₅ _. good k

closing_by : (text : List ℕ) (at : ℕ) {h : Head} → Names (drop at text) h → (t : List ℕ)
    → closing_at (drop (at + 1) text) t ≡ close_at (name_of_lem h) t
unfolding closing_at name_of_lem bind
closing_by text at (names r₁ r₂ e₁ e₂) t =
    let inside : at < length text = omega (arith, ap length e₁, length-drop at text) in
    let step = at_byte text at inside in
    let here : drop (at + 1) text ≡ r₁ = cc in
    rw (here, e₂)

contents_tails : (d : ℕ) (s : List ℕ) → Ok (Tails s) (contents d s)
unfolding contents
contents_tails d s = tails (contents_sound (suc (length s)) d s)

pub element_none : (text : List ℕ) (at depth : ℕ) → depth ≡ 0 → None ≡ stepped (length text) (element_at contents depth (drop at text))
unfolding element_at stepped
element_none text at depth e = rw e

module _ (text : List ℕ) (at depth : ℕ) (deep : depth ≡ 0 → ⊥) {o : Opened} (q : o ≡ opened (length text) (head_at (drop at text))) where
  opens : Opens (depth - 1) (length text) (drop at text) o
  opens = subst (λ (x : Opened). Opens (depth - 1) (length text) (drop at text) x) (sym q)
      (opens_of (depth - 1) (length text) (drop at text) (head_at (drop at text)) refl)

  less_one : suc (depth - 1) ≡ depth
  less_one = omega arith

  deeper : {x : Option ℕ} → x ≡ stepped (length text) (element_at contents (suc (depth - 1)) (drop at text))
      → x ≡ stepped (length text) (element_at contents depth (drop at text))
  deeper e = e ∙ ap (λ d. stepped (length text) (element_at contents d (drop at text))) less_one

  pub element_bad : o ≡ Opened.Bad → None ≡ stepped (length text) (element_at contents depth (drop at text))
  element_bad e = deeper (opens_bad opens e)

  pub element_empty : {i : ℕ} → o ≡ Opened.Empty i → Some i ≡ stepped (length text) (element_at contents depth (drop at text))
  element_empty e = deeper (opens_empty opens e)

  module _ {i : ℕ} (e : o ≡ Opened.Full i) {r : Option ℕ} (q₂ : r ≡ stepped (length text) (contents (depth - 1) (drop i text))) where
    begun : Begins (depth - 1) text at i
    begun = opens_full opens e

    pub element_stuck : r ≡ None → None ≡ stepped (length text) (element_at contents depth (drop at text))
    element_stuck k = deeper (stuck (length text) (contents (depth - 1) (drop i text)) _ q₂ k ∙ sym begun.goes)

    pub element_full : {j : ℕ} → r ≡ Some j → {x : Option ℕ} → x ≡ stepped (length text) (closing_at (drop (at + 1) text) (drop j text))
        → x ≡ stepped (length text) (element_at contents depth (drop at text))
    element_full {j} k q₃ =
        let known = ok_got (rw begun.reads at (start_names (drop at text))) in
        deeper (follows (contents (depth - 1)) (contents_tails (depth - 1)) text i (λ _ r₁. close_at (name_of_lem begun.header) r₁) q₂ j k
        (λ _ _. q₃ ∙ ap (stepped (length text)) (closing_by text at known (drop j text))) ∙ sym begun.goes)

pub ruleset reading = (contents_close, contents_bad, contents_stuck, contents_on, contents_less, rules)

pub ruleset elements = (element_none, element_bad, element_empty, element_stuck, element_full, rules)
