-- A value that begins with a front part is that part and the decoded bytes behind it; and one law for each way through the code.
use Rattle.std.specs.Prelude.{◌≡◌, refl, List, [], ◌∷◌, ◌++◌, Bool, true, false, ◌&&◌, not, cond, ℕ, ◌+◌, ◌≤◌, ◌<◌, eqb, leb, length, drop, get_or, Option, Some, None, is_some}
use Rattle.std.proofs.Common.{ap, ◌∙◌, arith, rules}
use Rattle.std.proofs.Math.Path.{sym}
use borrow.Author.Tests.{eq-eqb, ne_eqb, eqb-true, le-leb, lt-leb, leb-true}
use Rattle.std.proofs.Math.ListN.{get_or-eq_default}
use Rattle.lists.proofs.Laws.Booleans.{clash}
use Rattle.grammar.specs.Bytes.{begins}
use Rattle.grammar.specs.Parser.{same_bytes}
use Rattle.steps.proofs.Laws.Step.{at_byte, at_end}
use Rattle.nodes.specs.Places.{pick}
use Rattle.nodes.specs.Values.{decoded_at, value_there, tells}
use Rattle.nodes.proofs.Laws.NextBytes.{decoded_byte, decoded_end, value_begins}
use Rattle.nodes.specs.Fronts.{behind_quote, met, behind_front, begins_at_lem}

-- THE QUOTE, AND BEHIND IT
pub quote_none : (text : List ℕ) (v : ℕ) → length text ≤ v → 0 ≡ get_or text v 0
quote_none text v h = sym (get_or-eq_default text 0 h)

pub quote_past : (text : List ℕ) (v : ℕ) → length text ≤ v → v ≡ behind_quote text v
unfolding behind_quote
quote_past text v h = rw (le-leb (length text) v h)

pub quote_inside : (text : List ℕ) (v : ℕ) → v < length text → v + 1 ≡ behind_quote text v
unfolding behind_quote
quote_inside text v h = rw (lt-leb (length text) v h)

pub value_behind : (text : List ℕ) (v : ℕ) → value_there text v ≡ tells (get_or text v 0) (drop (behind_quote text v) text)
unfolding behind_quote
value_behind text v = value_begins text v ∙ ap (tells (get_or text v 0)) (go (leb (length text) v) refl)
  where
    go : (b : Bool) → leb (length text) v ≡ b → drop (v + 1) text ≡ drop (cond b v (v + 1)) text
    go true e =
        let h : length text ≤ v = leb-true (length text) v e in
        at_end text (v + 1) (omega arith) ∙ sym (at_end text v h)
    go false e = refl

pub value_rest : (text : List ℕ) (v : ℕ) (word : List ℕ) {q : ℕ} → q ≡ get_or text v 0 → {i : ℕ} → i ≡ behind_quote text v → {r : Bool}
    → r ≡ same_bytes (tells q (drop i text)) word → r ≡ same_bytes (value_there text v) word
value_rest text v word e f h = h ∙ rw (e, f) (ap (λ x. same_bytes x word) (sym (value_behind text v)))

pub ruleset valued = (quote_none, quote_past, quote_inside, value_rest, rules)

-- BEHIND THE FRONT PART
step_at : (text : List ℕ) (q i a : ℕ) (f : ℕ → Option ℕ) (c : Option (ℕ × ℕ)) → c ≡ decoded_at text i q → {j : ℕ} → met a c f ≡ Some j
    → (m : ℕ) × (f m ≡ Some j) × (tells q (drop i text) ≡ a ∷ tells q (drop m text))
unfolding met
step_at text q i a f None e h = clash (cc)
step_at text q i a f (Some (b, m)) e {j} h = go (eqb b a) refl h
  where
    go : (t : Bool) → eqb b a ≡ t → pick t (f m) None ≡ Some j
        → (m : ℕ) × (f m ≡ Some j) × (tells q (drop i text) ≡ a ∷ tells q (drop m text))
    go true z k = (m, k, (decoded_byte text q i e refl).splits ∙ rw (eqb-true b a z))
    go false z k = clash (cc)

step_not : (text : List ℕ) (q i a : ℕ) (k : List ℕ) (f : ℕ → Option ℕ) → ((m : ℕ) → f m ≡ None → begins k (tells q (drop m text)) ≡ false)
    → (c : Option (ℕ × ℕ)) → c ≡ decoded_at text i q → met a c f ≡ None → begins (a ∷ k) (tells q (drop i text)) ≡ false
unfolding met begins
step_not text q i a k f ih None e h = rw (decoded_end text q i e refl)
step_not text q i a k f ih (Some (b, m)) e h = rw (decoded_byte text q i e refl).splits (go (eqb b a) refl h)
  where
    go : (t : Bool) → eqb b a ≡ t → pick t (f m) None ≡ None → (t && begins k (tells q (drop m text))) ≡ false
    go true z w = ih m w
    go false z w = refl

behind_is : (text : List ℕ) (q : ℕ) (front : List ℕ) (i : ℕ) {j : ℕ} → behind_front text q front i ≡ Some j
    → tells q (drop i text) ≡ front ++ tells q (drop j text)
unfolding behind_front
behind_is text q [] i {j} e = let z : i ≡ j = cc in rw z
behind_is text q (a ∷ k) i {j} e =
    let s = step_at text q i a (behind_front text q k) (decoded_at text i q) refl e in
    s.2 ∙ ap (λ l. a ∷ l) (behind_is text q k s.0 s.1)

behind_not : (text : List ℕ) (q : ℕ) (front : List ℕ) (i : ℕ) → behind_front text q front i ≡ None
    → begins front (tells q (drop i text)) ≡ false
unfolding behind_front
behind_not text q [] i e = clash (cc)
behind_not text q (a ∷ k) i e =
    step_not text q i a k (behind_front text q k) (λ m w. behind_not text q k m w) (decoded_at text i q) refl e

-- THE LAWS: a value of which the answer is a place is the front part and the decoded bytes from that place on; of which it is none does
-- not begin with it
pub begins_so : (text : List ℕ) (v : ℕ) (front : List ℕ) {f : Option ℕ} → f ≡ begins_at_lem text v front → {i : ℕ} → f ≡ Some i
    → value_there text v ≡ front ++ tells (get_or text v 0) (drop i text)
unfolding begins_at_lem
begins_so text v front e h = value_behind text v ∙ behind_is text (get_or text v 0) front (behind_quote text v) (sym e ∙ h)

pub begins_not : (text : List ℕ) (v : ℕ) (front : List ℕ) {f : Option ℕ} → f ≡ begins_at_lem text v front → f ≡ None
    → begins front (value_there text v) ≡ false
unfolding begins_at_lem
begins_not text v front e h =
    ap (begins front) (value_behind text v) ∙ behind_not text (get_or text v 0) front (behind_quote text v) (sym e ∙ h)

-- BYTE BY BYTE
pub record Fronting (text : List ℕ) (q : ℕ) (word : List ℕ) (at k i : ℕ) : Type 0 where
  same_front : behind_front text q word at ≡ behind_front text q (drop k word) i

pub front_start : (text : List ℕ) (q : ℕ) (word : List ℕ) (at : ℕ) → Fronting text q word at 0 at
front_start text q word at = record { same_front = refl }

met_pair : (a : ℕ) (p : ℕ × ℕ) (f : ℕ → Option ℕ) → met a (Some p) f ≡ pick (eqb p.0 a) (f p.1) None
unfolding met
met_pair a (b, j) f = refl

module _ {text : List ℕ} {q : ℕ} {word : List ℕ} {at k i : ℕ} (go : Fronting text q word at k i) where
  pub front_behind : length word ≤ k → Some i ≡ behind_front text q word at
  unfolding behind_front
  front_behind h = sym (go.same_front ∙ rw (at_end word k h))

  module _ (h : k < length word) {c : Option (ℕ × ℕ)} (ec : c ≡ decoded_at text i q) where
    next : behind_front text q word at ≡ met (get_or word k 0) c (behind_front text q (drop (k + 1) word))
    unfolding behind_front
    next = go.same_front ∙ rw (at_byte word k h, ec)

    pub front_ends : c ≡ None → None ≡ behind_front text q word at
    unfolding met
    front_ends e = sym (next ∙ rw e)

    module _ {p : ℕ × ℕ} (is : c ≡ Some p) where
      here : behind_front text q word at ≡ pick (eqb p.0 (get_or word k 0)) (behind_front text q (drop (k + 1) word) p.1) None
      here = next ∙ ap (λ x. met (get_or word k 0) x (behind_front text q (drop (k + 1) word))) is ∙ met_pair _ p _

      pub front_other : (p.0 ≡ get_or word k 0 → ⊥) → None ≡ behind_front text q word at
      front_other f = sym (here ∙ rw (ne_eqb _ _ f))

      pub front_more : p.0 ≡ get_or word k 0 → Fronting text q word at (k + 1) p.1
      front_more e = record { same_front = here ∙ rw (eq-eqb _ _ e) }

pub ruleset fronting = (front_start, front_behind, front_ends, front_other, front_more, rules)

pub front_begins : (text : List ℕ) (v : ℕ) (front : List ℕ) {q i : ℕ} → q ≡ get_or text v 0 → i ≡ behind_quote text v → {r : Option ℕ}
    → r ≡ behind_front text q front i → r ≡ begins_at_lem text v front
unfolding begins_at_lem
front_begins text v front e f h = h ∙ rw (e, f)

-- A WHOLE WORD
same_begun : (w l : List ℕ) → same_bytes (w ++ l) w ≡ same_bytes l []
unfolding same_bytes
same_begun [] l = refl
same_begun (a ∷ w) l = rw (eq-eqb a a refl) (same_begun w l)

same_unbegun : (w l : List ℕ) → begins w l ≡ false → same_bytes l w ≡ false
unfolding same_bytes begins
same_unbegun [] l e = clash (cc)
same_unbegun (a ∷ w) [] e = refl
same_unbegun (a ∷ w) (b ∷ l) e = go (eqb b a) e (same_unbegun w l)
  where
    go : (t : Bool) → (t && begins w l) ≡ false → (begins w l ≡ false → same_bytes l w ≡ false) → (t && same_bytes l w) ≡ false
    go true z ih = ih z
    go false z ih = refl

module _ (text : List ℕ) (at q : ℕ) (word : List ℕ) {r : Option ℕ} (e : r ≡ behind_front text q word at) where
  pub rest_other : r ≡ None → false ≡ same_bytes (tells q (drop at text)) word
  rest_other z = sym (same_unbegun word (tells q (drop at text)) (behind_not text q word at (sym e ∙ z)))

  module _ {i : ℕ} (z : r ≡ Some i) {c : Option (ℕ × ℕ)} (ec : c ≡ decoded_at text i q) where
    rest_so : same_bytes (tells q (drop at text)) word ≡ same_bytes (tells q (drop i text)) []
    rest_so = ap (λ l. same_bytes l word) (behind_is text q word at (sym e ∙ z)) ∙ same_begun word (tells q (drop i text))

    pub rest_ends : {t : Bool} → is_some c ≡ not t → t ≡ same_bytes (tells q (drop at text)) word
    unfolding same_bytes
    rest_ends {t} n = go c ec t n ∙ sym rest_so
      where
        go : (x : Option (ℕ × ℕ)) → x ≡ decoded_at text i q → (t : Bool) → is_some x ≡ not t → t ≡ same_bytes (tells q (drop i text)) []
        go None w true n = rw (decoded_end text q i w refl)
        go None w false n = clash (cc)
        go (Some (b, j)) w true n = clash (cc)
        go (Some (b, j)) w false n = rw (decoded_byte text q i w refl).splits
