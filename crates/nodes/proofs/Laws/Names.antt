-- Names, at a position of the text: one law for each way through the code.
use Rattle.std.specs.Prelude.{◌≡◌, List, ℕ, Bool, false, drop, refl, ◌++◌, ◌+◌, ◌-◌, ◌≤◌, ◌<◌, length, get_or, Option, Some, None}
use Prim.Native.String.{String}
use Rattle.grammar.specs.Bytes.{ascii}
use Rattle.grammar.specs.Document.{Attribute, Element}
use Rattle.grammar.specs.Look.{name_of, attributes_of, is}
use Rattle.grammar.specs.Parser.{name_at, same_bytes}
use Rattle.nodes.specs.Places.{the, Stands}
use Rattle.nodes.proofs.Laws.ReadSteps.{Ending, bare, filled, spelled}
use Rattle.nodes.specs.Names.{named_in, named_by, named}
use Rattle.std.proofs.Common.{ap, ◌∙◌, arith, rules, length-append, length-drop, take_at}
use Rattle.std.proofs.Math.Path.{sym}
use borrow.Author.Tests.{eq-eqb, ne_eqb}
use Rattle.grammar.proofs.Laws.Read.{ok_got}
use Rattle.grammar.proofs.Laws.Sound.{name_sound}
use Rattle.steps.specs.Step.{stepped, Went}
use Rattle.steps.proofs.Laws.Step.{at_byte, at_end, fell, went}
use Rattle.steps.proofs.Laws.Leaves.{name_tails}
use Rattle.steps.specs.Noted.{part}

-- what an element is made of
pub ending_name : {n : List ℕ} {l : List Attribute} {s : List ℕ} {e : Element} {r : List ℕ} → Ending n l s e r → name_of e ≡ n
unfolding name_of
ending_name (bare _ q) = rw q
ending_name (filled _ _ _ q) = rw q

pub ending_attributes : {n : List ℕ} {l : List Attribute} {s : List ℕ} {e : Element} {r : List ℕ} → Ending n l s e r → attributes_of e ≡ l
unfolding attributes_of
ending_attributes (bare _ q) = rw q
ending_attributes (filled _ _ _ q) = rw q

-- THE LAW OF NAMES
pub name_law : {text : List ℕ} {at : ℕ} (w : List ℕ) → Stands text at → named text at w ≡ same_bytes (name_of (the text at)) w
unfolding named named_by named_in
name_law {text} {at} w st =
    let p = spelled (drop at text) (the text at) st.rest st.reads in
    rw (p.opens, p.names, ending_name p.ending)

-- for a word given in letters
pub name_is_law : {text : List ℕ} {at : ℕ} (s : String) → Stands text at → named text at (ascii s) ≡ is s (name_of (the text at))
unfolding is
name_is_law s st = name_law (ascii s) st

-- the name that was read
pub part_is : {text : List ℕ} {at to : ℕ} (w : Went name_at text at to) → at ≤ length text → part at to text ≡ w.value
part_is {text} {at} {to} w h =
    let q : drop at text ≡ w.value ++ drop to text = (ok_got (rw w.reads at (name_sound (drop at text)))).0 in
    let n : to - at ≡ length w.value =
    omega (arith, ap length q, length-append w.value (drop to text), length-drop at text, length-drop to text, w.inside) in
    rw (n, q) (take_at w.value (drop to text) (length w.value) refl)

module _ (text : List ℕ) (at : ℕ) (word : List ℕ) where
  pub name_none : length text ≤ at → false ≡ named text at word
  unfolding named named_by
  name_none h = rw (at_end text at h)

  pub name_other : at < length text → (get_or text at 0 ≡ 60 → ⊥) → false ≡ named text at word
  unfolding named named_by
  name_other h f = rw (at_byte text at h, ne_eqb _ _ f)

  module _ (h : at < length text) (q : get_or text at 0 ≡ 60) {x : Option ℕ} (k : x ≡ stepped (length text) (name_at (drop (at + 1) text))) where
    opened : named text at word ≡ named_in word (name_at (drop (at + 1) text))
    unfolding named named_by
    opened = rw (at_byte text at h, eq-eqb _ _ q)

    pub name_bad : x ≡ None → false ≡ named text at word
    unfolding named_in
    name_bad z = sym (opened ∙ rw (fell (length text) (name_at (drop (at + 1) text)) (sym z ∙ k)))

    module _ {e : ℕ} (z : x ≡ Some e) where
      read : Went name_at text (at + 1) e
      read = went name_at text (at + 1) e (name_tails (drop (at + 1) text)) (sym z ∙ k)

      pub name_read : {r : Bool} → r ≡ same_bytes (part (at + 1) e text) word → r ≡ named text at word
      unfolding named_in
      name_read w = w ∙ sym (opened ∙ rw read.reads (ap (λ n. same_bytes n word) (sym (part_is read (omega arith)))))

pub name_ahead : (text : List ℕ) (at : ℕ) {x : Option ℕ} {e : ℕ} → at < length text
    → x ≡ stepped (length text) (name_at (drop (at + 1) text)) → x ≡ Some e → at + 1 ≤ e
name_ahead text at {x} {e} h k z = (went name_at text (at + 1) e (name_tails (drop (at + 1) text)) (sym z ∙ k)).ahead (omega arith)

pub name_inside : (text : List ℕ) (at : ℕ) {x : Option ℕ} {e : ℕ} → x ≡ stepped (length text) (name_at (drop (at + 1) text)) → x ≡ Some e
    → e ≤ length text
name_inside text at {x} {e} k z = (went name_at text (at + 1) e (name_tails (drop (at + 1) text)) (sym z ∙ k)).inside

pub ruleset naming = (name_none, name_other, name_bad, name_read, name_ahead, name_inside, rules)
