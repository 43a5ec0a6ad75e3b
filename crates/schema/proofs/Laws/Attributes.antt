-- The turns of the functions on attributes, and an element's own part.
use Rattle.std.specs.Prelude.{◌≡◌, refl, List, Bool, true, false, not, Option, Some, None, ℕ}
use Rattle.std.proofs.Math.Path.{ap, sym}
use Rattle.std.proofs.Common.{◌∙◌, arith}
use Prim.Native.Nat.{ℕ, zero, suc, ◌+◌, ◌-◌, ◌<◌, ◌≤◌}
use borrow.Author.Tests.{not-true, not-false}
use Rattle.lists.specs.Lists.{all, count_up, there, if_there}
use Rattle.lists.proofs.Laws.Tables.{up_one, up_done}
use Rattle.grammar.specs.Bytes.{ascii}
use Prim.Native.String.{String}
use Rattle.grammar.specs.Document.{Attribute, Element}
use Rattle.grammar.specs.Look.{Word, value_in, attributes_of, text_of}
use Rattle.schema.specs.Schema.{Form, AttributeRow, is_word, is_number, attribute_shaped, attribute_numbered}
use Rattle.nodes.specs.Places.{Stands, the}
use Rattle.nodes.specs.Attributes.{place, keys}
use Rattle.nodes.proofs.Laws.AttributesSteps.{Held, missing, held, lookup_is, attribute_law}
use Rattle.nodes.specs.Values.{value_there}
use Rattle.nodes.proofs.Laws.NextBytes.{value_law}
use Rattle.schema.specs.Table.{word_at, form_at, kind_cell, attribute_cell, attribute_by, attribute_at, attributes_of_kind, attributes_from}
use Rattle.schema.specs.Table.{attributes_to, text_at}
use Rattle.schema.specs.Faults.{fault, sooner}
use Rattle.schema.specs.Parts.{named_only, value_fault, attribute_fault, attributes_fault, text_fault, own_fault, key_listed}
use Rattle.schema.specs.Asked.{Known}
use Rattle.schema.proofs.Laws.Faults.{fault_and, IsFault, is_fault, is_none, is_six, sooner_fault, sooner_turned, sooner_three}
use Rattle.schema.proofs.Laws.Faults.{none_sooner, sooner_none, six_first}
use Rattle.schema.proofs.Laws.Keys.{listed_law}

-- what is found of an attribute named in letters, and what the document has
value_in_law : {text : List ℕ} {at : ℕ} (s : String) → Stands text at
    → Held text (place text at (ascii s)) (value_in s (attributes_of (the text at)))
value_in_law {text} {at} s st = rw (← lookup_is s (attributes_of (the text at))) (attribute_law (ascii s) st)

-- what the reader of attributes found is what the document has
module _ {text : List ℕ} {at : ℕ} (st : Stands text at) (s : String) {x : List ℕ} (ex : x ≡ ascii s) {f : Option ℕ} (a : f ≡ place text at x)
  where
    found : Held text f (value_in s (attributes_of (the text at)))
    found = rw (a, ex) (value_in_law s st)

    pub found_none : f ≡ None → value_in s (attributes_of (the text at)) ≡ None
    found_none e = go (rw e at found)
      where
        go : {o : Option Word} → Held text None o → o ≡ None
        go missing = refl

    pub found_some : {v : ℕ} → f ≡ Some v → value_in s (attributes_of (the text at)) ≡ Some (value_there text v)
    found_some {v} e = go (rw e at found)
      where
        go : {o : Option Word} → Held text (Some v) o → o ≡ Some (value_there text v)
        go (held x) = ap Some (sym (value_law x))

-- AN ATTRIBUTE'S FAULT
module _ (l : List Attribute) (s : String) (f : Form) where
  there_shaped : (n : ℕ) {v : Word} → value_in s l ≡ Some v → attribute_shaped l (attribute_by n s f) ≡ is_word f v
  unfolding attribute_shaped attribute_by there if_there
  there_shaped zero e = rw e
  there_shaped (suc n) e = rw e

  there_numbered : (n : ℕ) {v : Word} → value_in s l ≡ Some v → attribute_numbered l (attribute_by n s f) ≡ is_number f v
  unfolding attribute_numbered attribute_by if_there
  there_numbered zero e = rw e
  there_numbered (suc n) e = rw e

  none_needed : (n : ℕ) → n ≡ 0 → value_in s l ≡ None
      → 6 ≡ fault (attribute_shaped l (attribute_by n s f)) (attribute_numbered l (attribute_by n s f))
  unfolding attribute_shaped attribute_numbered attribute_by there if_there fault
  none_needed n z e = rw (z, e)

  none_free : (n : ℕ) → (n ≡ 0 → ⊥) → value_in s l ≡ None
      → 0 ≡ fault (attribute_shaped l (attribute_by n s f)) (attribute_numbered l (attribute_by n s f))
  unfolding attribute_shaped attribute_numbered attribute_by if_there fault
  none_free zero z e = absurd (z refl)
  none_free (suc n) z e = rw e

module _ (t l : List ℕ) {text : List ℕ} {at a : ℕ} (p : Known text at a) {c : ℕ} (ce : c ≡ attribute_cell t a 0) {x : List ℕ}
    (ex : x ≡ ascii (word_at t l c)) {f : Option ℕ} (pl : f ≡ place text at x) where
  spelt : x ≡ ascii (word_at t l (attribute_cell t a 0))
  spelt = ex ∙ rw ce

  module _ (e : f ≡ None) {n : ℕ} (ne : n ≡ attribute_cell t a 2) where
    pub attribute_missing : n ≡ 0 → 6 ≡ attribute_fault t l a (the text at)
    unfolding attribute_at
    attribute_missing z = none_needed _ _ _ (attribute_cell t a 2) (sym ne ∙ z) (found_none p.stands _ spelt pl e)

    pub attribute_spared : (n ≡ 0 → ⊥) → 0 ≡ attribute_fault t l a (the text at)
    unfolding attribute_at
    attribute_spared z = none_free _ _ _ (attribute_cell t a 2) (λ q. z (ne ∙ q)) (found_none p.stands _ spelt pl e)

  pub attribute_there : {v : ℕ} → f ≡ Some v → {g r : ℕ} → g ≡ attribute_cell t a 1 → r ≡ value_fault t l g (value_there text v)
      → r ≡ attribute_fault t l a (the text at)
  unfolding attribute_at
  attribute_there {v} e {g} i k =
      let o = found_some p.stands (word_at t l (attribute_cell t a 0)) spelt pl e in
      k ∙ rw (
        i,
        there_shaped (attributes_of (the text at)) (word_at t l (attribute_cell t a 0)) (form_at t l (attribute_cell t a 1))
            (attribute_cell t a 2) o,
        there_numbered (attributes_of (the text at)) (word_at t l (attribute_cell t a 0))
            (form_at t l (attribute_cell t a 1)) (attribute_cell t a 2) o,
      )

-- THE ATTRIBUTES OF A KIND
pub record Fitting (t l text : List ℕ) (at kind to worst w : ℕ) : Type 0 where
  pub of_kind_lem : Known text at kind
  pub end : to < 4294967296
  pub faulty : IsFault worst
  pub same_fault : attributes_fault (attributes_of_kind t l kind) (attributes_of (the text at))
      ≡ sooner worst (attributes_fault (count_up (attribute_at t l) w (to - w)) (attributes_of (the text at)))

pub fitting_start : (t l : List ℕ) {text : List ℕ} {at kind : ℕ} → Known text at kind → {to : ℕ} → to ≡ kind_cell t kind 1
    → to < 4294967296 → {from : ℕ} → from ≡ kind_cell t kind 0 → Fitting t l text at kind to 0 from
unfolding attributes_of_kind attributes_from attributes_to
fitting_start t l {text} {at} {kind} p e u f =
    record { of_kind_lem = p; end = u; faulty = is_none; same_fault = rw (e, f) (sym (none_sooner _)) }

module _ {t l text : List ℕ} {at kind to worst w : ℕ} (go : Fitting t l text at kind to worst w) where
  pub fitting_attributed : w < to → Known text at w
  fitting_attributed h = record { stands = go.of_kind_lem.stands; known = omega (arith, go.end) }

  pub fitting_room : w < to → w + 1 < 18446744073709551616
  fitting_room h = omega (arith, go.end)

  one_fault : w < to → attributes_fault (count_up (attribute_at t l) w (to - w)) (attributes_of (the text at))
      ≡ sooner (attribute_fault t l w (the text at))
      (attributes_fault (count_up (attribute_at t l) (w + 1) (to - (w + 1))) (attributes_of (the text at)))
  unfolding attributes_fault all
  one_fault h = rw (up_one (attribute_at t l) w to h) (fault_and _ _ _ _)

  pub fitting_on : w < to → {r : ℕ} → r ≡ attribute_fault t l w (the text at)
      → {worst₁ : ℕ} → worst₁ ≡ sooner worst r → Fitting t l text at kind to worst₁ (w + 1)
  unfolding attributes_fault
  fitting_on h {r} e i =
      rw (i, e) (record {
        of_kind_lem = go.of_kind_lem;
        end = go.end;
        faulty = sooner_fault go.faulty (is_fault _ _);
        same_fault = go.same_fault ∙ ap (sooner worst) (one_fault h) ∙ sym (sooner_three go.faulty (is_fault _ _) (is_fault _ _));
      })

  pub fitting_end : to ≤ w → worst ≡ attributes_fault (attributes_of_kind t l kind) (attributes_of (the text at))
  unfolding attributes_fault all fault
  fitting_end h = sym (go.same_fault ∙ rw (up_done (attribute_at t l) w to h) (sooner_none worst))

-- THE ELEMENT'S OWN PART
attributes_faulty : (r : List AttributeRow) (l : List Attribute) → IsFault (attributes_fault r l)
unfolding attributes_fault
attributes_faulty r l = is_fault _ _

text_faulty : (t : List ℕ) (f : ℕ) (w : Word) → IsFault (text_fault t f w)
unfolding text_fault
text_faulty t f w = is_fault _ _

pub own_faulty : (t l : List ℕ) (kind : ℕ) (e : Element) → IsFault (own_fault t l kind e)
unfolding own_fault
own_faulty t l kind e = sooner_fault (is_fault _ _)
    (sooner_fault (attributes_faulty (attributes_of_kind t l kind) (attributes_of e)) (text_faulty t (text_at t kind) (text_of e)))

module _ (t l : List ℕ) {text : List ℕ} {at kind : ℕ} (p : Known text at kind) {a : ℕ}
    (i : a ≡ attributes_fault (attributes_of_kind t l kind) (attributes_of (the text at))) where
  pub own_six : a ≡ 6 → 6 ≡ own_fault t l kind (the text at)
  unfolding own_fault
  own_six s =
      let q : attributes_fault (attributes_of_kind t l kind) (attributes_of (the text at)) ≡ 6 = sym i ∙ s in
      sym (rw (q, six_first (text_faulty t (text_at t kind) (text_of (the text at))))
      (sooner_turned (is_fault (named_only (attributes_of_kind t l kind) (attributes_of (the text at))) true) is_six
      ∙ six_first (is_fault _ _)))

  module _ {from to : ℕ} (f : from ≡ kind_cell t kind 0) (g : to ≡ kind_cell t kind 1) {b : Bool}
      (k : b ≡ all (key_listed (count_up (attribute_at t l) from (to - from))) (keys text at)) where
    named_as : named_only (attributes_of_kind t l kind) (attributes_of (the text at)) ≡ b
    unfolding attributes_of_kind attributes_from attributes_to
    named_as = sym (k ∙ rw (f, g) (listed_law (count_up (attribute_at t l) (kind_cell t kind 0) (kind_cell t kind 1 - kind_cell t kind 0))
        p.stands))

    pub own_other : not b ≡ true → 6 ≡ own_fault t l kind (the text at)
    unfolding own_fault fault
    own_other h = sym (rw (named_as, not-true b h)
        (six_first (sooner_fault (attributes_faulty (attributes_of_kind t l kind) (attributes_of (the text at)))
        (text_faulty t (text_at t kind) (text_of (the text at))))))

    pub own_text : not b ≡ false → {g : ℕ} → g ≡ kind_cell t kind 4 → {r : ℕ} → r ≡ text_fault t g (text_of (the text at)) → {s : ℕ}
        → s ≡ sooner a r → s ≡ own_fault t l kind (the text at)
    unfolding own_fault fault text_at
    own_text h u r s = s ∙ rw (r, u) (sym (rw (named_as, not-false b h, ← i) (none_sooner _)))
