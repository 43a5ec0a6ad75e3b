-- Keys and single attributes, at a position of the text: one law for each way through the code.
use Rattle.std.specs.Prelude.{◌≡◌, refl, List, ◌++◌, ℕ, ◌-◌, ◌≤◌, ◌<◌, length, drop, Option, Some, None}
use Rattle.std.proofs.Common.{ap, sym, ◌∙◌, append_assoc, arith, length-append, length-drop, take_at}
use Rattle.std.proofs.lemmas.Option.{same_Some}
use Rattle.lists.proofs.Laws.Booleans.{clash}
use Rattle.grammar.specs.Bytes.{ascii, blank}
use Rattle.grammar.specs.Document.{attribute}
use Rattle.grammar.specs.Read.{Read, fail, got, Reader, bind}
use Rattle.grammar.proofs.Laws.Read.{Ok, good, bind_ok, ok_got, mark_sound}
use Rattle.grammar.proofs.Laws.Read.{span_sound}
use Rattle.grammar.specs.Parser.{name_at, gap_at, equals_at, value_at, attribute_at_lem, attributes_at}
use Rattle.grammar.proofs.Laws.Sound.{name_sound, attribute_sound, attributes_sound}
use Rattle.grammar.proofs.Laws.Tokens.{attribute_long}
use Rattle.grammar.proofs.Laws.Unfuelled.{less}
use Rattle.steps.specs.Step.{stepped, Went}
use Rattle.steps.proofs.Laws.Step.{fell, Tails, tails, went}
use Rattle.steps.proofs.Laws.Until.{stepped_value}
use Rattle.steps.specs.Noted.{part}
use Rattle.steps.proofs.Laws.Leaves.{gap_tails, name_tails, equals_tails, value_tails}
use Rattle.steps.specs.declared.attributes.Key.{Key}
use Rattle.steps.specs.Keys.{spots, key_at, named_at, keyed, head_at, Keyed, Named}
use Rattle.steps.proofs.Laws.Step.{arrives, refuses}

pub head_tails : (s : List ℕ) → Ok (Tails s) (head_at s)
unfolding head_at
head_tails s =
    bind_ok (mark_sound (ascii "<") s) λ _ r₁ e₁.
    bind_ok (name_sound r₁) λ n r₂ h₂.
    bind_ok (attributes_sound r₂) λ l r₃ h₃.
    bind_ok (span_sound blank r₃) λ u r₄ h₄.
    good (ascii "<" ++ (n ++ (h₃.0 ++ u)), simp append_assoc (let e₂ = h₂.0 in let e₃ = h₃.1 in let e₄ = h₄.0 in cc))

pub attribute_eats : (s : List ℕ) → Ok (λ _ r. length r < length s) (attribute_at_lem s)
attribute_eats s = less (λ _ w h. attribute_long h) (attribute_sound s)

pub attributes_tails : (s : List ℕ) → Ok (Tails s) (attributes_at s)
attributes_tails s = tails (attributes_sound s)

-- a reader fails, or goes on to a place
pub data Goes {A : Type 0} (p : Reader A) (text : List ℕ) (at : ℕ) : Type 0 where
  fails : p (drop at text) ≡ fail → Goes p text at
  goes : {j : ℕ} → Went p text at j → Goes p text at

pub goes_or_fails : {A : Type 0} (p : Reader A) (text : List ℕ) (at : ℕ) → ((s : List ℕ) → Ok (Tails s) (p s)) → Goes p text at
unfolding stepped
goes_or_fails {A} p text at ends = go (p (drop at text)) refl
  where
    go : (m : Read A) → p (drop at text) ≡ m → Goes p text at
    go fail e = fails e
    go (got a r) e = goes (went p text at (length text - length r) (ends (drop at text)) (rw e))

left_at : (text : List ℕ) (at : ℕ) → at ≤ length text → length text - length (drop at text) ≡ at
left_at text at h = simp length-drop (omega arith)

module _ (text : List ℕ) (at : ℕ) where
  key_reads : {from to end : ℕ} → Keyed text at from to end
      → key_at (drop at text) ≡ got (spots (length (drop from text)) (length (drop to text))) (drop end text)
  unfolding key_at bind
  key_reads k = rw (k.gap.reads, k.name.reads, k.equals.reads)

  pub key_is : {from to end : ℕ} → Keyed text at from to end → Some (record { from = from; to = to; end = end }) ≡ keyed (length text) (key_at (drop at text))
  unfolding keyed
  key_is {from} {to} {end} k = rw (
    key_reads k,
    left_at text from k.gap.inside,
    left_at text to k.name.inside,
    left_at text end k.equals.inside,
  )

  pub key_not : key_at (drop at text) ≡ fail → None ≡ keyed (length text) (key_at (drop at text))
  unfolding keyed
  key_not e = rw e

  named_reads : {from to end : ℕ} → Named text at from to end
      → named_at (drop at text) ≡ got (spots (length (drop from text)) (length (drop to text))) (drop end text)
  unfolding named_at bind
  named_reads k = rw (key_reads k.key, k.value.reads)

  pub named_is : {from to end : ℕ} → Named text at from to end → Some (record { from = from; to = to; end = end }) ≡ keyed (length text) (named_at (drop at text))
  unfolding keyed
  named_is {from} {to} {end} k = rw (
    named_reads k,
    left_at text from k.key.gap.inside,
    left_at text to k.key.name.inside,
    left_at text end k.value.inside,
  )

  pub named_not : named_at (drop at text) ≡ fail → None ≡ keyed (length text) (named_at (drop at text))
  unfolding keyed
  named_not e = rw e

-- from the answer to the places
module _ (text : List ℕ) (at : ℕ) where
  pub data KeyGoes : Type 0 where
    no_key : key_at (drop at text) ≡ fail → KeyGoes
    a_key : {from to end : ℕ} → Keyed text at from to end → KeyGoes

  pub data NamedGoes : Type 0 where
    not_named : named_at (drop at text) ≡ fail → NamedGoes
    is_named_lem : {from to end : ℕ} → Named text at from to end → NamedGoes

pub key_stops_1 : (text : List ℕ) (at : ℕ) → gap_at (drop at text) ≡ fail → key_at (drop at text) ≡ fail
unfolding key_at bind
key_stops_1 text at e = rw e

pub key_stops_2 : (text : List ℕ) (at : ℕ) {from : ℕ} → Went gap_at text at from → name_at (drop from text) ≡ fail
    → key_at (drop at text) ≡ fail
unfolding key_at bind
key_stops_2 text at g e = rw (g.reads, e)

pub key_stops_3 : (text : List ℕ) (at : ℕ) {from to : ℕ} → Went gap_at text at from → Went name_at text from to
    → equals_at (drop to text) ≡ fail → key_at (drop at text) ≡ fail
unfolding key_at bind
key_stops_3 text at g n e = rw (g.reads, n.reads, e)

pub key_goes : (text : List ℕ) (at : ℕ) → KeyGoes text at
key_goes text at = go₁ (goes_or_fails gap_at text at gap_tails)
  where
    go₃ : {from to : ℕ} → Went gap_at text at from → Went name_at text from to → Goes equals_at text to → KeyGoes text at
    go₃ g n (fails e) = no_key (key_stops_3 text at g n e)
    go₃ g n (goes q) = a_key (record { gap = g; name = n; equals = q })

    go₂ : {from : ℕ} → Went gap_at text at from → Goes name_at text from → KeyGoes text at
    go₂ g (fails e) = no_key (key_stops_2 text at g e)
    go₂ g (goes {j = to} n) = go₃ g n (goes_or_fails equals_at text to equals_tails)

    go₁ : Goes gap_at text at → KeyGoes text at
    go₁ (fails e) = no_key (key_stops_1 text at e)
    go₁ (goes {j = from} g) = go₂ g (goes_or_fails name_at text from name_tails)

pub named_stops : (text : List ℕ) (at : ℕ) → key_at (drop at text) ≡ fail → named_at (drop at text) ≡ fail
unfolding named_at bind
named_stops text at e = rw e

pub named_stops_2 : (text : List ℕ) (at : ℕ) {from to end : ℕ} → Keyed text at from to end → value_at (drop end text) ≡ fail
    → named_at (drop at text) ≡ fail
unfolding named_at bind
named_stops_2 text at k e = rw (key_reads text at k, e)

pub named_goes : (text : List ℕ) (at : ℕ) → NamedGoes text at
named_goes text at = go (key_goes text at)
  where
    go₂ : {from to end : ℕ} → Keyed text at from to end → Goes value_at text end → NamedGoes text at
    go₂ k (fails e) = not_named (named_stops_2 text at k e)
    go₂ k (goes v) = is_named_lem (record { middle = _; key = k; value = v })

    go : KeyGoes text at → NamedGoes text at
    go (no_key e) = not_named (named_stops text at e)
    go (a_key {end = end} k) = go₂ k (goes_or_fails value_at text end value_tails)

pub key_found : (text : List ℕ) (at : ℕ) {r : Option Key} {spot : Key} → r ≡ keyed (length text) (key_at (drop at text))
    → r ≡ Some spot → Keyed text at spot.from spot.to spot.end
key_found text at {r} {spot} q e = go (key_goes text at)
  where
    go : KeyGoes text at → Keyed text at spot.from spot.to spot.end
    go (no_key k) = let n = key_not text at k in clash (cc)
    go (a_key {from = f} {to = t} {end = n} k) =
        let same = same_Some _ _ (key_is text at k ∙ sym q ∙ e) in
        rw (← ap (λ n. n.from) same, ← ap (λ n. n.to) same, ← ap (λ n. n.end) same) k

pub key_missed : (text : List ℕ) (at : ℕ) {r : Option Key} → r ≡ keyed (length text) (key_at (drop at text)) → r ≡ None
    → key_at (drop at text) ≡ fail
key_missed text at {r} q e = go (key_goes text at)
  where
    go : KeyGoes text at → key_at (drop at text) ≡ fail
    go (no_key k) = k
    go (a_key k) = let i = key_is text at k in clash (cc)

pub named_found : (text : List ℕ) (at : ℕ) {r : Option Key} {spot : Key} → r ≡ keyed (length text) (named_at (drop at text))
    → r ≡ Some spot → Named text at spot.from spot.to spot.end
named_found text at {r} {spot} q e = go (named_goes text at)
  where
    go : NamedGoes text at → Named text at spot.from spot.to spot.end
    go (not_named k) = let n = named_not text at k in clash (cc)
    go (is_named_lem {from = f} {to = t} {end = n} k) =
        let same = same_Some _ _ (named_is text at k ∙ sym q ∙ e) in
        rw (← ap (λ n. n.from) same, ← ap (λ n. n.to) same, ← ap (λ n. n.end) same) k

pub named_missed : (text : List ℕ) (at : ℕ) {r : Option Key} → r ≡ keyed (length text) (named_at (drop at text)) → r ≡ None
    → named_at (drop at text) ≡ fail
named_missed text at {r} q e = go (named_goes text at)
  where
    go : NamedGoes text at → named_at (drop at text) ≡ fail
    go (not_named k) = k
    go (is_named_lem k) = let i = named_is text at k in clash (cc)

-- what the grammar's reader of an attribute finds there
same_places : (n : ℕ) (s : List ℕ) → stepped n (attribute_at_lem s) ≡ stepped n (named_at s)
unfolding attribute_at_lem named_at key_at bind stepped
same_places n s = go₁ (gap_at s)
  where
    go₄ : (a b : ℕ) (w : List ℕ) (m : Read (List ℕ))
        → stepped n (bind m (λ v r. got (attribute w v) r)) ≡ stepped n (bind m (λ _ r. got (spots a b) r))
    go₄ a b w m = stepped_value n m (attribute w) ∙ sym (stepped_value n m (λ _. spots a b))

    go₃ : (a b : ℕ) (w : List ℕ) (m : Read (Unit {0}))
        → stepped n (bind m (λ _ r. bind (value_at r) (λ v r₁. got (attribute w v) r₁)))
        ≡ stepped n (bind (bind m (λ _ r. got (spots a b) r)) (λ k r. bind (value_at r) (λ _ r₁. got k r₁)))
    go₃ a b w fail = refl
    go₃ a b w (got _ r) = go₄ a b w (value_at r)

    go₂ : (a : ℕ) (m : Read (List ℕ)) → stepped n
        (bind m (λ w r. bind (equals_at r) (λ _ r₁. bind (value_at r₁) (λ v r₂. got (attribute w v) r₂))))
        ≡ stepped n (bind (bind m (λ _ s₂. bind (equals_at s₂) (λ _ s₃. got (spots a (length s₂)) s₃)))
        (λ k r. bind (value_at r) (λ _ r₁. got k r₁)))
    go₂ a fail = refl
    go₂ a (got w r) = go₃ a (length r) w (equals_at r)

    go₁ : (m : Read (List ℕ)) → stepped n
        (bind m (λ _ s₁. bind (name_at s₁) (λ w r. bind (equals_at r) (λ _ r₁. bind (value_at r₁) (λ v r₂. got (attribute w v) r₂)))))
        ≡ stepped n (bind (bind m (λ _ s₁. bind (name_at s₁)
        (λ _ s₂. bind (equals_at s₂) (λ _ s₃. got (spots (length s₁) (length s₂)) s₃)))) (λ k r. bind (value_at r) (λ _ r₁. got k r₁)))
    go₁ fail = refl
    go₁ (got _ s₁) = go₂ (length s₁) (name_at s₁)

pub named_fails : (text : List ℕ) (at : ℕ) → named_at (drop at text) ≡ fail → attribute_at_lem (drop at text) ≡ fail
unfolding stepped
named_fails text at e = fell 0 (attribute_at_lem (drop at text)) (sym (same_places 0 (drop at text) ∙ rw e))

-- the bytes between two places
pub part_is : (text n : List ℕ) (from to : ℕ) → from ≤ to → to ≤ length text → drop from text ≡ n ++ drop to text → n ≡ part from to text
part_is text n from to h k e =
    let size : length n ≡ to - from = omega
    (arith, ap length e, length-append n (drop to text), length-drop to text, length-drop from text) in
    sym (rw e (take_at n (drop to text) (to - from) size))

module _ (text : List ℕ) (at from to end : ℕ) (k : Named text at from to end) where
  pub named_reads_it : attribute_at_lem (drop at text) ≡ got (attribute k.key.name.value k.value.value) (drop end text)
  unfolding attribute_at_lem bind
  named_reads_it = rw (k.key.gap.reads, k.key.name.reads, k.key.equals.reads, k.value.reads)

  pub named_ahead : from ≤ to
  named_ahead = k.key.name.ahead k.key.gap.inside

  pub name_there : k.key.name.value ≡ part from to text
  name_there =
      let n = ok_got (rw k.key.name.reads at (name_sound (drop from text))) in
      part_is text k.key.name.value from to named_ahead k.key.name.inside n.0

-- what a call tells
module _ {A : Type 0} (p : Reader A) (text : List ℕ) (at : ℕ) {r : Option ℕ} (is : r ≡ stepped (length text) (p (drop at text))) where
  pub stuck : r ≡ None → p (drop at text) ≡ fail
  stuck e = fell (length text) (p (drop at text)) (sym e ∙ is)

  pub step : ((s : List ℕ) → Ok (Tails s) (p s)) → {j : ℕ} → r ≡ Some j → Went p text at j
  step ends {j} e = went p text at j (ends (drop at text)) (sym e ∙ is)

module _ (text : List ℕ) (at : ℕ) where
  abbrev Keys : Option Key → Type 0
  Keys r = r ≡ keyed (length text) (key_at (drop at text))

  module _ {r₁ : Option ℕ} (s₁ : r₁ ≡ stepped (length text) (gap_at (drop at text))) where
    pub key_no_gap : r₁ ≡ None → Keys None
    key_no_gap e = key_not text at (key_stops_1 text at (stuck gap_at text at s₁ e))

    module _ {from : ℕ} (e₁ : r₁ ≡ Some from) {r₂ : Option ℕ} (s₂ : r₂ ≡ stepped (length text) (name_at (drop from text))) where
      pub key_no_name : r₂ ≡ None → Keys None
      key_no_name e = key_not text at (key_stops_2 text at (step gap_at text at s₁ gap_tails e₁) (stuck name_at text from s₂ e))

      module _ {to : ℕ} (e₂ : r₂ ≡ Some to) {r₃ : Option ℕ} (s₃ : r₃ ≡ stepped (length text) (equals_at (drop to text))) where
        pub key_no_equals : r₃ ≡ None → Keys None
        key_no_equals e = key_not text at
            (key_stops_3 text at (step gap_at text at s₁ gap_tails e₁) (step name_at text from s₂ name_tails e₂)
            (stuck equals_at text to s₃ e))

        pub key_all : {end : ℕ} → r₃ ≡ Some end → Keys (Some (record { from = from; to = to; end = end }))
        key_all e = key_is text at (record {
          gap = step gap_at text at s₁ gap_tails e₁;
          name = step name_at text from s₂ name_tails e₂;
          equals = step equals_at text to s₃ equals_tails e;
        })

  abbrev Names : Option Key → Type 0
  Names r = r ≡ keyed (length text) (named_at (drop at text))

  module _ {r₁ : Option Key} (s₁ : r₁ ≡ keyed (length text) (key_at (drop at text))) where
    pub named_no_key : r₁ ≡ None → Names None
    named_no_key e = named_not text at (named_stops text at (key_missed text at s₁ e))

    module _ {spot : Key} (e₁ : r₁ ≡ Some spot) {r₂ : Option ℕ} (s₂ : r₂ ≡ stepped (length text) (value_at (drop spot.end text))) where
      pub named_no_value : r₂ ≡ None → Names None
      named_no_value e = named_not text at (named_stops_2 text at (key_found text at s₁ e₁) (stuck value_at text spot.end s₂ e))

      pub named_all : {j : ℕ} → r₂ ≡ Some j → Names (Some (record { from = spot.from; to = spot.to; end = j }))
      named_all e = named_is text at (record
          { middle = spot.end; key = key_found text at s₁ e₁; value = step value_at text spot.end s₂ value_tails e })

  module _ {r₁ : Option Key} (s₁ : r₁ ≡ keyed (length text) (named_at (drop at text))) where
    pub attribute_not : r₁ ≡ None → None ≡ stepped (length text) (attribute_at_lem (drop at text))
    attribute_not e = refuses (length text) (attribute_at_lem (drop at text)) (named_fails text at (named_missed text at s₁ e))

    pub attribute_is : {spot : Key} → r₁ ≡ Some spot → Some spot.end ≡ stepped (length text) (attribute_at_lem (drop at text))
    attribute_is {spot} e =
        let k = named_found text at s₁ e in
        arrives text (attribute_at_lem (drop at text)) spot.end k.value.inside (named_reads_it text at spot.from spot.to spot.end k)
