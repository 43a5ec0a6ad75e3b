-- The walk over attributes, at a position of the text: one law for each way through the code.
use Rattle.std.specs.Prelude.{◌≡◌, refl, List, [], ◌∷◌, ℕ, ◌+◌, ◌-◌, ◌≤◌, ◌<◌, Bool, true, false, drop, Option, Some, None}
use Rattle.std.proofs.Math.Path.{ap}
use Rattle.std.proofs.Common.{sym, ◌∙◌, rules}
use native.Mathlib.Omega.{arith}
use Rattle.std.proofs.Math.ListN.{length, length-drop}
use Rattle.lists.proofs.Laws.Booleans.{clash}
use Rattle.grammar.specs.Read.{Read, fail, got, bind, byte}
use Rattle.grammar.proofs.Laws.Read.{ok_got}
use Rattle.grammar.specs.Parser.{name_at, gap_at, equals_at, value_at, ends, closing, same_bytes}
use Rattle.grammar.proofs.Laws.Sound.{attribute_sound}
use Rattle.steps.specs.Step.{stepped, Went}
use Rattle.steps.proofs.Laws.Step.{at_end, fell, went}
use Rattle.steps.proofs.Laws.Leaves.{name_tails, value_tails}
use Rattle.steps.specs.Noted.{part}
use Rattle.steps.specs.Keys as tokens-keys
use Rattle.steps.proofs.Laws.Keys as laws-of-tokens-keys
use Rattle.steps.specs.Keys.{keyed, Keyed}
use Rattle.steps.specs.declared.attributes.Key.{Key}
use Rattle.nodes.specs.Places.{pick}
use Rattle.nodes.specs.Attributes as node-keys
use Rattle.nodes.specs.Attributes.{key_bytes_lem, key, keys_at_lem, keys_by_lem, keys_then, keys, keys_in}
use Rattle.nodes.proofs.Laws.AttributesSteps.{keys_step, key_eats, value_keeps}
use Rattle.nodes.specs.Attributes.{place_in, place}
use Rattle.nodes.specs.Scan.{tag_from}
use Rattle.nodes.proofs.Laws.Names.{part_is}
use Rattle.nodes.proofs.Laws.ScanEnds.{tag_attribute}

-- KEYS, as the program finds them
fail_each : {A B C : Type 0} (m : Read A) (f : A → List ℕ → Read B) (g : A → List ℕ → Read C)
    → ((a : A) (r : List ℕ) → f a r ≡ fail → g a r ≡ fail) → bind m f ≡ fail → bind m g ≡ fail
unfolding bind
fail_each fail f g k e = refl
fail_each (got a r) f g k e = k a r e

no_pure : {A B : Type 0} {a : A} {b : B} {r : List ℕ} → got a r ≡ fail → got b r ≡ fail
no_pure e = clash (cc)

missed : (s : List ℕ) → tokens-keys.key_at s ≡ fail → key_bytes_lem s ≡ fail
unfolding tokens-keys.key_at key_bytes_lem
missed s e =
    fail_each (gap_at s) _ _ (λ _ r₁ e₁. fail_each (name_at r₁) _ _
    (λ n r₂ e₂. fail_each (equals_at r₂) _ _ (λ _ r₃ e₃. no_pure e₃) e₂) e₁) e

reads_key : (text : List ℕ) (i : ℕ) {from to end : ℕ} (k : Keyed text i from to end)
    → key_bytes_lem (drop i text) ≡ got k.name.value (drop end text)
unfolding key_bytes_lem bind
reads_key text i k = rw (k.gap.reads, k.name.reads, k.equals.reads)

module _ (text : List ℕ) (i : ℕ) {b : Bool} (eb : b ≡ ends closing (drop i text)) where
  pub keys_end : b ≡ true → keys_at_lem (length text) (drop i text) ≡ []
  keys_end e = keys_step (length text) (drop i text) ∙ rw (sym eb ∙ e)

  module _ (on : b ≡ false) {k : Option Key} (ek : k ≡ keyed (length text) (tokens-keys.key_at (drop i text))) where
    pub keys_none : k ≡ None → keys_at_lem (length text) (drop i text) ≡ []
    unfolding keys_by_lem
    keys_none z = let m : key_bytes_lem (drop i text) ≡ fail = missed (drop i text) (laws-of-tokens-keys.key_missed text i ek z) in
        keys_step (length text) (drop i text) ∙ rw (sym eb ∙ on, m)

    module _ {spot : Key} (z : k ≡ Some spot) where
      found : Keyed text i spot.from spot.to spot.end
      found = laws-of-tokens-keys.key_found text i ek z

      named : part spot.from spot.to text ≡ found.name.value
      named = part_is found.name found.gap.inside

      pub keys_more : keys_at_lem (length text) (drop i text) ≡ key (part spot.from spot.to text) spot.end
          ∷ keys_then (value_at (drop spot.end text)) (keys_at_lem (length text))
      unfolding keys_by_lem
      keys_more =
          let p : length text - length (drop spot.end text) ≡ spot.end = simp length-drop (omega (arith, found.equals.inside)) in
          keys_step (length text) (drop i text) ∙ rw (sym eb ∙ on, reads_key text i found, p, named)

      key_falls : length text - spot.end < length text - i
      key_falls =
          let h : length (drop spot.end text) < length (drop i text) = ok_got (rw (reads_key text i found) at (key_eats (drop i text))) in
          omega (arith, length-drop spot.end text, length-drop i text)

      module _ {x : Option ℕ} (ex : x ≡ stepped (length text) (value_at (drop spot.end text))) where
        pub keys_stuck : x ≡ None → keys_at_lem (length text) (drop i text) ≡ key (part spot.from spot.to text) spot.end ∷ []
        unfolding keys_then
        keys_stuck w = keys_more ∙ rw (fell (length text) (value_at (drop spot.end text)) (sym w ∙ ex))

        module _ {j : ℕ} (w : x ≡ Some j) where
          valued : Went value_at text spot.end j
          valued = went value_at text spot.end j (value_tails (drop spot.end text)) (sym w ∙ ex)

          pub keys_go : keys_at_lem (length text) (drop i text) ≡ key (part spot.from spot.to text) spot.end ∷ keys_at_lem (length text) (drop j text)
          unfolding keys_then
          keys_go = keys_more ∙ rw valued.reads

          -- the start tag goes on behind the attribute
          pub keys_tag : tag_from 0 (drop i text) ≡ tag_from 0 (drop j text)
          keys_tag =
              let n : tokens-keys.Named text i spot.from spot.to j = record { middle = spot.end; key = found; value = valued } in
              let h = ok_got (rw (laws-of-tokens-keys.named_reads_it text i spot.from spot.to j n) at (attribute_sound (drop i text))) in
              ap (tag_from 0) h.1 ∙ tag_attribute h.2 (drop j text)

          pub keys_fall : length text - j < length text - i
          keys_fall =
              let h : length (drop j text) ≤ length (drop spot.end text) = ok_got (rw valued.reads at (value_keeps (drop spot.end text))) in
              omega (arith, key_falls, length-drop j text, length-drop spot.end text)

-- A PLACE BY ITS NAME
pub record Placing (text word : List ℕ) (at i : ℕ) : Type 0 where
  same_place : place_in word (keys_at_lem (length text) (drop at text)) ≡ place_in word (keys_at_lem (length text) (drop i text))

pub placing_start : (text word : List ℕ) (at : ℕ) → Placing text word at at
placing_start text word at = record { same_place = refl }

none_in : (word : List ℕ) → place_in word [] ≡ None
unfolding place_in
none_in word = refl

one_in : (word n : List ℕ) (v : ℕ) (l : List node-keys.Key) → place_in word (key n v ∷ l) ≡ pick (same_bytes n word) (Some v) (place_in word l)
unfolding place_in
one_in word n v l = refl

module _ (text word : List ℕ) (at i : ℕ) (go : Placing text word at i) {b : Bool} (eb : b ≡ ends closing (drop i text)) where
  pub placing_end : b ≡ true → None ≡ place_in word (keys_at_lem (length text) (drop at text))
  placing_end e = sym (go.same_place ∙ rw (keys_end text i eb e) (none_in word))

  module _ (on : b ≡ false) {k : Option Key} (ek : k ≡ keyed (length text) (tokens-keys.key_at (drop i text))) where
    pub placing_none : k ≡ None → None ≡ place_in word (keys_at_lem (length text) (drop at text))
    placing_none z = sym (go.same_place ∙ rw (keys_none text i eb on ek z) (none_in word))

    module _ {spot : Key} (z : k ≡ Some spot) {t : Bool} (et : t ≡ same_bytes (part spot.from spot.to text) word) where
      pub placing_hit : t ≡ true → Some spot.end ≡ place_in word (keys_at_lem (length text) (drop at text))
      placing_hit h = sym (go.same_place ∙ rw (keys_more text i eb on ek z, one_in word, sym et ∙ h))

      module _ (miss : t ≡ false) {x : Option ℕ} (ex : x ≡ stepped (length text) (value_at (drop spot.end text))) where
        pub placing_stuck : x ≡ None → None ≡ place_in word (keys_at_lem (length text) (drop at text))
        placing_stuck w = sym (go.same_place ∙ rw (keys_stuck text i eb on ek z ex w, one_in word, sym et ∙ miss) (none_in word))

        pub placing_on : {j : ℕ} → x ≡ Some j → Placing text word at j
        placing_on w = record { same_place = go.same_place ∙ rw (keys_go text i eb on ek z ex w, one_in word, sym et ∙ miss) }

pub placing_less : (text : List ℕ) (i : ℕ) {b : Bool} → b ≡ ends closing (drop i text) → b ≡ false → {k : Option Key}
    → k ≡ keyed (length text) (tokens-keys.key_at (drop i text))
    → {spot : Key} → k ≡ Some spot → {x : Option ℕ} → x ≡ stepped (length text) (value_at (drop spot.end text)) → {j : ℕ}
    → x ≡ Some j → length text - j < length text - i
placing_less text i eb on ek z ex w = keys_fall text i eb on ek z ex w

pub key_ahead : (text : List ℕ) (i : ℕ) {k : Option Key} → k ≡ keyed (length text) (tokens-keys.key_at (drop i text)) → {spot : Key}
    → k ≡ Some spot → spot.from ≤ spot.to
key_ahead text i ek z = let f = laws-of-tokens-keys.key_found text i ek z in f.name.ahead f.gap.inside

pub key_inside : (text : List ℕ) (i : ℕ) {k : Option Key} → k ≡ keyed (length text) (tokens-keys.key_at (drop i text)) → {spot : Key}
    → k ≡ Some spot → spot.to ≤ length text
key_inside text i ek z = (laws-of-tokens-keys.key_found text i ek z).name.inside

pub ruleset placing = (
  placing_start,
  placing_end,
  placing_none,
  placing_hit,
  placing_stuck,
  placing_on,
  placing_less,
  key_ahead,
  key_inside,
  rules,
)

-- OF AN ELEMENT
module _ (text : List ℕ) (at : ℕ) where
  no_tag : length text ≤ at → keys text at ≡ []
  unfolding keys keys_in name_at bind byte
  no_tag h = let k : length text ≤ at + 1 = omega arith in rw (at_end text (at + 1) k)

  pub place_past : (word : List ℕ) → length text ≤ at → None ≡ place text at word
  unfolding place
  place_past word h = rw (no_tag h) (sym (none_in word))

  module _ {x : Option ℕ} (ex : x ≡ stepped (length text) (name_at (drop (at + 1) text))) where
    unnamed : x ≡ None → keys text at ≡ []
    unfolding keys keys_in
    unnamed w = rw (fell (length text) (name_at (drop (at + 1) text)) (sym w ∙ ex))

    pub place_unnamed : (word : List ℕ) → x ≡ None → None ≡ place text at word
    unfolding place
    place_unnamed word w = rw (unnamed w) (sym (none_in word))

    module _ {i : ℕ} (w : x ≡ Some i) where
      behind_name : keys text at ≡ keys_at_lem (length text) (drop i text)
      unfolding keys keys_in
      behind_name = rw (went name_at text (at + 1) i (name_tails (drop (at + 1) text)) (sym w ∙ ex)).reads

      pub place_there : (word : List ℕ) {r : Option ℕ} → r ≡ place_in word (keys_at_lem (length text) (drop i text)) → r ≡ place text at word
      unfolding place
      place_there word e = e ∙ ap (place_in word) (sym behind_name)

pub ruleset attributing = (place_past, place_unnamed, place_there, rules)
