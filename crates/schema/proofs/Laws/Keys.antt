-- Attributes by their names: every one is listed. The walk over keys is that of nodes.
use Rattle.std.specs.Prelude.{◌≡◌, refl, List, ℕ, zero, suc, ◌+◌, ◌-◌, ◌≤◌, ◌<◌, Bool, true, false, not, ◌&&◌, ◌||◌, ltb, length, drop, Option, Some, None}
use Rattle.std.proofs.Common.{ap, ◌∙◌, rules}
use Rattle.std.proofs.Math.Path.{sym}
use Prim.Native.String.{String}
use borrow.Author.Tests.{not-true, not-false}
use Rattle.lists.specs.Lists.{all, any, count_up}
use Rattle.grammar.specs.Document.{Attribute}
use Rattle.grammar.specs.Look.{Word, is, attributes_of}
use Rattle.grammar.specs.Parser.{value_at, ends, closing}
use Rattle.steps.specs.Step.{stepped}
use Rattle.steps.specs.Noted.{part}
use Rattle.steps.specs.Keys as tokens-keys
use Rattle.steps.proofs.Laws.Keys as laws-of-tokens-keys
use Rattle.steps.specs.Keys.{keyed}
use Rattle.steps.specs.declared.attributes.Key as token-key
use Rattle.nodes.specs.Places.{Stands, the}
use Rattle.nodes.specs.Attributes.{Key, keys_at_lem, keys}
use Rattle.nodes.proofs.Laws.AttributesSteps.{Hold, no_key, one_key, keys_law}
use Rattle.nodes.specs.Scan.{tag_from}
use Rattle.nodes.proofs.Laws.Attributes.{keys_end, keys_none, keys_more, keys_stuck, keys_go, keys_tag, keys_fall}
use Rattle.schema.specs.Schema.{Form, AttributeRow, row_name, is_named}
use Rattle.schema.specs.Words.{number_in}
use Rattle.schema.specs.Table.{word_at, entry_word, form_at, attribute_by, attribute_at, attribute_cell}
use Rattle.schema.specs.Parts.{named_only, among_words, name_listed, key_listed}
use Rattle.schema.specs.Walked.{AllListed}
use Rattle.schema.proofs.Laws.Searches.{among_found}

-- A NAME AMONG THOSE OF ATTRIBUTES
pub by_name : (n : ℕ) (s : String) (f : Form) → row_name (attribute_by n s f) ≡ s
unfolding attribute_by row_name
by_name zero s f = refl
by_name (suc n) s f = refl

row_name_lem : (t l : List ℕ) (i : ℕ) → row_name (attribute_at t l i) ≡ entry_word t l 1 3 i
unfolding attribute_at entry_word
row_name_lem t l i = by_name (attribute_cell t i 2) (word_at t l (attribute_cell t i 0)) (form_at t l (attribute_cell t i 1))

named_among : (t l : List ℕ) (x : Word) (n i : ℕ)
    → name_listed (count_up (attribute_at t l) i n) x ≡ among_words (count_up (entry_word t l 1 3) i n) x
unfolding name_listed among_words any count_up
named_among t l x zero i = refl
named_among t l x (suc n) i = rw (row_name_lem t l i) (ap (λ b. is (entry_word t l 1 3 i) x || b) (named_among t l x n (suc i)))

pub name_listed_lem : (t l : List ℕ) (x : Word) (from to : ℕ) {p : ℕ}
    → p ≡ from + number_in (count_up (entry_word t l 1 3) from (to - from)) x
    → ltb p to ≡ name_listed (count_up (attribute_at t l) from (to - from)) x
name_listed_lem t l x from to e = among_found (entry_word t l 1 3) x from to e ∙ sym (named_among t l x (to - from) from)

pub ruleset naming = (name_listed_lem, rules)

-- EVERY KEY IS LISTED
pub record Listing (r : List AttributeRow) (text : List ℕ) (at i : ℕ) : Type 0 where
  pub same_all : all (key_listed r) (keys_at_lem (length text) (drop at text)) ≡ all (key_listed r) (keys_at_lem (length text) (drop i text))
  pub same_tag : tag_from 0 (drop at text) ≡ tag_from 0 (drop i text)

pub listing_start : (r : List AttributeRow) (text : List ℕ) (at : ℕ) → Listing r text at at
listing_start r text at = record { same_all = refl; same_tag = refl }

module _ {r : List AttributeRow} {text : List ℕ} {at i : ℕ} (go : Listing r text at i) where
  stops : {right : Bool} → all (key_listed r) (keys_at_lem (length text) (drop i text)) ≡ right → AllListed r text at right i
  stops e = record { right_is = sym (go.same_all ∙ e); same_tag = go.same_tag }

  module _ {b : Bool} (eb : b ≡ ends closing (drop i text)) where
    pub listing_end : not b ≡ false → AllListed r text at true i
    unfolding all
    listing_end e = stops (rw (keys_end text i eb (not-false b e)))

    module _ (goes : not b ≡ true) {k : Option token-key.Key} (ek : k ≡ keyed (length text) (tokens-keys.key_at (drop i text))) where
      on : b ≡ false
      on = not-true b goes

      pub listing_none : k ≡ None → AllListed r text at true i
      unfolding all
      listing_none z = stops (rw (keys_none text i eb on ek z))

      module _ {spot : token-key.Key} (z : k ≡ Some spot) {o : Bool} (eo : o ≡ name_listed r (part spot.from spot.to text)) where
        pub listing_other : not o ≡ true → AllListed r text at false i
        unfolding all key_listed
        listing_other h = stops (rw (keys_more text i eb on ek z, sym eo ∙ not-true o h))

        module _ (h : not o ≡ false) {x : Option ℕ} (ex : x ≡ stepped (length text) (value_at (drop spot.end text))) where
          pub listing_stuck : x ≡ None → AllListed r text at true i
          unfolding all key_listed
          listing_stuck w = stops (rw (keys_stuck text i eb on ek z ex w, sym eo ∙ not-false o h))

          pub listing_on : {j : ℕ} → x ≡ Some j → Listing r text at j
          unfolding all key_listed
          listing_on w = record {
            same_all = go.same_all ∙ rw (keys_go text i eb on ek z ex w, sym eo ∙ not-false o h);
            same_tag = go.same_tag ∙ keys_tag text i eb on ek z ex w;
          }

pub listing_less : (text : List ℕ) (i : ℕ) {b : Bool} → b ≡ ends closing (drop i text) → not b ≡ true → {k : Option token-key.Key}
    → k ≡ keyed (length text) (tokens-keys.key_at (drop i text))
    → {spot : token-key.Key} → k ≡ Some spot → {x : Option ℕ} → x ≡ stepped (length text) (value_at (drop spot.end text)) → {j : ℕ}
    → x ≡ Some j → length text - j < length text - i
listing_less text i {b} eb on ek z ex w = keys_fall text i eb (not-true b on) ek z ex w

pub key_ahead : (text : List ℕ) (i : ℕ) {k : Option token-key.Key} → k ≡ keyed (length text) (tokens-keys.key_at (drop i text))
    → {spot : token-key.Key} → k ≡ Some spot → spot.from ≤ spot.to
key_ahead text i ek z = let f = laws-of-tokens-keys.key_found text i ek z in f.name.ahead f.gap.inside

pub key_inside : (text : List ℕ) (i : ℕ) {k : Option token-key.Key} → k ≡ keyed (length text) (tokens-keys.key_at (drop i text))
    → {spot : token-key.Key} → k ≡ Some spot → spot.to ≤ length text
key_inside text i ek z = (laws-of-tokens-keys.key_found text i ek z).name.inside

pub ruleset listing = (
  listing_start,
  listing_end,
  listing_none,
  listing_other,
  listing_stuck,
  listing_on,
  listing_less,
  key_ahead,
  key_inside,
  rules,
)

-- THE LAW
held_listed : (r : List AttributeRow) {text : List ℕ} {ks : List Key} {l : List Attribute} → Hold text ks l
    → all (key_listed r) ks ≡ named_only r l
unfolding named_only all key_listed name_listed is_named
held_listed r no_key = refl
held_listed r (one_key {n} {v} {x} {ks} {l} k h) = ap (λ b. any (λ row. is (row_name row) n) r && b) (held_listed r h)

pub listed_law : (r : List AttributeRow) {text : List ℕ} {at : ℕ} → Stands text at
    → all (key_listed r) (keys text at) ≡ named_only r (attributes_of (the text at))
listed_law r st = held_listed r (keys_law st)
