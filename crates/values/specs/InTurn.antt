-- The attributes of a tag, met one by one in the order of a row.
use Rattle.std.specs.Prelude.{◌≡◌, List, ◌∷◌, ◌++◌, ℕ, length, drop, Option}
use Rattle.nodes.specs.Places.{the, Stands}
use Rattle.nodes.specs.Attributes.{Key, key, keys_at_lem, keys, place}
use Rattle.nodes.specs.Scan.{tag_from, InTag}
use Rattle.lists.specs.Lists.{all}
use Rattle.grammar.specs.Bytes.{ascii}
use Rattle.grammar.specs.Look.{attributes_of}
use Rattle.schema.specs.Table.{word_at, attribute_cell, attributes_of_kind}
use Rattle.schema.specs.Parts.{attribute_fault, attributes_fault, key_listed}
use Rattle.schema.specs.Asked.{Known}

-- the attributes from a place of the text on
abbrev pub keys_from : List ℕ → ℕ → List Key
keys_from text i = keys_at_lem (length text) (drop i text)

-- from one place to another, over no attribute or over one, which has the name
pub data Over (text name : List ℕ) (from : ℕ) : ℕ → Type 0 where
  none_passed : Over text name from from
  one_passed : {value to : ℕ} → keys_from text from ≡ key name value ∷ keys_from text to
      → tag_from 0 (drop from text) ≡ tag_from 0 (drop to text) → Over text name from to

-- the attributes of the tag of the element at `at` go on at a place
pub record TagGoesOn (text : List ℕ) (at i : ℕ) : Type 0 where
  pub stands : Stands text at
  pub before : List Key
  pub parts : keys text at ≡ before ++ keys_from text i

-- where the attribute with the name stands, and a place to which the attributes were passed
pub record AttributePlaced (text : List ℕ) (at i : ℕ) (name : List ℕ) (found : Option ℕ) (to : ℕ) : Type 0 where
  pub there : found ≡ place text at name
  pub passed : Over text name i to

-- an attribute of a row is asked for at a place
pub record AskingAttribute (text : List ℕ) (at a i : ℕ) : Type 0 where
  pub known : Known text at a
  pub within : TagGoesOn text at i

-- its fault, and a place to which the attributes were passed
pub record AttributeAsked (t l text : List ℕ) (at a i fault to : ℕ) : Type 0 where
  pub right : fault ≡ attribute_fault t l a (the text at)
  pub passed : Over text (ascii (word_at t l (attribute_cell t a 0))) i to

-- where the attributes of the tag at `at` begin; if an element stands there, in its start tag
pub record Begins (text : List ℕ) (at i : ℕ) : Type 0 where
  pub all_keys : keys text at ≡ keys_from text i
  pub inside : Stands text at → InTag text at i

-- the fault of all attributes of a kind's row, and a place in the tag; those of the tag are all of the row if those from the place on are
pub record AttributesWalked (t l text : List ℕ) (at kind fault i : ℕ) : Type 0 where
  pub right : fault ≡ attributes_fault (attributes_of_kind t l kind) (attributes_of (the text at))
  pub named : all (key_listed (attributes_of_kind t l kind)) (keys text at) ≡ all (key_listed (attributes_of_kind t l kind)) (keys_from text i)
  pub inside : InTag text at i
