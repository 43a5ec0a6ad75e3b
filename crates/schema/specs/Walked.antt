-- What the walk over an element tells: its fault and, where it is not 6, where the element ends,
-- and whether the watched name stands below it. Before it, what is told of the element's own part.
use Rattle.std.specs.Prelude.{◌≡◌, List, Bool, true, false, ℕ, length, drop}
use Rattle.lists.specs.Lists.{all}
use Rattle.nodes.specs.Places.{the}
use Rattle.nodes.specs.Attributes.{keys_at_lem}
use Rattle.nodes.specs.Scan.{tag_from, InTag}
use Rattle.nodes.specs.ElementEnd.{Behind}
use Rattle.schema.specs.Schema.{AttributeRow}
use Rattle.schema.specs.Faults.{fault_of}
use Rattle.schema.specs.Parts.{key_listed, own_fault}
use Rattle.schema.specs.Tallied.{holding}
use Rattle.schema.specs.declared.Walked.{Walked}

-- whether all attributes from a place on are of the rows, and a place to which the start tag goes on
pub record AllListed (r : List AttributeRow) (text : List ℕ) (at : ℕ) (right : Bool) (to : ℕ) : Type 0 where
  pub right_is : right ≡ all (key_listed r) (keys_at_lem (length text) (drop at text))
  pub same_tag : tag_from 0 (drop at text) ≡ tag_from 0 (drop to text)

-- the fault of an element's own part, and a place in its start tag
pub record Owns (t l text : List ℕ) (at kind fault place : ℕ) : Type 0 where
  pub fault_is : fault ≡ own_fault t l kind (the text at)
  pub inside : InTag text at place

pub record Walks (t l text : List ℕ) (at kind : ℕ) (r : Walked) : Type 0 where
  pub fault_is : r.fault ≡ fault_of t l kind (the text at)
  pub ends : (r.fault ≡ 6 → ⊥) → Behind text at r.behind
  pub holds_is : (r.fault ≡ 6 → ⊥) → r.holds ≡ holding t l (the text at)

abbrev pub refused_walk : Walked
refused_walk = record { fault = 6; behind = 0; holds = false }

-- at the end of an element whose children stand as often as they should, or not
unfoldable pub finished_walk : Bool → ℕ → ℕ → Bool → Walked
finished_walk true worst behind holds = record { fault = worst; behind = behind; holds = holds }
finished_walk false worst behind holds = refused_walk
