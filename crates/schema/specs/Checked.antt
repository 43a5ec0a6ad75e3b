-- THE PROMISE of the walker, for any table: 3 where the text is no document; else 6 where its root is not everywhere of the shape
-- that the rows say, else 7 where not everywhere of their numbers, else 0. Where it is not 3, the root stands at `root`.
use Rattle.std.specs.Prelude.{◌≡◌, List, ℕ, ◌<◌, Some}
use Rattle.grammar.specs.Document.{Element}
use Rattle.grammar.specs.Grammar.{Writes}
use Rattle.nodes.specs.Places.{Stands, the}
use Rattle.nodes.specs.Root.{root}
use Rattle.schema.specs.Faults.{fault_of}
use Rattle.schema.specs.declared.Checked.{Checked}

pub record ChecksDocument (t l : List ℕ) (k : ℕ) (text : List ℕ) (r : Checked) (e : Element) : Type 0 where
  pub number_is : r.number ≡ fault_of t l k e
  pub placed : root text ≡ Some r.root
  pub stands : Stands text r.root
  pub root_is : the text r.root ≡ e

pub record Checks (t l : List ℕ) (k : ℕ) (text : List ℕ) (r : Checked) : Type 0 where
  pub none : ((e : Element) → Writes e text → ⊥) → (r.number ≡ 3) × (r.root ≡ 0)
  pub some_one : (e : Element) → Writes e text → ChecksDocument t l k text r e

pub record ChecksRoot (t l : List ℕ) (k : ℕ) (text : List ℕ) (r : Checked) : Type 0 where
  pub judges : (e : Element) → Writes e text → ChecksDocument t l k text r e

pub record DocumentKnown (text : List ℕ) (k : ℕ) : Type 0 where
  pub document : Element
  pub writes : Writes document text
  pub known : k < 4294967296
