-- THE PAPER'S DOCUMENT: a root that has a name, attributes in order (name, decoded value), and contents in order: elements, and runs of
-- decoded characters. An element of `Document` also keeps the bytes between its tags; `erased` drops them, and nothing else.
use Rattle.std.specs.Prelude.{◌≡◌, List, ℕ, Option, Some, None}
use Rattle.grammar.specs.Document.{Attribute, Element, element, Contents, nothing, child, run}
use Rattle.grammar.specs.Grammar.{Writes}
use Rattle.grammar.specs.Parser.{parse}

mutual
  pub data Node : Type 0 where
    node : (name : List ℕ) (attributes : List Attribute) (inside : Nodes) → Node

  pub data Nodes : Type 0 where
    none : Nodes
    inner : Node → Nodes → Nodes
    characters : List ℕ → Nodes → Nodes

unfoldable mutual
  pub erased : Element → Node
  erased (element n l c k) = node n l (erased_all c)

  pub erased_all : Contents → Nodes
  erased_all nothing = none
  erased_all (child e c) = inner (erased e) (erased_all c)
  erased_all (run w c) = characters w (erased_all c)

-- the bytes `s` may write the document `d`
pub record WritesDocument (d : Node) (s : List ℕ) : Type 0 where
  pub root : Element
  pub writes : Writes root s
  pub same : erased root ≡ d

unfoldable pub erased_in : Option Element → Option Node
erased_in None = None
erased_in (Some e) = Some (erased e)

-- the document that writes a text, if one does
unfoldable pub document_of : List ℕ → Option Node
document_of s = erased_in (parse s)

-- `unfolding erasing computing` lets a proof compute `document_of` at a text that is given
unfoldable pub erasing : List ℕ → Option Node
unfolding erased erased_in document_of
erasing s = document_of s
