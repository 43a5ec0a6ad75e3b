-- THE ORDER OF MODELS: documents that are the same but for the order of the BrainModel elements of their maps, each kept as it is.
-- Assumes nothing.
use Rattle.std.specs.Prelude.{◌≡◌, List, [], Bool, cond, ℕ}
use Rattle.lists.specs.Lists.{those}
use Rattle.lists.specs.Permuted.{Permuted}
use Rattle.grammar.specs.Bytes.{ascii}
use Rattle.grammar.specs.Document.{Attribute, Element, element, Contents, nothing, child, run}
use Rattle.grammar.specs.Look.{is, name_of, elements}

unfoldable pub is_brain_model : Element → Bool
is_brain_model e = is "BrainModel" (name_of e)

-- contents with each BrainModel left blank: where BrainModels stand, and what lies before, between and behind them
abbrev pub blank_model : Element
blank_model = element (ascii "BrainModel") [] nothing []

unfoldable pub models_blank : Contents → Contents
models_blank nothing = nothing
models_blank (child e c) = child (cond (is_brain_model e) blank_model e) (models_blank c)
models_blank (run w c) = run w (models_blank c)

-- the BrainModels in another order, each kept as it is, and all else in its place
pub record Resorted (c d : Contents) : Type 0 where
  pub stays : models_blank c ≡ models_blank d
  pub moved : Permuted (those is_brain_model (elements c)) (those is_brain_model (elements d))

-- one element with other contents, and so with other bytes between its tags
pub data ContentsChanged (R : Contents → Contents → Type 0) : Element → Element → Type 0 where
  contents_changed : {n : List ℕ} {l : List Attribute} {c d : Contents} {v w : List ℕ} → R c d
      → ContentsChanged R (element n l c v) (element n l d w)

-- contents in which some children are changed so, and all else is kept
pub data ChildrenChanged (R : Element → Element → Type 0) : Contents → Contents → Type 0 where
  nothing_more : ChildrenChanged R nothing nothing
  run_kept : {w : List ℕ} {c d : Contents} → ChildrenChanged R c d → ChildrenChanged R (run w c) (run w d)
  child_kept : {e : Element} {c d : Contents} → ChildrenChanged R c d → ChildrenChanged R (child e c) (child e d)
  child_changed : {e f : Element} {c d : Contents} → R e f → ChildrenChanged R c d → ChildrenChanged R (child e c) (child f d)

-- a map with its models in another order, and a matrix with some of its maps so
abbrev pub MapReordered : Element → Element → Type 0
MapReordered = ContentsChanged Resorted

abbrev pub MatrixReordered : Element → Element → Type 0
MatrixReordered = ContentsChanged (ChildrenChanged MapReordered)

-- THE RELATION: a document, and one with the models of some of its maps, which are children of children of the root, in another order
abbrev pub ModelsReordered : Element → Element → Type 0
ModelsReordered = ContentsChanged (ChildrenChanged MatrixReordered)
