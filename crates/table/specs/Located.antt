-- WHICH LOCATION THE FILE GIVES A MATRIX INDEX, and what it is for the records to hold it.
use Rattle.std.specs.Prelude.{◌≡◌, List, [], ◌∷◌, Bool, ℕ, suc, ◌+◌, ◌-◌, ◌<◌, eqb}
use Rattle.lists.specs.Lists.{any, those}
use Rattle.grammar.specs.Document.{Element}
use Rattle.grammar.specs.Grammar.{Writes}
use Rattle.records.specs.Record.{Location, location_of}
use Rattle.cifti.specs.Maps.{Model, Map, maps_of, covers, locations}
use Rattle.cifti.specs.declared.answer.Kind.TheVariants.{Brain}
use Rattle.cifti.specs.declared.answer.Dimension.{Dimension}
use Rattle.cifti.specs.declared.answer.Answer.{Answer}

-- entry i of a list, from 0: there is one, and it is this
pub data Entry {A : Type 0} : List A → ℕ → A → Type 0 where
  here : {a : A} {l : List A} → Entry (a ∷ l) 0 a
  further : {a b : A} {l : List A} {i : ℕ} → Entry l i a → Entry (b ∷ l) (suc i) a

-- the map lists the dimension
abbrev pub map_lists : (dimension : ℕ) → Map → Bool
map_lists d m = any (eqb d) m.dimensions

-- the file gives the index of the dimension this location
pub record FileGives (text : List ℕ) (dimension index : ℕ) (location : Location) : Type 0 where
  pub document : Element
  pub written : Writes document text
  -- exactly one map of the document lists the dimension
  pub map : Map
  pub one_map : those (map_lists dimension) (maps_of document) ≡ map ∷ []
  -- exactly one model of that map has the index in its range
  pub model : Model
  pub one_model : those (covers index) map.models ≡ model ∷ []
  -- the location stands in the list of that model, at the index less its offset
  pub listed : Entry (locations model) (index - model.offset) location

-- at this place of the records stands one that says the location that the file gives the index of the dimension
pub record Located (text records : List ℕ) (place dimension index : ℕ) : Type 0 where
  pub held : ℕ
  pub stands : Entry records place held
  pub given : FileGives text dimension index (location_of held)

-- the answer calls the dimension brain and longer than the index, and the record so many places behind its start as the index says the
-- location
pub record AnswerTells (answer : Answer) (records : List ℕ) (dimension index : ℕ) (location : Location) : Type 0 where
  pub told : Dimension
  pub is_told : Entry answer.dimensions dimension told
  pub brain : told.kind ≡ Brain
  pub below : index < told.length
  pub held : ℕ
  pub stands : Entry records (told.start.0 + index) held
  pub says : location_of held ≡ location
