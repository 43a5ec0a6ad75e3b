-- THE MODELS OF A MAP BY OFFSET, as entries of a short list; and what it is for a stretch of the records to list them.
use Rattle.std.specs.Prelude.{◌≡◌, List, [], ◌∷◌, Bool, true, false, cond, ℕ, leb, ltb, length, take, drop}
use Rattle.lists.specs.Lists.{those, each}
use Rattle.lists.specs.Refusals.{◌when◌, first}
use Rattle.grammar.specs.Document.{Element}
use Rattle.grammar.specs.Grammar.{Writes}
use Rattle.cifti.specs.Maps.{Listed, vertices, voxels, Model, Map, maps_of}
use Rattle.cifti.specs.declared.answer.Dimension.{Dimension}
use Rattle.cifti.specs.declared.answer.Answer.{Answer}
use Rattle.table.specs.Located.{Entry, map_lists}
use Rattle.shortlist.specs.Runs.{runs}
use Rattle.shortlist.specs.Making.{list_refusal}
use Rattle.shortlist.specs.declared.answer.Model as short

unfoldable pub of_voxels : Listed → Bool
of_voxels (vertices n l) = false
of_voxels (voxels l) = true

-- offset, count, type and structure of a model
abbrev pub entry_of : Model → short.Model
entry_of m = record { first = record { 0 = m.offset }; count = m.count; voxels = of_voxels m.listed; structure = m.structure }

-- one begins no later than the other
unfoldable pub no_later : Model → Model → Bool
no_later m n = leb m.offset n.offset

-- a model in its place among models by offset, and all models in theirs
unfoldable pub placed_by_offset : Model → List Model → List Model
placed_by_offset m [] = m ∷ []
placed_by_offset m (n ∷ l) = cond (no_later m n) (m ∷ n ∷ l) (n ∷ placed_by_offset m l)

unfoldable pub by_offset : List Model → List Model
by_offset [] = []
by_offset (m ∷ l) = placed_by_offset m (by_offset l)

-- the records of the stretch that the answer tells of a dimension
abbrev pub told_stretch : Dimension → (records : List ℕ) → List ℕ
told_stretch told records = take told.length (drop told.start.0 records)

-- the one map that lists the dimension: the runs of its stretch are its models by offset, and a list of them is refused, by 17, only where
-- it has fewer places than there are models
pub record ListsModels (text records : List ℕ) (dimension : ℕ) (told : Dimension) : Type 0 where
  pub document : Element
  pub written : Writes document text
  pub map : Map
  pub one_map : those (map_lists dimension) (maps_of document) ≡ map ∷ []
  pub listed : runs (told_stretch told records) ≡ each entry_of (by_offset map.models)
  pub made : (room : ℕ) → list_refusal (told_stretch told records) room ≡ first (17 when ltb room (length map.models) ∷ [])

-- the stretch of a dimension that the answer tells lists the models of the map
pub record MapListed (text records : List ℕ) (answer : Answer) (m : Map) : Type 0 where
  pub dimension : ℕ
  pub told : Dimension
  pub is_told : Entry answer.dimensions dimension told
  pub lists : ListsModels text records dimension told
  pub its_map : lists.map ≡ m
