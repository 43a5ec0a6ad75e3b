-- THE MAP NAME (index n: n-th NamedMap, from 0): it checks 1 to 9, then 18, and answers with the part of the text between the MapName
-- tags, undecoded.
use Rattle.std.specs.Prelude.{List, [], ◌∷◌, ◌++◌, Bool, ◌&&◌, not, ℕ, zero, suc, eqb, ltb, length, get_or, Option, Some, None}
use Rattle.lists.specs.Lists.{any, those, each, each_in}
use Rattle.grammar.specs.Document.{Element}
use Rattle.grammar.specs.Look.{Word, within_of, children}
use Rattle.cifti.specs.Maps.{Map, has_names, dimensions_of, map_elements}
use Rattle.cifti.specs.Conditions.{◌when◌, conditions_of_header, of_maps, first}
use Rattle.cifti.specs.Text.{Answers}

-- 18: no such dimension, it is neither scalars nor labels, or the index is not below its length
unfoldable pub holds_name : (index : ℕ) → Map → Bool
holds_name i m = has_names m.kind && ltb i m.counted

unfoldable pub no_name : (dimension index : ℕ) → List Map → Bool
no_name d i l = not (any (λ m. any (eqb d) m.dimensions && holds_name i m) l)

unfoldable pub name_refusal : (lengths : List ℕ) (size dimension index : ℕ) → Option Element → ℕ
name_refusal lengths size d i e = first (conditions_of_header lengths size e ++ (18 when of_maps (no_name d i) e ∷ []))

-- the names of the map that the dimension has, in order, each as it is written (`<MapName/>`: empty)
unfoldable pub names_on : (dimension : ℕ) → Element → List Word
names_on d e = each_in (λ m. each within_of (each_in (children "MapName") (children "NamedMap" m)))
    (those (λ m. any (eqb d) (dimensions_of m)) (map_elements e))

-- a refused answer's part is empty
unfoldable pub part_by : (number dimension index : ℕ) → Option Element → Word
part_by (suc n) d i e = []
part_by zero d i None = []
part_by zero d i (Some e) = get_or (names_on d e) i []

-- THE TWO PROMISES: the number, and the part.
pub record NameNumber (text lengths : List ℕ) (dimension index number : ℕ) : Type 0 where
  pub asked : Answers text (name_refusal lengths (length text) dimension index) number

unfoldable pub name_part : (lengths : List ℕ) (size dimension index : ℕ) → Option Element → Word
name_part lengths size d i e = part_by (name_refusal lengths size d i e) d i e

pub record NamePart (text lengths : List ℕ) (dimension index : ℕ) (part : List ℕ) : Type 0 where
  pub asked : Answers text (name_part lengths (length text) dimension index) part

unfoldable pub name_words : Unit {0}
unfolding holds_name no_name name_refusal names_on part_by name_part
name_words = tt
