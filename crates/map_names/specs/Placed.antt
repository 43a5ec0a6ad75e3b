-- THE PROMISE on the place of a map name: the number is that of the map name;
-- where it is 0, the part is what stands at the place of the way to the name.
use Rattle.std.specs.Prelude.{◌≡◌, List, ℕ, ◌+◌, ◌≤◌, length, take, drop}
use Rattle.cifti.specs.Names.{NameNumber, NamePart}
use Rattle.inside.specs.Way.{WayStep, WayPlace}
use Rattle.map_names.specs.Way.{name_way}
use Rattle.map_names.specs.declared.NamePlace.{NamePlace}

-- a place by what its number is, what its part is and the way to it: the part stands in the text at the start;
-- where the number is 0, it stands at the place of the way; else there is nothing
pub record PlacedBy (Number : ℕ → Type 0) (Part : List ℕ → Type 0) (way : List WayStep) (text : List ℕ) (r : NamePlace) : Type 0 where
  pub numbered : Number r.number
  pub inside : r.start + r.length ≤ length text
  pub named : Part (take r.length (drop r.start text))
  pub placed : r.number ≡ 0 → WayPlace way (take r.length (drop r.start text)) text r.start
  pub refused : (r.number ≡ 0 → ⊥) → (r.start ≡ 0) × (r.length ≡ 0)

abbrev pub NamePlaced : (text lengths : List ℕ) (dimension index : ℕ) (r : NamePlace) → Type 0
NamePlaced text lengths dimension index r =
    PlacedBy (NameNumber text lengths dimension index) (NamePart text lengths dimension index) (name_way dimension index) text r
