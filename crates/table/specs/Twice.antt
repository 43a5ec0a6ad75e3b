-- CONDITION 14 OF A MAP, by the keys of its stretch in the work space.
use Rattle.std.specs.Prelude.{◌≡◌, List, [], map, Bool, ℕ, ◌≤◌, eqb, length, take, replicate}
use Rattle.lists.specs.Lists.{greatest, two_of}
use Rattle.nodes.specs.Places.{the}
use Rattle.records.specs.Record.{key_of}
use Rattle.cifti.specs.Maps.{Map, map_of, length_of, brain_maps}
use Rattle.cifti.specs.Conditions.{repeats, location_twice}
use Rattle.maps.specs.Ready as M
use Rattle.maps.specs.Ready.{maps_at}
use Rattle.maps.specs.declared.survey.Maps.{Maps}
use Rattle.models.specs.Fine.{Fine}
use Rattle.models.specs.Judged.{HeldAll}
use Rattle.models.specs.declared.judge.Judged.{Judged}

-- ---- A key twice.

-- whether two of the first n records have one key is told, and the work space is zero
pub record KeyTwice (n : ℕ) (before : List ℕ) (answer : Bool) (after : List ℕ) : Type 0 where
  pub told : answer ≡ two_of eqb (map key_of (take n before))
  pub cleared : after ≡ replicate (length before) 0

-- condition 14 of the map is told, and the work space keeps its length
pub record ToldOne (text : List ℕ) (at : ℕ) (before : List ℕ) (answer : Bool) (after : List ℕ) : Type 0 where
  pub told : answer ≡ repeats (map_of (the text at)).models
  pub long : length after ≡ length before

-- ---- Map after map.

-- maps to which 10, 11 and 12 do not apply, and for which the work space is long enough
pub record Roomy (l : List Map) (work : ℕ) : Type 0 where
  pub fine : Fine l
  pub room : greatest length_of (brain_maps l) ≤ work

pub record AllFine (text : List ℕ) (maps : Maps) (j : Judged) (work : ℕ) : Type 0 where
  pub ready : M.Ready text maps
  pub fine : Roomy (maps_at text maps) work
  pub held : HeldAll text maps j

pub record ToldAll (text : List ℕ) (maps : Maps) (before : List ℕ) (answer : Bool) (after : List ℕ) : Type 0 where
  pub told : answer ≡ location_twice (maps_at text maps)
  pub long : length after ≡ length before
