-- A BRAIN MAP TO WHICH 10, 11 AND 12 DO NOT APPLY: its models can be placed, and placed they are its stretch.
use Rattle.std.specs.Prelude.{◌≡◌, List, [], false, ℕ, ◌+◌, ◌≤◌}
use Rattle.lists.specs.Lists.{any, two_of}
use Rattle.nodes.specs.Places.{the}
use Rattle.cifti.specs.Maps.{Map, map_of, length_of}
use Rattle.cifti.specs.Conditions.{alike, uneven, beyond}
use Rattle.models.specs.Brain.{BrainAt}
use Rattle.models.specs.Gathered.{Gathered}
use Rattle.models.specs.declared.gather.Models.{Models}

abbrev pub map_at : List ℕ → ℕ → Map
map_at text map = map_of (the text map)

-- the map passes conditions 10, 11 and 12, its models are gathered, and it has room from `start` on
pub record MapReady (text : List ℕ) (map : ℕ) (m : Models) (room start : ℕ) : Type 0 where
  pub brain : BrainAt text map
  pub gathered : Gathered text map m
  pub apart : two_of alike (map_at text map).models ≡ false
  pub even : uneven (map_at text map) ≡ false
  pub in_volume_lem : any (λ b. beyond (map_at text map).volume b.listed) (map_at text map).models ≡ false
  pub enough : start + length_of (map_at text map) ≤ room
