-- EVERY DIMENSION IS LISTED ONCE, and no other: the loop over the ten digits, and the loop over the maps.
use Rattle.std.specs.Prelude.{List, [], ℕ, ◌≤◌, ◌<◌, length}
use Rattle.nodes.specs.Places.{the}
use Rattle.cifti.specs.Rows.{matrix}
use Rattle.maps.specs.Good.{Good}
use Rattle.maps.specs.Survey.{MapsAre}
use Rattle.maps.specs.Ready.{Ready}
use Rattle.maps.specs.declared.survey.Maps.{Maps}

pub record Asking (text : List ℕ) (maps : Maps) (d : ℕ) : Type 0 where
  pub ready : Ready text maps
  pub digit : d < 10

-- ---- The ten digits.

pub record Surveyed (text : List ℕ) (m : ℕ) (maps : Maps) (lengths : List ℕ) : Type 0 where
  pub are : MapsAre text m maps
  pub good : Good matrix (the text m)
  pub few : length lengths ≤ 3
