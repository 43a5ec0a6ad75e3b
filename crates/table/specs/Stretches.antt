-- ALL STRETCHES, map after map.
use Rattle.std.specs.Prelude.{List, [], ℕ, ◌≤◌}
use Rattle.lists.specs.Lists.{total}
use Rattle.cifti.specs.Maps.{brain_maps, length_of}
use Rattle.maps.specs.Ready.{Ready, maps_at}
use Rattle.maps.specs.declared.survey.Maps.{Maps}
use Rattle.models.specs.Fine.{Fine}
use Rattle.models.specs.Judged.{HeldAll}
use Rattle.models.specs.declared.judge.Judged.{Judged}

-- the maps pass conditions 10, 11 and 12, their models are held, and their stretches have room
pub record Fillable (text : List ℕ) (maps : Maps) (j : Judged) (room : ℕ) : Type 0 where
  pub ready : Ready text maps
  pub fine : Fine (maps_at text maps)
  pub held : HeldAll text maps j
  pub enough : total length_of (brain_maps (maps_at text maps)) ≤ room
