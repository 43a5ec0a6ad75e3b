-- CONDITIONS 10 TO 14, 24 AND 25, where 1 to 9 do not apply.
use Rattle.std.specs.Prelude.{◌≡◌, List, [], ◌∷◌, ◌++◌, ℕ, length}
use Rattle.lists.specs.Refusals.{Refusal}
use Rattle.cifti.specs.Maps.{Map}
use Rattle.cifti.specs.Conditions as C
use Rattle.cifti.specs.Conditions.{◌when◌, room_short, location_twice, key_twice, labels_twice}
use Rattle.maps.specs.Ready.{Ready, maps_at}
use Rattle.maps.specs.declared.survey.Maps.{Maps}
use Rattle.models.specs.Judged.{model_rows, Judges}
use Rattle.models.specs.declared.judge.Judged.{Judged}
use Rattle.table.specs.Twice.{AllFine}

abbrev pub rules_after : (room work : ℕ) → List Map → List Refusal
rules_after room work l =
    13 when room_short room work l ∷ 14 when location_twice l ∷ 24 when key_twice l ∷ 25 when labels_twice l ∷ []

abbrev pub table_rules : (room work : ℕ) → List Map → List Refusal
table_rules room work l = model_rows l ++ rules_after room work l

unfoldable pub table_rule : (room work : ℕ) → List Map → ℕ
table_rule room work l = C.first (table_rules room work l)

-- the maps are ready, and judged by 10, 11 and 12
pub record Asked (text : List ℕ) (maps : Maps) (j : Judged) : Type 0 where
  pub ready : Ready text maps
  pub judges : Judges text maps j

-- 10 to 13 do not apply, and the maps are judged
pub record MapsFine (text : List ℕ) (maps : Maps) (j : Judged) (work : ℕ) : Type 0 where
  pub all_fine : AllFine text maps j work
  pub judges : Judges text maps j

pub record Later (text : List ℕ) (maps : Maps) (room : ℕ) (before : List ℕ) (answer : ℕ) (after : List ℕ) : Type 0 where
  pub told : answer ≡ table_rule room (length before) (maps_at text maps)
  pub long : length after ≡ length before
