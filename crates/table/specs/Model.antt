-- ONE MODEL: its list, written from a place on.
use Rattle.std.specs.Prelude.{◌≡◌, List, [], ℕ, ◌+◌, ◌-◌, ◌≤◌, length}
use Rattle.nodes.specs.Places.{the}
use Rattle.cifti.specs.Maps.{model_of, locations}
use Rattle.maps.specs.Table.{model_records}
use Rattle.models.specs.Kind.{ModelAt, type_and_structure}
use Rattle.table.specs.Listing.{AllFit}

-- the model at `m` is of this kind, and its records can be written from `at` on
pub record ModelFillable (text : List ℕ) (m kind : ℕ) (out : List ℕ) (at : ℕ) : Type 0 where
  pub model : ModelAt text m
  pub kind_is : kind ≡ type_and_structure (model_of (the text m))
  pub fits : AllFit (locations (model_of (the text m)))
  pub room : at + length (model_records (model_of (the text m))) ≤ length out
