-- THE MODELS OF A MAP, one after the other, each from its offset on.
use Rattle.std.specs.Prelude.{◌≡◌, List, [], ℕ, ◌+◌, ◌<◌, ◌≤◌, length, get_or}
use Rattle.lists.specs.Lists.{total}
use Rattle.nodes.specs.Places.{the}
use Rattle.cifti.specs.Maps.{Model, model_of, locations}
use Rattle.maps.specs.Fill.{filled}
use Rattle.maps.specs.Table.{model_records}
use Rattle.models.specs.Held.{Holding, models_at}
use Rattle.models.specs.declared.gather.Models.{Models}
use Rattle.table.specs.Listing.{AllFit}

-- the i-th of the models that are gathered
abbrev pub nth_model : List ℕ → Models → ℕ → Model
nth_model text m i = model_of (the text (get_or m.at i 0))

-- each can be written from its offset on, and together they count no more than there is room for
pub record Placing (text : List ℕ) (m : Models) (room start : ℕ) : Type 0 where
  pub holding : Holding text m
  pub fits : (i : ℕ) → i < m.count → AllFit (locations (nth_model text m i))
  pub place : (i : ℕ) → i < m.count → start + (nth_model text m i).offset + length (model_records (nth_model text m i)) ≤ room
  pub sum : total (λ b. b.count) (models_at text m) ≤ room

-- all are written: so many indices
pub record ModelsPlaced (text : List ℕ) (m : Models) (before : List ℕ) (start n : ℕ) (after : List ℕ) : Type 0 where
  pub written : after ≡ filled model_records start (models_at text m) before
  pub counted : n ≡ total (λ b. b.count) (models_at text m)
