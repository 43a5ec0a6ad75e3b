-- THE GATHERED MODELS, as lists: what the arrays hold is what the map's models are.
use Rattle.std.specs.Prelude.{List, ℕ, ◌<◌, get_or}
use Rattle.lists.specs.Lists.{tabulated}
use Rattle.nodes.specs.Places.{the}
use Rattle.cifti.specs.Maps.{Model, model_of}
use Rattle.models.specs.Brain.{BrainAt}
use Rattle.models.specs.Gathered.{HoldsAt, Sized, Gathered}
use Rattle.models.specs.declared.gather.Models.{Models}

-- what each entry holds
pub record Holding (text : List ℕ) (m : Models) : Type 0 where
  pub sized : Sized m
  pub holds : (i : ℕ) → i < m.count → HoldsAt text m i

pub record BrainHeld (text : List ℕ) (map : ℕ) (m : Models) : Type 0 where
  pub brain : BrainAt text map
  pub held : Gathered text map m

-- the i-th model, and all of them
unfoldable pub held_model : List ℕ → Models → ℕ → Model
held_model text m i = model_of (the text (get_or m.at i 0))

unfoldable pub models_at : List ℕ → Models → List Model
models_at text m = tabulated m.count (held_model text m)
