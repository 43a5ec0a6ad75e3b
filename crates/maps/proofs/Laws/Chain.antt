-- Words for the ranges of models: `lists/specs/Ranges` has the laws.
use Rattle.std.specs.Prelude.{◌≡◌, List, ℕ, ◌<◌}
use Rattle.lists.specs.Lists.{count}
use Rattle.lists.proofs.Laws.Ranges as Ranges
pub use Rattle.lists.proofs.Laws.Ranges.{none_counts, one_counts}
use Rattle.cifti.specs.Maps.{Model, covers}
pub use Rattle.cifti.proofs.Laws.Cover.{covers_is, covers_yes}

-- every model counts one index at least
abbrev pub Counting : List Model → Type 0
Counting l = Ranges.Counting (λ (m : Model). m.count) l

-- every index below n lies in exactly one range
abbrev pub OnceBelow : List Model → ℕ → Type 0
OnceBelow l n = (i : ℕ) → i < n → count (covers i) l ≡ 1
