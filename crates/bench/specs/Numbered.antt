-- The value of an answer, alone. Assumes nothing.
use Rattle.std.specs.Prelude.{◌≡◌, ℕ, List}
use Rattle.records.specs.Sheet.{Packs, Unpacks}
use Rattle.records.specs.declared.outcome.Outcome.{Outcome}

pub record PacksBytes (rs before : List ℕ) (r : ℕ) (after : List ℕ) : Type 0 where
  pub answer : Outcome
  pub value : r ≡ answer.value
  pub packs : Packs rs before answer after

pub record UnpacksRecords (s before : List ℕ) (r : ℕ) (after : List ℕ) : Type 0 where
  pub answer : Outcome
  pub value : r ≡ answer.value
  pub unpacks : Unpacks s before answer after
