-- WHAT IS KNOWN OF A CALL behind 9, 24, 18, 30 and 31.
use Rattle.std.specs.Prelude.{◌≡◌, List, ℕ}
use Rattle.lists.specs.Refusals.{first}
use Rattle.nodes.specs.Places.{the}
use Rattle.gifti_opening.specs.Passed.{FileHere}
use Rattle.gifti_reader.specs.Number.{rows_of_arrays}

-- none of them applies
pub record ArraysPassed (text : List ℕ) (root array : ℕ) : Type 0 where
  pub file : FileHere text root
  pub none : 0 ≡ first (rows_of_arrays array (the text root))
