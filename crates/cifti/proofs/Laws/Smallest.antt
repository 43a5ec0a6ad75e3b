-- THE SMALLEST THAT APPLIES IS GIVEN: the refusal is the first row that applies, and the numbers of the read rise down the rows.
use Rattle.std.specs.Prelude.{◌≡◌, List, ℕ, Option}
use Rattle.std.proofs.Math.Path.{refl}
use Rattle.lists.specs.Refusals.{rising, positive, NoneApplies}
use Rattle.lists.proofs.Laws.Refusals.{Given, first_given, given_none}
use Rattle.grammar.specs.Document.{Element}
use Rattle.cifti.specs.Conditions.{conditions, conditions_of_header, conditions_of_table, conditions_of_labels, refusal}

module _ (lengths : List ℕ) (size room work : ℕ) (d : Option Element) where
  pub refusal_smallest : Given (conditions lengths size room work d) (refusal lengths size room work d)
  unfolding refusal conditions conditions_of_header conditions_of_table conditions_of_labels rising
  refusal_smallest = first_given 0 (conditions lengths size room work d) refl

  -- number 0: no condition applies
  pub refusal_none : refusal lengths size room work d ≡ 0 → NoneApplies (conditions lengths size room work d)
  unfolding refusal conditions conditions_of_header conditions_of_table conditions_of_labels positive
  refusal_none h = given_none (conditions lengths size room work d) refl h
