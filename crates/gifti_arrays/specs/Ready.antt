-- WHAT IS ASKED OF AN ARRAY, AND OF ALL, behind 2, 3, 4, 6, 29 and 7.
use Rattle.std.specs.Prelude.{◌≡◌, true, false, List, ℕ, eqb}
use Rattle.lists.specs.Lists.{two_of}
use Rattle.nodes.specs.Places.{Stands, the}
use Rattle.label_table.specs.Codes.{codes_at}
use Rattle.known_keys.specs.Order.{in_order}
use Rattle.gifti.specs.Arrays.{fills_dim0}
use Rattle.gifti.specs.Held.{GoodArray}
use Rattle.gifti_opening.specs.Passed.{ArraysHere}

pub record ArrayHere (text : List ℕ) (at : ℕ) : Type 0 where
  pub stands : Stands text at
  pub good : GoodArray (the text at)

-- an array that has as many keys as it is to have
pub record ArrayFull (text : List ℕ) (at : ℕ) : Type 0 where
  pub here : ArrayHere text at
  pub full : fills_dim0 (the text at) ≡ true

-- codes of keys in their order, against which the keys are held
pub record ArrayAsked (text : List ℕ) (at : ℕ) (codes : List ℕ) : Type 0 where
  pub here : ArrayHere text at
  pub in_order_so : in_order codes ≡ true

pub record ArraysAsked (text : List ℕ) (root : ℕ) (codes : List ℕ) : Type 0 where
  pub here : ArraysHere text root
  pub in_order_so : in_order codes ≡ true

-- a table of labels in which no key stands twice
pub record TableHere (text : List ℕ) (root table : ℕ) : Type 0 where
  pub arrays : ArraysHere text root
  pub once : two_of eqb (codes_at text table) ≡ false
