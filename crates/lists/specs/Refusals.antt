-- THE ORDER OF REFUSALS: a list of rows, each a number and whether its condition applies. The number of the first row that applies is
-- given; 0 where none does.
use Rattle.std.specs.Prelude.{◌≡◌, List, [], ◌∷◌, ◌++◌, Bool, true, false, ◌&&◌, ◌||◌, cond, ℕ, min, eqb, leb, ltb}

infix 80 ◌when◌
pub data Refusal : Type 0 where
  ◌when◌ : ℕ → Bool → Refusal

unfoldable pub first : List Refusal → ℕ
first [] = 0
first (n when true ∷ l) = n
first (n when false ∷ l) = first l

-- a row of this number applies
pub data Applies : List Refusal → ℕ → Type 0 where
  here : {n : ℕ} {l : List Refusal} → Applies (n when true ∷ l) n
  later : {n : ℕ} {r : Refusal} {l : List Refusal} → Applies l n → Applies (r ∷ l) n

-- no row applies
pub data NoneApplies : List Refusal → Type 0 where
  none_left : NoneApplies []
  passed : {n : ℕ} {l : List Refusal} → NoneApplies l → NoneApplies (n when false ∷ l)

-- the row given applies, and no row before it does; or none applies, and 0 is given
pub data FirstOf : List Refusal → ℕ → Type 0 where
  none_first : {l : List Refusal} → NoneApplies l → FirstOf l 0
  this_first : (before : List Refusal) {n : ℕ} (rest : List Refusal) → NoneApplies before → {l : List Refusal} → l ≡ before
      ++ (n when true ∷ rest) → FirstOf l n

-- every number of a row is above 0, so that 0 says that none applies
unfoldable pub positive : List Refusal → Bool
positive [] = true
positive (n when b ∷ l) = ltb 0 n && positive l

-- the numbers rise down the list
unfoldable pub rising : ℕ → List Refusal → Bool
rising n [] = true
rising n (m when b ∷ l) = leb n m && rising m l

-- the same rows as in two lists: each applies where it applies in one of the two
pub data EitherOf : (l k either : List Refusal) → Type 0 where
  no_rows : EitherOf [] [] []
  row : {n : ℕ} {a b : Bool} {l k j : List Refusal} → EitherOf l k j → EitherOf (n when a ∷ l) (n when b ∷ k) (n when (a || b) ∷ j)

-- the smaller of two numbers of refusal; 0 is none
unfoldable pub sooner_refusal : ℕ → ℕ → ℕ
sooner_refusal a b = cond (eqb a 0) b (cond (eqb b 0) a (min a b))

unfoldable pub refusals : Unit {0}
unfolding first positive rising sooner_refusal
refusals = tt
