-- What is known of a file of 544 bytes or more: its order; a place among its lengths; the lengths, or the refusal; the answer where
-- nothing is refused.
use Rattle.std.specs.Prelude.{◌≡◌, List, [], ◌∷◌, ℕ, ◌≤◌, ◌<◌, length, take, drop, if◌then◌else◌, Result, Ok, Err}
use Rattle.nifti.specs.Extensions.{without_zeros}
use Rattle.nifti.specs.File.{order_of, dims_stand, length_count, length_at, front_with}
use Rattle.nifti.specs.declared.Order.{Order}
use Rattle.nifti.specs.declared.Front.{Front}
use Rattle.nifti.specs.declared.Refusal.{Refusal}
use Rattle.nifti.specs.declared.Refusal.TheVariants.{NoMatrix}

-- a file that is long enough, and its order
pub record OrderKnown (file : List ℕ) (o : Order) : Type 0 where
  pub long : 544 ≤ length file
  pub is : o ≡ order_of file

-- and a place among the lengths; a number of lengths; a place, and how many lengths there are
pub record LengthAsked (file : List ℕ) (o : Order) (i : ℕ) : Type 0 where
  pub told : OrderKnown file o
  pub small : i < 3

pub record FewLengths (file : List ℕ) (o : Order) (count : ℕ) : Type 0 where
  pub told : OrderKnown file o
  pub few : count ≤ 3

pub record Looked (file : List ℕ) (o : Order) (count i : ℕ) : Type 0 where
  pub told : OrderKnown file o
  pub counted : count ≡ length_count file
  pub small : i < 3

-- the three lengths, 0 where there is none; or the refusal
unfoldable pub lengths_in : List ℕ → Result (List ℕ) Refusal
lengths_in file = if dims_stand file then Ok (length_at file 0 ∷ length_at file 1 ∷ length_at file 2 ∷ []) else Err NoMatrix

-- the answer of a file that is not refused, by the place of the body
unfoldable pub front_accepted : List ℕ → (start size : ℕ) → Front
front_accepted file start size =
    front_with 0 (length_count file) (length_at file 0) (length_at file 1) (length_at file 2) start
    (length (without_zeros (take size (drop start file))))
