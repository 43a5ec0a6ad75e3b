-- What is known of a file behind 20; and of one with the body of an extension in it. The front before a refusal has a number.
use Rattle.std.specs.Prelude.{◌≡◌, List, true, ℕ, ◌+◌, ◌≤◌, length, Result, Ok, Err}
use Rattle.nifti.specs.File.{front_stands, refused_front}
use Rattle.nifti.specs.Header.{OrderKnown}
use Rattle.nifti.specs.declared.Order.{Order}
use Rattle.nifti.specs.declared.Front.{Front}
use Rattle.nifti.specs.declared.Refusal.{Refusal}
use Rattle.nifti.specs.declared.Refusal.TheVariants.{NoFront, NoMatrix, NoList, NoText}

-- ---- What code asks for.

-- a file whose header stands, and its order
pub record Standing (file : List ℕ) (o : Order) : Type 0 where
  pub told : OrderKnown file o
  pub stands : front_stands file ≡ true

-- and a part inside it
pub record Bodied (file : List ℕ) (o : Order) (start size : ℕ) : Type 0 where
  pub told : OrderKnown file o
  pub inside : start + size ≤ length file

-- ---- What code answers.

abbrev pub number_of : Refusal → ℕ
number_of NoFront = 20
number_of NoMatrix = 21
number_of NoList = 22
number_of NoText = 23

abbrev pub front_said : Result Front Refusal → Front
front_said (Ok f) = f
front_said (Err r) = refused_front (number_of r)
