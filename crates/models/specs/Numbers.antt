-- THE NUMBERS OF A LIST, one after the other from a place of the text on; voxels three at a time.
use Rattle.std.specs.Prelude.{◌≡◌, List, [], ◌∷◌, true, ℕ, ◌<◌, length}
use Rattle.lists.specs.Lists.{all}
use Rattle.nodes.specs.Texts.{says_at, left}
use Rattle.numbers.specs.Numbers.{digits, words, values}
use Rattle.models.specs.declared.listing.Triple.{Triple}
use Rattle.models.specs.declared.listing.Triple.TheVariants as triple

-- the numbers ahead
unfoldable pub values_at : List ℕ → ℕ → List ℕ
values_at text i = values (says_at text i)

-- every word ahead is one to seven digits
pub record InForm (text : List ℕ) (i : ℕ) : Type 0 where
  pub all_digits : all (digits 1 7) (words (says_at text i)) ≡ true

-- one number is passed
pub record Passes (text : List ℕ) (i v j : ℕ) : Type 0 where
  pub splits : values_at text i ≡ v ∷ values_at text j
  pub form : InForm text j
  pub ahead : left text j < left text i

-- ---- Three at a time.

pub record Passes3 (text : List ℕ) (at i j k behind : ℕ) : Type 0 where
  pub splits : values_at text at ≡ i ∷ j ∷ k ∷ values_at text behind
  pub form : InForm text behind
  pub ahead : left text behind < left text at

pub record CutShort (l : List ℕ) : Type 0 where
  pub some : 0 < length l
  pub few : length l < 3

pub data Threes (text : List ℕ) (at : ℕ) : Triple → Type 0 where
  voxel_ahead : {i j k behind : ℕ} → Passes3 text at i j k behind → Threes text at (triple.Voxel i j k behind)
  none_ahead : values_at text at ≡ [] → Threes text at triple.End
  cut_ahead : CutShort (values_at text at) → Threes text at triple.Cut

-- what a reader of voxels answers where the numbers are in form
pub record NextVoxel (text : List ℕ) (at : ℕ) (r : Triple) : Type 0 where
  pub told : InForm text at → Threes text at r
