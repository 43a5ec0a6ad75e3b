-- THE RECORDS OF ONE LIST, written one after the other: the n-th of the list stands n places behind the first.
use Rattle.std.specs.Prelude.{List, [], ◌∷◌, Bool, true, false, ℕ, ◌+◌, ◌≤◌, length}
use Rattle.lists.specs.Lists.{each}
use Rattle.records.specs.Record.{Location, on_surface, record_of, Fits}
use Rattle.cifti.specs.Maps.{threes, voxel_at}
use Rattle.models.specs.Numbers.{values_at, InForm}
use Rattle.models.specs.declared.listing.Triple.TheVariants as triple

-- the locations that the numbers list in a structure: voxels by three numbers, or vertices by one
unfoldable pub located : (inVoxels : Bool) (structure : ℕ) → List ℕ → List Location
located true s l = each (voxel_at s) (threes l)
located false s l = each (on_surface s) l

unfoldable pub records_listed : (inVoxels : Bool) (structure : ℕ) → List ℕ → List ℕ
records_listed v s l = each record_of (located v s l)

pub data AllFit : List Location → Type 0 where
  none_to_fit : AllFit []
  one_fits : {a : Location} {l : List Location} → Fits a → AllFit l → AllFit (a ∷ l)

-- the list from a place of the text on can be written from `at` on
pub record ListWritable (inVoxels : Bool) (structure : ℕ) (text : List ℕ) (start at : ℕ) (out : List ℕ) : Type 0 where
  pub form : InForm text start
  pub fits : AllFit (located inVoxels structure (values_at text start))
  pub room : at + length (records_listed inVoxels structure (values_at text start)) ≤ length out
