-- THE PROMISES ON A FILE: its front is refused, and so all is; or what is promised of the read holds of its part and its lengths.
use Rattle.std.specs.Prelude.{◌≡◌, List, [], cond, ℕ, ◌+◌, eqb, length, take, drop, replicate}
use Rattle.nifti.specs.File.{Fronts, part_of}
use Rattle.nifti.specs.declared.Front.{Front}
use Rattle.cifti.specs.Answer.{Reads, refused_with}
use Rattle.cifti.specs.declared.answer.Answer.{Answer}
use Rattle.map_names.specs.Placed.{NamePlaced}
use Rattle.map_names.specs.declared.NamePlace.{NamePlace}

-- ---- The lengths of the header as the read is given them: in the header's order, dim[5] as the row.

unfoldable pub handed_on : Front → List ℕ
handed_on f = f.lengths

unfoldable pub given_lengths : Front → List ℕ
given_lengths f = take f.count (handed_on f)

-- ---- THE PROMISE OF THE READ: file, records and work space lent; the answer; records and work space after.

pub data ReadsFile (file records work : List ℕ) (answer : Answer) (after workAfter : List ℕ) : Type 0 where
  front_refused : {f : Front} → Fronts file f → (f.number ≡ 0 → ⊥) → answer ≡ refused_with f.number → after ≡ records
      → workAfter ≡ replicate (length work) 0 → ReadsFile file records work answer after workAfter
  front_read : {f : Front} → Fronts file f → f.number ≡ 0 → Reads (part_of file f) (given_lengths f) records work answer after workAfter
      → ReadsFile file records work answer after workAfter

-- ---- THE PROMISES OF A MAP'S NAME: a name is told by its place in the file.

unfoldable pub moved_by : (from : ℕ) → NamePlace → NamePlace
moved_by from p = record { number = p.number; start = cond (eqb p.number 0) (from + p.start) p.start; length = p.length }

pub data FilePlaced (file : List ℕ) (dimension index : ℕ) (r : NamePlace) : Type 0 where
  name_refused : {f : Front} → Fronts file f → (f.number ≡ 0 → ⊥) → r ≡ record { number = f.number; start = 0; length = 0 }
      → FilePlaced file dimension index r
  name_placed : {f : Front} {p : NamePlace} → Fronts file f → f.number ≡ 0 → NamePlaced (part_of file f) (given_lengths f) dimension index p
      → r ≡ moved_by f.start p → FilePlaced file dimension index r

pub record FileNumber (file : List ℕ) (dimension index number : ℕ) : Type 0 where
  pub place : NamePlace
  pub placed : FilePlaced file dimension index place
  pub is : number ≡ place.number

pub record FileName (file : List ℕ) (dimension index : ℕ) (name : List ℕ) : Type 0 where
  pub place : NamePlace
  pub placed : FilePlaced file dimension index place
  pub is : name ≡ take place.length (drop place.start file)
