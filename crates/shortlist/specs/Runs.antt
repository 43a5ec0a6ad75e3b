-- THE LIST OF RECORDS: their runs of one type and structure, in order. Each run is a model: its first index, its count, its type and its
-- structure. Assumes nothing.
use Rattle.std.specs.Prelude.{List, [], ◌∷◌, ◌++◌, Bool, cond, ℕ, ◌+◌, eqb, length, drop}
use Rattle.lists.specs.Lists.{two_of}
use Rattle.records.specs.Record.{is_voxel, structure_of}
use Rattle.shortlist.specs.declared.answer.Model.{Model}

-- the greatest number of a structure
abbrev pub most_structure : ℕ
most_structure = 31

-- type and structure as one number; `kind_parts` says that up to 31 no two have the same
unfoldable pub structure_kind : (voxels : Bool) (structure : ℕ) → ℕ
structure_kind v s = cond v 32 0 + s

-- of a record, and of a model
unfoldable pub kind_of : ℕ → ℕ
kind_of r = structure_kind (is_voxel r) (structure_of r)

unfoldable pub kind_in : Model → ℕ
kind_in m = structure_kind m.voxels m.structure

unfoldable pub of_one_kind : Model → Model → Bool
of_one_kind m n = eqb (kind_in m) (kind_in n)

-- a run of one record, and a run with one record more
abbrev pub alone : ℕ → ℕ → Model
alone at r = record { first = record { 0 = at }; count = 1; voxels = is_voxel r; structure = structure_of r }

abbrev pub longer : Model → Model
longer m = record { first = m.first; count = m.count + 1; voxels = m.voxels; structure = m.structure }

-- the run m and what comes behind it
unfoldable pub runs_on : Model → List ℕ → List Model
runs_on m [] = m ∷ []
runs_on m (r ∷ rs) =
    cond (eqb (kind_of r) (kind_in m)) (runs_on (longer m) rs) (m ∷ runs_on (alone (m.first.0 + m.count) r) rs)

-- the runs of records of which the first has this index
unfoldable pub runs_from : ℕ → List ℕ → List Model
runs_from at [] = []
runs_from at (r ∷ rs) = runs_on (alone at r) rs

unfoldable pub runs : List ℕ → List Model
runs rs = runs_from 0 rs

-- a type and structure comes back after another: two runs have the same
unfoldable pub comes_back : List ℕ → Bool
comes_back rs = two_of of_one_kind (runs rs)

-- models laid over the start of a list, what lies past left as it was
unfoldable pub laid : List Model → List Model → List Model
laid ms l = ms ++ drop (length ms) l

-- opens every definition above
unfoldable pub run_words : Unit {0}
unfolding structure_kind kind_of kind_in of_one_kind runs_on runs_from runs comes_back laid
run_words = tt
