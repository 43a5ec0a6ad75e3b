-- Texts at an edge of the rows and of the names: each holds a limit, a count or an index that no law does.
use Rattle.std.specs.Prelude.{◌≡◌, refl, [], ◌∷◌, true}
use Rattle.cifti.proofs.Laws.Theorems.{number_of, name_number_of, name_part_of}
use Rattle.cifti.proofs.Tests.Cases.{cases, three}
use Rattle.cifti.proofs.Tests.Pieces.{root, surface, voxels, brain1, gives, names}

-- a Matrix stands once
pub matrix_missing : gives (1 ∷ 1 ∷ []) 6 (root "2" [] ∷ []) ≡ true
unfolding cases
matrix_missing = refl

-- voxels need a Volume
pub volume_missing : gives (1 ∷ 1 ∷ []) 6 (brain1 (voxels "0" "1" "BRAIN_STEM" "2 3 5") ∷ []) ≡ true
unfolding cases
volume_missing = refl

-- an offset past its limit
pub offset_past : gives (1 ∷ 1 ∷ []) 7 (brain1 (surface "1048577" "1" "CORTEX" "5" "4") ∷ []) ≡ true
unfolding cases
offset_past = refl

-- room for the records, and none to work in
pub work_short : number_of (brain1 (surface "0" "1" "CORTEX" "5" "4")) (1 ∷ 1 ∷ []) three [] ≡ 13
unfolding cases
work_short = refl

-- the second name is the second one
pub second_name : (name_number_of names (2 ∷ 2 ∷ 1 ∷ []) 1 1 ≡ 0) × (name_part_of names (2 ∷ 2 ∷ 1 ∷ []) 1 1 ≡ [])
unfolding cases
second_name = (refl, refl)
