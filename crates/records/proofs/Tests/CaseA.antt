-- P2 of the morning card: the sheet of Case A, in either layout. Assumes nothing.
use Rattle.std.specs.Prelude.{◌≡◌, refl, List, [], ◌∷◌, map, ℕ}
use Rattle.records.specs.Width.{five, seven}
use Rattle.records.specs.Record.{Location, on_surface, in_volume, record_of, widened, record_words}
use Rattle.records.specs.Bytes.{byte_words}
use Rattle.records.specs.Sheet.{head_of, sheet_of, sheet_from, count_of, words_in}

-- index 0 and 1: vertices 4 and 1 of CORTEX_RIGHT; index 2: voxel 2 3 5 of BRAIN_STEM
pub case_a : List Location
case_a = on_surface 18 4 ∷ on_surface 18 1 ∷ in_volume 6 2 3 5 ∷ []

abbrev pub sheet_of_five : List ℕ
sheet_of_five = 0x05 ∷ 0x00 ∷ 0x00 ∷ 0x03 ∷ 0x48 ∷ 0x00 ∷ 0x00 ∷ 0x00 ∷ 0x04 ∷ 0x48 ∷ 0x00 ∷ 0x00 ∷ 0x00 ∷ 0x01
    ∷ 0x98 ∷ 0x01 ∷ 0x00 ∷ 0x30 ∷ 0x05 ∷ []

abbrev pub sheet_of_seven : List ℕ
sheet_of_seven = 0x07 ∷ 0x00 ∷ 0x00 ∷ 0x03 ∷ 0x48 ∷ 0x00 ∷ 0x00 ∷ 0x00 ∷ 0x00 ∷ 0x00 ∷ 0x10
    ∷ 0x48 ∷ 0x00 ∷ 0x00 ∷ 0x00 ∷ 0x00 ∷ 0x00 ∷ 0x04 ∷ 0x98 ∷ 0x00 ∷ 0x08 ∷ 0x00 ∷ 0x0c ∷ 0x00 ∷ 0x14 ∷ []

pub p2 : sheet_from five case_a ≡ sheet_of_five
unfolding case_a record_words byte_words head_of sheet_of
p2 = refl

pub p2_seven : sheet_from seven case_a ≡ sheet_of_seven
unfolding case_a record_words byte_words head_of sheet_of
p2_seven = refl

-- the sheet of five holds the records of the locations
pub p2_widened : map widened (words_in 5 sheet_of_five) ≡ map record_of case_a
unfolding case_a record_words byte_words count_of words_in
p2_widened = refl
