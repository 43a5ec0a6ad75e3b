-- THE LINES, computed: two small lists of records give these bytes, and no others; and the bytes of a whole standard input.
use Rattle.std.specs.Prelude.{◌≡◌, refl, List, [], ◌∷◌, ◌++◌, ℕ}
use Prim.Native.String.{String}
use Rattle.lists.specs.Lists.{lists, each_in}
use Rattle.grammar.specs.Bytes.{ascii}
use Rattle.lists.specs.Refusals.{refusals}
use Rattle.records.specs.Record.{record_words, on_surface, in_volume, record_of}
use Rattle.records.specs.Bytes.{byte_words}
use Rattle.records.specs.Width.{width_said}
use Rattle.records.specs.Sheet.{count_of, words_in, good_word, good_count, good_sheet}
use Rattle.comparison.specs.Compare.{compare_words}
use Rattle.compare.specs.Change.{of_first, of_second, change_at, end_said, first_end}
use Rattle.card.specs.Card.{card_words}
use Rattle.card.specs.Written.{written_words}
use Rattle.comparer.specs.Output.{output_bytes, answer_bytes, program_bytes, output_words}

unfoldable computing : Unit {0}
unfolding lists refusals record_words byte_words width_said count_of words_in good_word good_count good_sheet compare_words of_first of_second change_at
    end_said first_end card_words written_words output_words
computing = tt

-- each line ends with a line feed
abbrev pub lined : List String → List ℕ
unfolding each_in
lined l = each_in (λ s. ascii s ++ (10 ∷ [])) l

-- one vertex stays, a voxel moves up, a voxel and a vertex are gone; the same voxel in another structure is new
abbrev pub first_mask : List ℕ
first_mask = record_of (on_surface 18 4) ∷ record_of (in_volume 6 2 3 5) ∷ record_of (in_volume 5 1 2 3) ∷ record_of (on_surface 17 40) ∷ []

abbrev pub second_mask : List ℕ
second_mask = record_of (on_surface 18 4) ∷ record_of (in_volume 6 1 2 3) ∷ record_of (in_volume 6 2 3 5) ∷ []

pub lines_said : output_bytes first_mask second_mask
    ≡ lined ("moved 1 V 6 2 3 5" ∷ "first 2 V 5 1 2 3" ∷ "first 3 S 17 40" ∷ "second 1 V 6 1 2 3" ∷ [])
unfolding computing
lines_said = refl

-- sheets alike print nothing
pub alike_silent : output_bytes first_mask first_mask ≡ []
unfolding computing
alike_silent = refl

-- a refusal stands alone
pub refused_alone : answer_bytes 14 first_mask second_mask ≡ lined ("refused 14" ∷ [])
unfolding computing
refused_alone = refl

-- A whole standard input: a sheet of seven with two voxels, and one of five that has the second of them first, and another structure's. It
-- is the input that the gate runs the program on.
abbrev pub input_given : List ℕ
input_given =
    7 ∷ 0 ∷ 0 ∷ 2 ∷ 148 ∷ 0 ∷ 4 ∷ 0 ∷ 8 ∷ 0 ∷ 12 ∷ 152 ∷ 0 ∷ 4 ∷ 0 ∷ 8 ∷ 0 ∷ 12
    ∷ 5 ∷ 0 ∷ 0 ∷ 2 ∷ 152 ∷ 0 ∷ 128 ∷ 32 ∷ 3 ∷ 156 ∷ 0 ∷ 128 ∷ 32 ∷ 3 ∷ []

pub input_told : program_bytes input_given ≡ lined ("first 0 V 5 1 2 3" ∷ "moved 1 V 6 1 2 3" ∷ "second 1 V 7 1 2 3" ∷ [])
unfolding computing
input_told = refl

-- the second sheet is cut short
pub input_cut : program_bytes (7 ∷ 0 ∷ 0 ∷ 1 ∷ 148 ∷ 0 ∷ 4 ∷ 0 ∷ 8 ∷ 0 ∷ 12 ∷ 5 ∷ 0 ∷ 0 ∷ 1 ∷ 152 ∷ []) ≡ lined ("refused 15" ∷ [])
unfolding computing
input_cut = refl
