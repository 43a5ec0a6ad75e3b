-- SHEETS: 8 bits of the bytes per record, 24 bits of count, then the records, each with the end bits of its layout. Assumes nothing.
use Rattle.std.specs.Prelude.{◌≡◌, List, [], ◌∷◌, ◌++◌, map, Bool, cond, not, ◌&&◌, ℕ, ◌+◌, ◌*◌, ◌/◌, ◌%◌, ◌^◌, eqb, leb, ltb, length, get_or, take, drop}
use Rattle.lists.specs.Lists.{all}
use Rattle.lists.specs.Refusals.{◌when◌, first}
use Rattle.records.specs.Limits.{most_records}
use Rattle.records.specs.Width.{Width, seven, width_said}
use Rattle.records.specs.Record.{Location, record_in, legal_in, carried}
use Rattle.records.specs.Bytes.{bytes_of, number_written, body, numbers_in}
use Rattle.records.specs.Fill.{wrote}
use Rattle.records.specs.Outcome.{unless, outcome}
use Rattle.records.specs.declared.outcome.Outcome.{Outcome}

-- the head of a sheet of n numbers of b bytes each
unfoldable pub head_of : ℕ → ℕ → List ℕ
head_of b n = bytes_of 1 b ++ bytes_of 3 n

-- the sheet of the numbers
unfoldable pub sheet_of : ℕ → List ℕ → List ℕ
sheet_of b ns = head_of b (length ns) ++ body b ns

-- what the head says, and the numbers after it
unfoldable pub count_of : List ℕ → ℕ
count_of s = number_written (take 3 (drop 1 s))

unfoldable pub words_in : ℕ → List ℕ → List ℕ
words_in b s = numbers_in b (count_of s) (drop 4 s)

-- a record with its end bits, and a word without them
abbrev pub word_of : Width → ℕ → ℕ
word_of w r = r * 2 ^ w.ending

abbrev pub bare : Width → ℕ → ℕ
bare w n = n / 2 ^ w.ending

abbrev pub with_ends : Width → List ℕ → List ℕ
with_ends w rs = map (word_of w) rs

abbrev pub without_ends : Width → List ℕ → List ℕ
without_ends w ns = map (bare w) ns

-- all records are legal
abbrev pub all_legal : Width → List ℕ → Bool
all_legal w rs = all (legal_in w) rs

-- a word's end bits are 0 and its record is legal; all words are so
unfoldable pub good_word : Width → ℕ → Bool
good_word w n = eqb (n % 2 ^ w.ending) 0 && legal_in w (bare w n)

abbrev pub all_good : Width → List ℕ → Bool
all_good w ns = all (good_word w) ns

-- the sheet of locations
abbrev pub sheet_from : Width → List Location → List ℕ
sheet_from w ls = sheet_of w.bytes (map (λ (l : Location). word_of w (record_in w l)) ls)

-- not 0 and not above 1,048,576
unfoldable pub good_count : ℕ → Bool
good_count n = leb 1 n && leb n most_records

-- not under 4 bytes, the first byte b, a good count, and the length to match
unfoldable pub good_sheet : ℕ → List ℕ → Bool
good_sheet b s = leb 4 (length s) && (eqb (get_or s 0 0) b && (good_count (count_of s) && eqb (length s) (4 + b * count_of s)))

-- the bytes per record that a first byte says, 5 or 7, else 0
unfoldable pub bytes_said : ℕ → ℕ
bytes_said b = cond (eqb b (width_said b).bytes) b 0

-- the layout that a sheet says, and its bytes per record where it is a good sheet of it, else 0
abbrev pub width_of : List ℕ → Width
width_of s = width_said (get_or s 0 0)

unfoldable pub sheet_width : List ℕ → ℕ
sheet_width s = cond (good_sheet (width_of s).bytes s) (width_of s).bytes 0

-- the paper's number: of packing records into so many bytes, and of unpacking a sheet into so many places
unfoldable pub pack_refusal : Width → List ℕ → ℕ → ℕ
pack_refusal w rs room =
    first
    (15 when not (good_count (length rs))
    ∷ 16 when not (all_legal w rs)
    ∷ 17 when ltb room (4 + w.bytes * length rs)
    ∷ [])

unfoldable pub unpack_refusal : Width → List ℕ → ℕ → ℕ
unpack_refusal w s room =
    first
    (15 when not (good_sheet w.bytes s)
    ∷ 16 when not (all_good w (words_in w.bytes s))
    ∷ 17 when ltb room (count_of s)
    ∷ [])

-- what the bytes lent hold after packing
abbrev pub packed_into : Width → (number : ℕ) → List ℕ → List ℕ → List ℕ
packed_into w n rs s = unless n (wrote 0 (sheet_of w.bytes (with_ends w rs)) s) s

-- the records in v of the locations that words in w name, and those of a sheet of w
abbrev pub held_by : (v w : Width) → List ℕ → List ℕ
held_by v w ns = map (λ (n : ℕ). carried v w (bare w n)) ns

abbrev pub held_in : (v w : Width) → List ℕ → List ℕ
held_in v w s = held_by v w (words_in w.bytes s)

-- what the places lent hold after unpacking
abbrev pub unpacked_into : (v w : Width) → (number : ℕ) → List ℕ → List ℕ → List ℕ
unpacked_into v w n s rs = unless n (wrote 0 (held_in v w s) rs) rs

-- packing: the value is the bytes written; `before` and `after` are the bytes lent
pub record PacksIn (w : Width) (rs before : List ℕ) (answer : Outcome) (after : List ℕ) : Type 0 where
  pub answers : answer ≡ outcome (pack_refusal w rs (length before)) (4 + w.bytes * length rs)
  pub holds : after ≡ packed_into w answer.number rs before

-- unpacking a sheet of w to records of v: the value is the count; `before` and `after` are the places lent
pub record UnpacksIn (v w : Width) (s before : List ℕ) (answer : Outcome) (after : List ℕ) : Type 0 where
  pub answers : answer ≡ outcome (unpack_refusal w s (length before)) (count_of s)
  pub holds : after ≡ unpacked_into v w answer.number s before

-- what `pack` promises: sheets of seven, and no others
abbrev pub Packs : (rs before : List ℕ) (answer : Outcome) (after : List ℕ) → Type 0
Packs rs before answer after = PacksIn seven rs before answer after

-- what `unpack` promises: sheets of five and of seven, each by the layout that it says
abbrev pub Unpacks : (s before : List ℕ) (answer : Outcome) (after : List ℕ) → Type 0
Unpacks s before answer after = UnpacksIn seven (width_of s) s before answer after
