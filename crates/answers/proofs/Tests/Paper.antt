-- THE TABLE P of document 01, computed from the definitions; `promised_number` and `promised` (cifti/proofs/Laws/Theorems) make each
-- line one about every reader that keeps the promise. P1, case A, is `p1` and `p1_records` of cifti/proofs/Tests/Cases.
use Rattle.std.specs.Prelude.{◌≡◌, refl, List, [], ◌∷◌, map, ℕ}
use Rattle.grammar.specs.Bytes.{ascii}
use Rattle.records.specs.Bytes.{byte_words}
use Rattle.records.specs.Width.{five, seven}
use Rattle.records.specs.Sheet.{sheet_of, head_of, with_ends, count_of, words_in, held_in}
use Rattle.records.proofs.Tests.CaseA.{sheet_of_five, sheet_of_seven}
use Rattle.cifti.specs.Answer.{Reads}
use Rattle.cifti.proofs.Laws.Theorems.{number_of, records_of, promised_number}
use Rattle.cifti.proofs.Tests.CaseA.{variant, case_a}
use Rattle.cifti.proofs.Tests.Cases.{cases, three, two}
use Rattle.cifti.specs.declared.answer.Answer.{Answer}

-- the sheet of A is `07 00 00 03 48 00 00 00 00 00 10 48 00 00 00 00 00 04 98 00 08 00 0c 00 14`
pub p2_seven : sheet_of 7 (with_ends seven (records_of case_a (2 ∷ 3 ∷ []) three three)) ≡ sheet_of_seven
unfolding cases byte_words sheet_of head_of
p2_seven = refl

-- P2, `05 00 00 03 48 00 00 00 04 48 00 00 00 01 98 01 00 30 05`, unpacks to the same records
pub p2_widened : held_in seven five sheet_of_five ≡ records_of case_a (2 ∷ 3 ∷ []) three three
unfolding cases byte_words count_of words_in
p2_widened = refl

-- A row of the table: a text, the lengths, the places of work, and the number.
pub record PaperRow : Type 0 where
  pub text : List ℕ
  pub lengths : List ℕ
  pub work : List ℕ
  pub number : ℕ

abbrev row : List ℕ → List ℕ → List ℕ → ℕ → PaperRow
row text lengths work number = record { text = text; lengths = lengths; work = work; number = number }

-- with the lengths 2,3 and 3 places
abbrev of : List ℕ → ℕ → PaperRow
of text number = row text (2 ∷ 3 ∷ []) three number

-- THE TABLE: what the paper says of the text, in its order. P2 is above; P5 is a line on markup alone (grammar/proofs/Tests/Documents).
abbrev pub paper : List PaperRow
paper =
    of case_a 0  -- P1
    ∷ of [] 3  -- P3: empty text
    ∷ of (ascii "<a b=\"1\" b=\"2\"/>") 3  -- P4
    ∷ of (variant "1" "1" "4 1") 11  -- P6: offset 2 made 1
    ∷ of (variant "1" "2" "5 1") 12  -- P7: vertices `5 1`
    ∷ of (variant "1" "2" "4 4") 14  -- P8: vertices `4 4`
    ∷ row (variant "1" "2" "4 4") (2 ∷ 3 ∷ []) two 13  -- P8: the same with 2 places of work
    ∷ of (variant "1" "2" "4 -1") 7  -- P9: vertices `4 -1`
    ∷ row case_a (3 ∷ 3 ∷ []) three 9  -- P10: lengths 3,3
    ∷ of (variant "0,1" "2" "4 1") 8  -- P11: brain dimension `0,1`
    ∷ []

-- what the definitions say of it
abbrev told : PaperRow → ℕ
told r = number_of r.text r.lengths three r.work

pub paper_told : map told paper ≡ map (λ (r : PaperRow). r.number) paper
unfolding cases
paper_told = refl

-- ---- So every reader that keeps the promise accepts A and refuses P7: none only refuses, and none answers always the same.

pub accepts : {a : Answer} {s v : List ℕ} → Reads case_a (2 ∷ 3 ∷ []) three three a s v → a.number ≡ 0
unfolding cases
accepts r = promised_number r

pub refuses : {a : Answer} {s v : List ℕ} → Reads (variant "1" "2" "5 1") (2 ∷ 3 ∷ []) three three a s v → a.number ≡ 12
unfolding cases
refuses r = promised_number r
