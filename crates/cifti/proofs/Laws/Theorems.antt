-- ONE ANSWER FOR EVERY INPUT; it depends on the text only through its document; and there is one. Each is the law of questions on a text
-- (TextLaws), at the reader's terms.
use Rattle.std.specs.Prelude.{◌≡◌, refl, List, ℕ, zero, suc, ◌≤◌, length, replicate, Option}
use Rattle.std.proofs.Common.{sym, ap, ◌∙◌}
use Rattle.grammar.specs.Document.{Element}
use Rattle.grammar.specs.Parser.{parse}
use Rattle.grammar.specs.Erased.{Node, WritesDocument}
use Rattle.cifti.specs.Conditions.{refusal}
use Rattle.cifti.specs.Names.{name_refusal, name_part, part_by, NameNumber, NamePart}
use Rattle.cifti.specs.Answer.{accepted_with, answer_by, records_by, answer_to, records_after, Reads}
use Rattle.cifti.proofs.Laws.Text.{answers_by, answers_unique, answers_same}
use Rattle.cifti.proofs.Laws.Unseen.{answer_unseeing, records_unseeing, name_unseeing}
use Rattle.cifti.specs.declared.answer.Answer.{Answer}

-- ---- UNIQUE: only one answer, and one content of each slice lent, is possible.

pub reads_unique : {text lengths records work : List ℕ} {a b : Answer} {s t v w : List ℕ}
    → Reads text lengths records work a s v → Reads text lengths records work b t w → (a ≡ b) × (s ≡ t) × (v ≡ w)
reads_unique r q = (answers_unique r.answered q.answered, answers_unique r.filled q.filled, r.cleared ∙ sym q.cleared)

pub number_unique : {text lengths : List ℕ} {d i m n : ℕ} → NameNumber text lengths d i m → NameNumber text lengths d i n → m ≡ n
number_unique r q = answers_unique r.asked q.asked

pub part_unique : {text lengths : List ℕ} {d i : ℕ} {s t : List ℕ} → NamePart text lengths d i s → NamePart text lengths d i t → s ≡ t
part_unique r q = answers_unique r.asked q.asked

-- ---- TWO TEXTS OF ONE DOCUMENT, with the same lengths and slices lent, get the same answer and table (neither text too long).

pub same_document : {d : Node} {x y lengths records work : List ℕ} {a b : Answer} {s t v w : List ℕ}
    → WritesDocument d x → WritesDocument d y → length x ≤ 16777216 → length y ≤ 16777216
    → Reads x lengths records work a s v → Reads y lengths records work b t w → (a ≡ b) × (s ≡ t) × (v ≡ w)
same_document {lengths = lengths} {records} {work} h k m n r q = (
  answers_same (answer_to lengths (length records) (length work)) (answer_unseeing lengths (length records) (length work)) h k m n
      r.answered q.answered,
  answers_same (records_after lengths records (length work)) (records_unseeing lengths records (length work)) h k m n r.filled
      q.filled,
  r.cleared ∙ sym q.cleared,
)

-- the number of a map name's question too; its part is the caller's own bytes
pub same_number : {c : Node} {x y lengths : List ℕ} {d i m n : ℕ}
    → WritesDocument c x → WritesDocument c y → length x ≤ 16777216 → length y ≤ 16777216
    → NameNumber x lengths d i m → NameNumber y lengths d i n → m ≡ n
same_number {lengths = lengths} {d} {i} h k u v r q =
    answers_same (λ size. name_refusal lengths size d i) (name_unseeing lengths d i) h k u v r.asked q.asked

-- ---- THERE IS AN ANSWER: the parser finds the document, and the rest computes.

unfoldable pub number_of : (text lengths records work : List ℕ) → ℕ
number_of text lengths records work = refusal lengths (length text) (length records) (length work) (parse text)

unfoldable pub answer_of : (text lengths records work : List ℕ) → Answer
answer_of text lengths records work = answer_by (number_of text lengths records work) (parse text)

unfoldable pub records_of : (text lengths records work : List ℕ) → List ℕ
records_of text lengths records work = records_by (number_of text lengths records work) (parse text) records

pub reading : (text lengths records work : List ℕ)
    → Reads text lengths records work (answer_of text lengths records work) (records_of text lengths records work) (replicate (length work) 0)
unfolding answer_of records_of number_of answer_to records_after
reading text lengths records work = record { answered = answers_by text _ refl; filled = answers_by text _ refl; cleared = refl }

unfoldable pub name_number_of : (text lengths : List ℕ) (dimension index : ℕ) → ℕ
name_number_of text lengths d i = name_refusal lengths (length text) d i (parse text)

unfoldable pub name_part_of : (text lengths : List ℕ) (dimension index : ℕ) → List ℕ
name_part_of text lengths d i = part_by (name_number_of text lengths d i) d i (parse text)

pub naming_number : (text lengths : List ℕ) (d i : ℕ) → NameNumber text lengths d i (name_number_of text lengths d i)
unfolding name_number_of
naming_number text lengths d i = record { asked = answers_by text _ refl }

pub naming_part : (text lengths : List ℕ) (d i : ℕ) → NamePart text lengths d i (name_part_of text lengths d i)
unfolding name_part_of name_number_of name_part
naming_part text lengths d i = record { asked = answers_by text _ refl }

-- ---- What code is proved against: the answer computed is the one promised.

pub reads_by : (text lengths records work : List ℕ) (a : Answer) (s v : List ℕ)
    → a ≡ answer_of text lengths records work → s ≡ records_of text lengths records work → v ≡ replicate (length work) 0
    → Reads text lengths records work a s v
unfolding answer_of records_of number_of answer_to records_after
reads_by text lengths records work a s v h k c = record { answered = answers_by text _ h; filled = answers_by text _ k; cleared = c }

-- and what is promised is the answer computed
pub promised : {text lengths records work : List ℕ} {a : Answer} {s v : List ℕ} → Reads text lengths records work a s v
    → (a ≡ answer_of text lengths records work) × (s ≡ records_of text lengths records work) × (v ≡ replicate (length work) 0)
promised {text} {lengths} {records} {work} r = reads_unique r (reading text lengths records work)

pub answer_number : (n : ℕ) (d : Option Element) → (answer_by n d).number ≡ n
unfolding answer_by accepted_with
answer_number zero d = refl
answer_number (suc n) d = refl

pub promised_number : {text lengths records work : List ℕ} {a : Answer} {s v : List ℕ} → Reads text lengths records work a s v
    → a.number ≡ number_of text lengths records work
unfolding answer_of
promised_number {text} {lengths} {records} {work} r = ap (λ (x : Answer). x.number) (promised r).0
    ∙ answer_number (number_of text lengths records work) (parse text)

unfoldable pub model_words : Unit {0}
unfolding number_of answer_of records_of name_number_of name_part_of
model_words = tt
