-- ACCEPTED EXACTLY WHEN: the number of every answer that `Reads` allows is 0 if and only if none of 1 to 14, 24 and 25 applies; else it is
-- the smallest that applies. So is the number of a map name, with 1 to 9 and 18.
use Rattle.std.specs.Prelude.{◌≡◌, refl, List, [], ◌∷◌, true, ℕ, eqb, length, Option}
use Rattle.std.proofs.Common.{sym, ap, ◌∙◌, subst, arith, eq-eqb}
use Rattle.lists.specs.Lists.{any, each}
use Rattle.lists.specs.Refusals.{Refusal, ◌when◌, first, Applies, here, later, rising}
use Rattle.lists.proofs.Laws.Booleans.{or_first, or_second}
use Rattle.lists.proofs.Laws.Refusals.{Given, accepted, smallest, first_given, above}
use Rattle.grammar.specs.Document.{Element}
use Rattle.cifti.specs.Conditions.{conditions, conditions_of_header, conditions_of_table, conditions_of_labels, refusal}
use Rattle.cifti.specs.Names.{name_refusal, NameNumber}
use Rattle.cifti.specs.Text.{DocumentOf, Answers}
use Rattle.cifti.specs.Answer.{answer_to, Reads}
use Rattle.cifti.proofs.Laws.Text.{document_unique}
use Rattle.cifti.proofs.Laws.Theorems.{answer_number}
use Rattle.cifti.specs.declared.answer.Answer.{Answer}
use Rattle.table.specs.Accepted.{AppliesTo, Condition, name_conditions, NameCondition, SmallestOf}

-- ---- Of any rows whose numbers rise from 1.

module _ (text : List ℕ) (rows : Option Element → List Refusal) (up : (d : Option Element) → rising 1 (rows d) ≡ true) where
  -- what applies to the text applies to its document
  at_document : {d : Option Element} {n : ℕ} → DocumentOf text d → AppliesTo text rows n → Applies (rows d) n
  at_document {n = n} o h = subst (λ c. Applies (rows c) n) (document_unique h.of o) h.applies

  by_given : {d : Option Element} {m : ℕ} → DocumentOf text d → Given (rows d) m → SmallestOf (AppliesTo text rows) m
  by_given o (accepted f) = record {
    accepted = (λ z n h. f n (at_document o h), λ h. refl);
    refused = λ z. absurd (z refl);
    smallest = λ n h. absurd (f n (at_document o h));
  }
  by_given {d} {m} o (smallest a f) = record {
    accepted = (λ z n h. (let u = above 1 (rows d) (up d) m a in omega arith), λ h. absurd (h m applied));
    refused = λ z. applied;
    smallest = λ n h. f n (at_document o h);
  }
    where
      applied : AppliesTo text rows m
      applied = record { document = d; of = o; applies = a }

  by_rows : {m : ℕ} → Answers text (λ d. first (rows d)) m → SmallestOf (AppliesTo text rows) m
  by_rows {m} r = by_given r.of
      (subst (Given (rows r.document)) (sym r.answered) (first_given 1 (rows r.document) (up r.document)))

-- ---- THE READER.

pub accepted_exactly : {text lengths records work : List ℕ} {a : Answer} {after cleared : List ℕ}
    → Reads text lengths records work a after cleared
    → SmallestOf (Condition text lengths (length records) (length work)) a.number
unfolding answer_to refusal conditions conditions_of_header conditions_of_table conditions_of_labels rising
accepted_exactly {text} {lengths} {records} {work} r =
    by_rows text (conditions lengths (length text) (length records) (length work)) (λ d. refl)
    (record {
      document = r.answered.document;
      of = r.answered.of;
      answered = ap (λ (x : Answer). x.number) r.answered.answered ∙ answer_number _ _;
    })

-- ---- THE MAP NAME.

pub name_exactly : {text lengths : List ℕ} {dimension index number : ℕ} → NameNumber text lengths dimension index number
    → SmallestOf (NameCondition text lengths dimension index) number
unfolding name_refusal name_conditions conditions_of_header rising
name_exactly {text} {lengths} {dimension = d} {index = i} r =
    by_rows text (name_conditions lengths (length text) d i) (λ d. refl) r.asked

-- ---- The numbers of the rows: no other applies.

unfoldable number_of : Refusal → ℕ
number_of (n when b) = n

among : {l : List Refusal} {n : ℕ} → Applies l n → any (eqb n) (each number_of l) ≡ true
unfolding any each number_of
among (here {n}) = or_first (eqb n n) _ (eq-eqb n n refl)
among {n = n} (later {r = r} a) = or_second (eqb n (number_of r)) (among a)

pub condition_numbers : (text lengths : List ℕ) (room work : ℕ) {n : ℕ} → Condition text lengths room work n
    → any (eqb n) (1 ∷ 2 ∷ 3 ∷ 4 ∷ 5 ∷ 6 ∷ 7 ∷ 8 ∷ 9 ∷ 10 ∷ 11 ∷ 12 ∷ 13 ∷ 14 ∷ 24 ∷ 25 ∷ []) ≡ true
unfolding conditions conditions_of_header conditions_of_table conditions_of_labels each number_of
condition_numbers text lengths room work c = among c.applies

pub name_numbers : (text lengths : List ℕ) (dimension index : ℕ) {n : ℕ} → NameCondition text lengths dimension index n
    → any (eqb n) (1 ∷ 2 ∷ 3 ∷ 4 ∷ 5 ∷ 6 ∷ 7 ∷ 8 ∷ 9 ∷ 18 ∷ []) ≡ true
unfolding name_conditions conditions_of_header each number_of
name_numbers text lengths d i c = among c.applies
