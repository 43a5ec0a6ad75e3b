-- CASE A of document 01, computed from the definitions. The table P is in answers/proofs/Tests/Paper, since each wrong definition would
-- compute it again.
use Rattle.std.specs.Prelude.{◌≡◌, refl, List, [], ◌∷◌, ℕ}
use Rattle.lists.specs.Lists.{lists}
use Rattle.grammar.specs.Parser.{computing}
use Rattle.grammar.specs.Look.{looks}
use Rattle.grammar.proofs.Laws.Plain.{erasing}
use Rattle.numbers.specs.Numbers.{numbers}
use Rattle.schema.specs.Schema.{schema}
use Rattle.cifti.specs.LabelTable.{label_words}
use Rattle.records.specs.Record.{record_words}
use Rattle.cifti.specs.Words.{named_words}
use Rattle.cifti.specs.Rows.{row_table}
use Rattle.cifti.specs.Maps.{map_words}
use Rattle.cifti.specs.Conditions.{condition_words}
use Rattle.cifti.specs.Names.{name_words}
use Rattle.cifti.specs.Answer.{answer_words, unused, no_series}
use Rattle.cifti.proofs.Laws.Theorems.{model_words, answer_of, records_of}
use Rattle.cifti.proofs.Tests.CaseA.{case_a}
use Rattle.cifti.specs.declared.answer.Kind.TheVariants.{Brain, Scalars}

unfoldable pub cases : Unit {0}
unfolding computing lists looks erasing numbers schema record_words label_words named_words row_table map_words condition_words name_words
    answer_words model_words
cases = tt

-- three places, which hold 9, and two
abbrev pub three : List ℕ
three = 9 ∷ 9 ∷ 9 ∷ []

abbrev pub two : List ℕ
two = 9 ∷ 9 ∷ []

-- P1: A, with 3 places of each, is accepted. Dimension 0 is scalars of 2, dimension 1 brain of 3 that begins at 0;
-- its records: index 0 and 1, surface, structure 18, vertices 4 and 1; index 2, voxel, structure 6, 2 3 5.
pub p1 : answer_of case_a (2 ∷ 3 ∷ []) three three
    ≡ record {
      number = 0;
      dimensions = record { kind = Scalars; length = 2; start = record { 0 = 0 }; series = no_series }
          ∷ record { kind = Brain; length = 3; start = record { 0 = 0 }; series = no_series }
          ∷ unused
          ∷ [];
    }
unfolding cases
p1 = refl

pub p1_records : records_of case_a (2 ∷ 3 ∷ []) three three ≡ 0x12000000000004 ∷ 0x12000000000001 ∷ 0x26000200030005 ∷ []
unfolding cases
p1_records = refl
