-- CASE A of the paper: what the file gives the three indices of dimension 1, by the theorem and the table that is computed (P1).
use Rattle.std.specs.Prelude.{◌≡◌, refl, List, [], ◌∷◌, ℕ, ◌+◌, ◌<◌, get_or, replicate}
use Rattle.std.proofs.Common.{sym, ◌∙◌, subst, arith}
use Rattle.records.specs.Record.{on_surface, in_volume, record_words, location_of}
use Rattle.cifti.specs.Answer.{unused, no_series, Reads}
use Rattle.cifti.proofs.Laws.Theorems.{reading}
use Rattle.cifti.proofs.Tests.CaseA.{case_a}
use Rattle.cifti.proofs.Tests.Cases.{three, p1, p1_records}
use Rattle.cifti.specs.declared.answer.Kind.TheVariants.{Brain, Scalars}
use Rattle.cifti.specs.declared.answer.Dimension.{Dimension}
use Rattle.cifti.specs.declared.answer.Answer.{Answer}
use Rattle.table.specs.Located.{here, further, FileGives}
use Rattle.table.proofs.Laws.Alone.{entry_is}
use Rattle.table.proofs.Laws.Located.{index_located}

abbrev brain : Dimension
brain = record { kind = Brain; length = 3; start = record { 0 = 0 }; series = no_series }

abbrev answer : Answer
answer = record {
  number = 0;
  dimensions = record { kind = Scalars; length = 2; start = record { 0 = 0 }; series = no_series } ∷ brain ∷ unused ∷ [];
}

abbrev held : List ℕ
held = 0x12000000000004 ∷ 0x12000000000001 ∷ 0x26000200030005 ∷ []

accepted : Reads case_a (2 ∷ 3 ∷ []) three three answer held (replicate 3 0)
accepted = rw (p1, p1_records) at (reading case_a (2 ∷ 3 ∷ []) three three)

given : (n : ℕ) → n < 3 → FileGives case_a 1 n (location_of (get_or held n 0))
given n u =
    let h = index_located accepted refl {d = 1} {told = brain} (further here) u (further here) refl in
    let e : 0 + n ≡ n = omega arith in
    subst (λ r. FileGives case_a 1 n (location_of r)) (sym (entry_is h.stands 0) ∙ rw e refl) h.given

pub gives_0 : FileGives case_a 1 0 (on_surface 18 4)
unfolding record_words
gives_0 = given 0 (omega arith)

pub gives_1 : FileGives case_a 1 1 (on_surface 18 1)
unfolding record_words
gives_1 = given 1 (omega arith)

pub gives_2 : FileGives case_a 1 2 (in_volume 6 2 3 5)
unfolding record_words
gives_2 = given 2 (omega arith)
