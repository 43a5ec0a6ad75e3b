-- THE PAPER'S CARD, computed: the answer and the records of Case A give these bytes, and no others.
use Rattle.std.specs.Prelude.{◌≡◌, refl, List, [], ◌∷◌, ◌++◌, ℕ}
use Prim.Native.String.{String}
use Rattle.lists.specs.Lists.{lists, each_in}
use Rattle.grammar.specs.Bytes.{ascii}
use Rattle.records.specs.Record.{record_words, on_surface, in_volume, record_of}
use Rattle.cifti.specs.Answer.{refused_with, dimension_by, no_series}
use Rattle.cifti.proofs.Laws.Theorems.{answer_of, records_of}
use Rattle.cifti.proofs.Tests.CaseA.{case_a}
use Rattle.cifti.proofs.Tests.Cases.{cases, three}
use Rattle.cifti.specs.declared.answer.Kind.TheVariants as kinds
use Rattle.cifti.specs.declared.answer.Dimension.{Dimension}
use Rattle.card.specs.Card.{card_words}
use Rattle.card.specs.Written.{card_bytes, written_words}

-- each line ends with a line feed
abbrev pub lined : List String → List ℕ
unfolding each_in
lined l = each_in (λ s. ascii s ++ (10 ∷ [])) l

pub case_a_lem : card_bytes (answer_of case_a (2 ∷ 3 ∷ []) three three) (records_of case_a (2 ∷ 3 ∷ []) three three)
    ≡ lined ("ok" ∷ "0 scalars 2" ∷ "1 brain 3 0" ∷ "0 S 18 4" ∷ "1 S 18 1" ∷ "2 V 6 2 3 5" ∷ [])
unfolding cases card_words written_words
case_a_lem = refl

-- A refusal prints `refused N` alone, whatever the records hold.
pub refusal_alone : card_bytes (refused_with 14) three ≡ lined ("refused 14" ∷ [])
unfolding lists card_words written_words
refusal_alone = refl

-- One map on the dimensions 0 and 2, which stands second in the text, and one on dimension 1: two lines with one start, its records once,
-- after those of the map before it, each counted from 0.
abbrev pub brain_at : (length start : ℕ) → Dimension
brain_at n at = dimension_by kinds.Brain n at no_series

pub in_text_order : card_bytes (record { number = 0; dimensions = brain_at 2 1 ∷ brain_at 1 0 ∷ brain_at 2 1 ∷ [] })
    (record_of (on_surface 17 40) ∷ record_of (on_surface 18 7) ∷ record_of (in_volume 11 9 8 4095) ∷ 9 ∷ [])
    ≡ lined ("ok" ∷ "0 brain 2 1" ∷ "1 brain 1 0" ∷ "2 brain 2 1" ∷ "0 S 17 40" ∷ "0 S 18 7" ∷ "1 V 11 9 8 4095" ∷ [])
unfolding lists record_words card_words written_words
in_text_order = refl
