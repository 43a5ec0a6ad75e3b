use Rattle.std.proofs.Common.{refl, arith}
use Rattle.flat.specs.Flat.{answer_numbers}
use Rattle.flat.proofs.Laws.Flat.{told_short, answer_stored}
use Rattle.flat.proofs.slices.tell_answer.Goals as goal

pub returns-then-slice-lt-ANSWER : goal.returns-then-slice-lt-ANSWER
returns-then-slice-lt-ANSWER c = told_short (answer_numbers c.args.answer) c.args.slice.now (omega arith)

pub returns : goal.returns
returns c =
    answer_stored c.args.answer c.args.slice.now (omega (arith, c.if-slice-lt-ANSWER.false)) refl
    c.dimension_numbers-first.ensures
    c.dimension_numbers-second.ensures
    c.dimension_numbers-third.ensures
    c.stored.ensures
    c.stored-2.ensures
    c.stored-3.ensures
    c.stored-4.ensures
