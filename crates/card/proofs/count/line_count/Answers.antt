use Rattle.card.proofs.Laws.Count.{lines_few, lines_inside, lines_refused, lines_accepted}
use native.Mathlib.Omega.{arith}
use Rattle.card.proofs.count.line_count.Goals as goal

pub returns-then-answer-ne0 : goal.returns-then-answer-ne0
returns-then-answer-ne0 c = search lines_refused

pub overflow_add-result : goal.overflow_add-result
overflow_add-result c =
    omega (arith, lines_few c.args.answer c.args.records.now c.dimension_count-maps.ensures)

pub overflow_add-result-2 : goal.overflow_add-result-2
overflow_add-result-2 c =
    omega (
      arith,
      lines_few c.args.answer c.args.records.now c.dimension_count-maps.ensures,
      lines_inside c.args.answer c.args.records.now c.record_count-located.ensures,
      c.well_formed.1.0.1,
    )

pub returns : goal.returns
returns c = search lines_accepted
