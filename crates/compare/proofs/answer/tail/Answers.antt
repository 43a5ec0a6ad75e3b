use Rattle.std.proofs.Common.{arith}
use Rattle.comparison.proofs.Laws.Part.{part_inside, part_in_second, part_in_first}
use Rattle.compare.proofs.answer.tail.Goals as goal
use Rattle.compare.proofs.answer.tail.Goals.{then-part-eq1, else-part-eq1}

pub overflow_add-result : goal.overflow_add-result
overflow_add-result c =
    let a = c.args in
    omega (arith, part_inside a.first.now a.second.now _ c.tail_place-part.ensures.answers)

pub slice_bounds-result-end : goal.slice_bounds-result-end
slice_bounds-result-end c = elim c.if-part-eq1.branch [
  | then-part-eq1 w ↦ (part_in_second _ _ _ c.tail_place-part.ensures.answers {l = c.if-part-eq1.sheet.now} (cc) w.if-part-eq1.true).inside
  | else-part-eq1 w ↦ (part_in_first _ _ _ c.tail_place-part.ensures.answers {l = c.if-part-eq1.sheet.now} (cc) w.if-part-eq1.false).inside
]

pub returns : goal.returns
returns c = record {
  answers = elim c.if-part-eq1.branch [
    | then-part-eq1 w ↦ (part_in_second _ _ _ c.tail_place-part.ensures.answers {l = c.if-part-eq1.sheet.now} (cc) w.if-part-eq1.true).is
    | else-part-eq1 w ↦ (part_in_first _ _ _ c.tail_place-part.ensures.answers {l = c.if-part-eq1.sheet.now} (cc) w.if-part-eq1.false).is
  ];
  zero = c.tail_place-part.ensures.zero;
}
