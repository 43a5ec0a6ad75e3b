use Rattle.std.proofs.Common.{◌+◌, ◌*◌, sym, subst, ◌≤◌, length, arith, ℕ}
use Rattle.comparison.proofs.Laws.Counts.{formed_long, start_inside, start_few}
use Rattle.compare.proofs.answer.record_start.Goals as goal

pub width-requires : goal.width-requires
width-requires c = formed_long _ c.args.sheet.formed

pub overflow_mul-result : goal.overflow_mul-result
overflow_mul-result c =
    let s = c.args.sheet in
    let few = start_few s.bytes.now s.formed c.args.place.0 (omega (arith, s.counts)) c.width.ensures.few.1 in
    omega arith

pub overflow_add-result : goal.overflow_add-result
overflow_add-result c =
    let s = c.args.sheet in
    let few = start_few s.bytes.now s.formed c.args.place.0 (omega (arith, s.counts)) c.width.ensures.few.1 in
    omega arith

pub returns-clause-within : goal.returns-clause-within
returns-clause-within c =
    let s = c.args.sheet in
    subst (λ (n : ℕ). 4 + n * c.args.place.0 ≤ length s.bytes.now) (sym c.width.ensures.is)
    (start_inside s.bytes.now s.formed c.args.place.0 (omega (arith, s.counts)))
