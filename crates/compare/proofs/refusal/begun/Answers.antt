use Rattle.std.proofs.Common.{arith}
use Rattle.std.proofs.lemmas.Result.{err_from_is_err_and}
use Rattle.compare.proofs.Laws.Rows.{first_refused, second_refused, few_records, room_lacks, repeated_first, begun_is}
use Rattle.compare.proofs.refusal.begun.Goals as goal

pub returns-in_err-one : goal.returns-in_err-one
returns-in_err-one c =
    let p = err_from_is_err_and c.from_residual.result c.from_residual.ensures.1 in
    rw (p.1, p.2) (first_refused _ _ _ _ c.in_err-one.ensures)

pub returns-in_err-two : goal.returns-in_err-two
returns-in_err-two c =
    let p = err_from_is_err_and c.from_residual-in_err-two.result c.from_residual-in_err-two.ensures.1 in
    rw (p.1, p.2) (second_refused _ _ _ c.in_ok-one.ensures.1 _ c.in_err-two.ensures)

pub overflow_add-one : goal.overflow_add-one
overflow_add-one c =
    let a = c.in_ok-one in
    let b = c.in_ok-two in
    let few = few_records a.one b.two a.ensures.0 b.ensures.0 a.ensures.1 b.ensures.1 in
    omega arith

pub returns-then-work-one : goal.returns-then-work-one
returns-then-work-one c =
    let a = c.in_ok-one in
    let b = c.in_ok-two in
    room_lacks a.one b.two a.ensures.0 b.ensures.0 a.ensures.1 b.ensures.1 (omega arith)

pub returns-then-location_twice : goal.returns-then-location_twice
returns-then-location_twice c =
    let a = c.in_ok-one in
    let b = c.in_ok-two in
    repeated_first a.one b.two a.ensures.0 b.ensures.0 a.ensures.1 b.ensures.1 (omega arith) c.location_twice.ensures
    c.if-location_twice.true

pub returns-else-location_twice : goal.returns-else-location_twice
returns-else-location_twice c =
    let a = c.in_ok-one in
    let b = c.in_ok-two in
    let begun = begun_is a.one b.two a.ensures.0 b.ensures.0 a.ensures.1 b.ensures.1 (omega arith) c.location_twice.ensures
    c.if-location_twice.false in
    (a.ensures.0, b.ensures.0, begun)
