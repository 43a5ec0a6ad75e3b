use Rattle.std.proofs.Common.{arith}
use Rattle.number_lists.proofs.Laws.Digits.{plain_running, digit_on, digit_fits}
use Rattle.number_lists.proofs.chars.plain_digits.Goals as goal

pub overflow_mul-n : goal.overflow_mul-n
overflow_mul-n c = search plain_running

pub overflow_sub-b : goal.overflow_sub-b
overflow_sub-b c = search plain_running

pub overflow_add-n : goal.overflow_add-n
overflow_add-n c =
    let got = c.in-Some.ensures.lookup in
    omega (
      arith,
      digit_fits c.loop-k.invariant c.loop-k-test.true got.3.0 (got.3.1 0) c.is_plain_digit.ensures c.if-is_plain_digit.true
          c.from.ensures,
    )

pub loop-k-preserved : goal.loop-k-preserved
loop-k-preserved c =
    let got = c.in-Some.ensures.lookup in
    digit_on c.loop-k.invariant c.loop-k-test.true got.3.0 (got.3.1 0) c.is_plain_digit.ensures c.if-is_plain_digit.true c.from.ensures
