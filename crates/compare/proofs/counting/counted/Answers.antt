use Rattle.compare.proofs.Laws.Answer.{repeat_is, both_few, both_fits, same_few, compared_is}
use Rattle.compare.proofs.counting.counted.Goals as goal

pub returns-then-twice_beyond : goal.returns-then-twice_beyond
returns-then-twice_beyond c =
    let k = c.in_ok-one in
    repeat_is k.one k.two k.ensures.0 k.ensures.1 k.ensures.2 c.both_in-both.ensures c.twice_beyond.ensures c.if-twice_beyond.true

pub overflow_sub-result : goal.overflow_sub-result
overflow_sub-result c =
    let k = c.in_ok-one in
    same_few k.one k.two k.ensures.0 k.ensures.1 k.ensures.2 c.both_in-both.ensures c.twice_beyond.ensures
    c.if-twice_beyond.false c.same_in-same.ensures

pub overflow_sub-result-2 : goal.overflow_sub-result-2
overflow_sub-result-2 c =
    let k = c.in_ok-one in
    both_few k.one k.two k.ensures.0 k.ensures.1 k.ensures.2 c.both_in-both.ensures c.twice_beyond.ensures c.if-twice_beyond.false

pub overflow_sub-result-3 : goal.overflow_sub-result-3
overflow_sub-result-3 c =
    let k = c.in_ok-one in
    both_fits k.one k.two k.ensures.0 k.ensures.1 k.ensures.2 c.both_in-both.ensures c.twice_beyond.ensures c.if-twice_beyond.false

pub returns : goal.returns
returns c =
    let k = c.in_ok-one in
    compared_is k.one k.two k.ensures.0 k.ensures.1 k.ensures.2 c.both_in-both.ensures c.twice_beyond.ensures
    c.if-twice_beyond.false c.same_in-same.ensures
