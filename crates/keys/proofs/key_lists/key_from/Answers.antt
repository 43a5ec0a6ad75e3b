use native.Mathlib.Omega.{arith}
use mathlib.Core.Path.{ap}
use mathlib.Core.Bool.{not}
use Rattle.keys.proofs.Laws.KeyLists.{key_digits, from_great, from_small, from_fits, from_key}
use Rattle.keys.proofs.key_lists.key_from.Goals as goal

pub returns-then-run-eq0 : goal.returns-then-run-eq0
returns-then-run-eq0 c = search key_digits

pub returns-then-not-word_ends : goal.returns-then-not-word_ends
returns-then-not-word_ends c = search key_digits

pub returns-then-key_limit-run : goal.returns-then-key_limit-run
returns-then-key_limit-run c =
    from_great c.requires c.digits-run.ensures c.if-run-eq0.false c.word_ends.ensures
    (ap not c.if-not-word_ends.false) c.key_limit.ensures (omega (arith, c.if-key_limit-run.true))

pub signed-requires : goal.signed-requires
signed-requires c =
    from_small c.requires c.digits-run.ensures c.if-run-eq0.false c.word_ends.ensures
    (ap not c.if-not-word_ends.false) c.key_limit.ensures (omega (arith, c.if-key_limit-run.false))

pub overflow_cast-result : goal.overflow_cast-result
overflow_cast-result c =
    from_fits c.requires c.digits-run.ensures c.if-run-eq0.false c.word_ends.ensures
    (ap not c.if-not-word_ends.false) c.key_limit.ensures (omega (arith, c.if-key_limit-run.false)) c.signed.ensures

pub returns : goal.returns
returns c =
    from_key c.requires c.digits-run.ensures c.if-run-eq0.false c.word_ends.ensures
    (ap not c.if-not-word_ends.false) c.key_limit.ensures (omega (arith, c.if-key_limit-run.false)) c.signed.ensures

pub digits-run-requires : goal.digits-run-requires
digits-run-requires c = search key_digits

pub word_ends-requires : goal.word_ends-requires
word_ends-requires c = search key_digits

pub key_limit-requires : goal.key_limit-requires
key_limit-requires c = search key_digits
