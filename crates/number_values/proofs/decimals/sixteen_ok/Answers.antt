use Rattle.std.proofs.Common.{◌≡◌, ◌-◌, ◌+◌, not, ap, sym, arith}
use Rattle.numbers.proofs.Laws.Sixteen.{checking, checking_start, checking_on, checking_wrong, checking_fails}
use Rattle.number_values.proofs.decimals.sixteen_ok.Goals as goal

pub loop-k-preserved : goal.loop-k-preserved
loop-k-preserved c =
    let e : 16 - (c.loop-k.k + 1) ≡ 16 - c.loop-k.k - 1 = omega arith in
    let m : 15 - c.loop-k.k ≡ 16 - c.loop-k.k - 1 = omega arith in
    rw e (checking_on c.loop-k.invariant c.blanks-from.ensures (omega (arith, c.loop-k-test.true)) c.decimal_at.ensures c.in-Some.is
    (rw m at c.right_at.ensures) (ap not c.if-right_at.true))

pub returns-in_default : goal.returns-in_default
returns-in_default c =
    let m : 15 - c.loop-k.k ≡ 16 - c.loop-k.k - 1 = omega arith in
    checking_wrong c.loop-k.invariant c.blanks-from.ensures (omega (arith, c.loop-k-test.true)) c.decimal_at.ensures c.in-Some.is
    (rw m at c.right_at.ensures) (ap not c.if-right_at.false)

pub returns-in_default-2 : goal.returns-in_default-2
returns-in_default-2 c =
    checking_fails c.loop-k.invariant c.blanks-from.ensures (omega (arith, c.loop-k-test.true)) c.decimal_at.ensures c.in_default.is

pub returns-in-None : goal.returns-in-None
returns-in-None c = search checking

pub loop-k-init : goal.loop-k-init
loop-k-init c = checking_start c.args.text.now c.args.at

pub returns-in-Some-letter : goal.returns-in-Some-letter
returns-in-Some-letter c = search checking
