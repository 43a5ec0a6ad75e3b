use Rattle.std.proofs.Common.{rules}
use mir.Syntax.{w64}
use mir.Val.{SFits}
use mir.ValLaws.{to_z-of_z}
use Rattle.numbers.proofs.Laws.Alone.{alone_small, signed_past, signed_end, minus_none, minus_some, plus_none, plus_some}
use Rattle.number_values.proofs.short_value.Goals as goal

pub returns-in_err-get : goal.returns-in_err-get
returns-in_err-get c =
    rw c.from_residual.ensures (signed_past c.args.text.now c.args.at c.args.most c.args.plus c.args.minus c.in_err-get.ensures.lookup.3)

pub returns-in_err-b : goal.returns-in_err-b
returns-in_err-b c =
    rw c.from_residual-in_err-b.ensures (signed_end _ _ _ _ _ (c.in_ok-get.ensures.lookup.3.1 0) c.char_at.ensures c.in_err-b.was)

pub returns-in_err-alone : goal.returns-in_err-alone
returns-in_err-alone c =
    rw c.from_residual-in_err-alone.ensures
    (minus_none _ _ _ _ _ (c.in_ok-get.ensures.lookup.3.1 0) c.char_at.ensures c.in_ok-b.was c.if-b-eq45.true c.alone.ensures c.in_err-alone.was)

pub signed-requires : goal.signed-requires
signed-requires c = alone_small _ _ _ _ c.alone.ensures c.in_ok-alone.was c.requires

pub returns-in_ok-alone : goal.returns-in_ok-alone
returns-in_ok-alone c =
    let f : SFits w64 c.signed.result = search rules in
    rw (to_z-of_z w64 c.signed.result f)
    (minus_some _ _ _ _ _ (c.in_ok-get.ensures.lookup.3.1 0) c.char_at.ensures c.in_ok-b.was c.if-b-eq45.true c.alone.ensures c.in_ok-alone.was c.signed.ensures)

pub returns-in_err-alone-2 : goal.returns-in_err-alone-2
returns-in_err-alone-2 c =
    rw c.from_residual-in_err-alone-2.ensures
    (plus_none _ _ _ _ _ (c.in_ok-get.ensures.lookup.3.1 0) c.char_at.ensures c.in_ok-b.was c.if-b-eq45.false c.alone-2.ensures c.in_err-alone-2.was)

pub signed-requires-2 : goal.signed-requires-2
signed-requires-2 c = alone_small _ _ _ _ c.alone-2.ensures c.in_ok-alone-2.was c.requires

pub returns-in_ok-alone-2 : goal.returns-in_ok-alone-2
returns-in_ok-alone-2 c =
    let f : SFits w64 c.signed-2.result = search rules in
    rw (to_z-of_z w64 c.signed-2.result f)
    (plus_some _ _ _ _ _ (c.in_ok-get.ensures.lookup.3.1 0) c.char_at.ensures c.in_ok-b.was c.if-b-eq45.false c.alone-2.ensures c.in_ok-alone-2.was c.signed-2.ensures)
