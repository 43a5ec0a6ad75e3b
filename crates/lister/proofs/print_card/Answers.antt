use Rattle.std.proofs.Common.{rules, arith, ◌<◌, length}
use Rattle.card.specs.Card.{card}
use Rattle.card.specs.Written.{card_bytes}
use Rattle.card.proofs.Laws.Printed.{line_written, printed_none, printed_more, printed_all, not_failed}
use Rattle.lister.proofs.print_card.Goals as goal

pub loop-n-init : goal.loop-n-init
loop-n-init g c = record {
  within = omega arith;
  counted = c.line_count-count.ensures;
  printed = printed_none _;
}

pub loop-n-preserved : goal.loop-n-preserved
loop-n-preserved g c =
    let inv = c.loop-n.invariant in
    let here : c.loop-n.n < length (card c.args.answer c.args.records.now) = omega (arith, inv.counted) in
    record {
      within = omega arith;
      counted = inv.counted;
      printed = printed_more _ _ _ _ _ here c.line_at.ensures
          (line_written _ _ _ _ c.write_line-size.ensures.fits c.write_line-size.ensures.writes_out) inv.printed
          (not_failed _ _ c.is_err.ensures.value c.if-is_err.false c.write_all.ensures.bytes);
    }

pub returns-clause-bytes : goal.returns-clause-bytes
unfolding card_bytes
returns-clause-bytes g c e = printed_all _ _ _ _ (omega (arith, c.loop-n.invariant.counted)) c.loop-n.invariant.printed
