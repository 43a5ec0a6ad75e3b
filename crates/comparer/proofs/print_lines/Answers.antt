use Rattle.std.proofs.Common.{arith, refl, sym, ap, ◌∙◌, ◌≡◌, ◌+◌, length}
use Rattle.card.proofs.Laws.Printed.{line_written, not_failed}
use Rattle.comparer.proofs.Laws.Output.{line_fits}
use Rattle.comparer.proofs.Laws.Lines.{bytes_below, bytes_none, bytes_few, bytes_next, bytes_all, line_small, printed_none, printed_next, printed_all}
use Rattle.comparer.proofs.print_lines.Goals as goal

pub loop-n-init : goal.loop-n-init
loop-n-init g c = record {
  within = omega arith;
  counted = refl;
  few = c.requires;
  told = sym (bytes_none _ _);
  printed = printed_none _ _ _;
}

pub overflow_add-written : goal.overflow_add-written
overflow_add-written g c =
    let n = c.loop-n.n in
    let a = c.args.first.now in
    let b = c.args.second.now in
    let inv = c.loop-n.invariant in
    let small = line_small a b n c.write_change-size.ensures.writes_out (omega arith) in
    omega (arith, bytes_few a b n, small, inv.told, inv.few, inv.within)

pub loop-n-preserved : goal.loop-n-preserved
loop-n-preserved g c =
    let n = c.loop-n.n in
    let a = c.args.first.now in
    let b = c.args.second.now in
    let inv = c.loop-n.invariant in
    let next = bytes_next a b n c.write_change-size.ensures.writes_out (omega arith) in
    record {
      within = omega arith;
      counted = refl;
      few = c.requires;
      told = omega (arith, inv.told, next);
      printed = printed_next a b _ _ _ n (line_written _ _ _ _ (line_fits a b n) c.write_change-size.ensures.writes_out) inv.printed
          (not_failed _ _ c.is_err.ensures.value c.if-is_err.false c.write_all.ensures.bytes);
    }

pub returns-clause-count : goal.returns-clause-count
returns-clause-count g c e =
    let a = c.args.first.now in
    let b = c.args.second.now in
    let inv = c.loop-n.invariant in
    let all : c.loop-n.n ≡ length a + length b = omega (arith, inv.within) in
    inv.told ∙ ap (bytes_below a b) all ∙ bytes_all a b

pub returns-clause-bytes : goal.returns-clause-bytes
returns-clause-bytes g c e = printed_all _ _ _ _ _ (omega (arith, c.loop-n.invariant.within)) c.loop-n.invariant.printed
