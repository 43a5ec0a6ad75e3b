use Rattle.std.proofs.Common.{refl}
use Prim.Native.Nat.{◌<◌}
use native.Mathlib.Omega.{arith}
use lib.ListN.{length}
use Rattle.nodes.proofs.Laws.Skip.{scanning, scan_none, scan_ends, scan_stuck, scan_past, scan_past_less, scan_room}
use Rattle.nodes.proofs.Laws.Skip.{scan_open, scan_open_less, scan_flat, scan_flat_less}
use Rattle.elements.proofs.scan.contents_end.Goals as goal

pub loop-j-init : goal.loop-j-init
loop-j-init c = search scanning

pub returns-in_err-j : goal.returns-in_err-j
returns-in_err-j c = rw c.from_residual.ensures (scan_none _ _ _ _ c.loop-j.invariant c.to_tag.ensures c.sign_at.ensures c.in_err-j.was)

pub returns-then-depth-eq0 : goal.returns-then-depth-eq0
returns-then-depth-eq0 c = scan_ends _ _ _ _ c.loop-j.invariant c.to_tag.ensures c.sign_at.ensures c.in_ok-j.was c.in-Close.is c.if-depth-eq0.true

pub returns-in_err-i-in-Close : goal.returns-in_err-i-in-Close
returns-in_err-i-in-Close c =
    rw c.from_residual-in_err-i-in-Close.ensures
    (scan_stuck _ _ _ _ c.loop-j.invariant c.to_tag.ensures c.sign_at.ensures c.in_ok-j.was c.in-Close.is c.if-depth-eq0.false c.past_tag.ensures c.in_err-i-in-Close.was)

pub loop-j-smaller-in-Close : goal.loop-j-smaller-in-Close
loop-j-smaller-in-Close c =
    scan_past_less _ _ _ _ c.loop-j.invariant c.to_tag.ensures c.sign_at.ensures c.in_ok-j.was c.in-Close.is c.if-depth-eq0.false c.past_tag.ensures c.in_ok-i-in-Close.was

pub loop-j-preserved-in-Close : goal.loop-j-preserved-in-Close
loop-j-preserved-in-Close c =
    scan_past _ _ _ _ c.loop-j.invariant c.to_tag.ensures c.sign_at.ensures c.in_ok-j.was c.in-Close.is c.if-depth-eq0.false c.past_tag.ensures c.in_ok-i-in-Close.was refl

pub overflow_add-depth : goal.overflow_add-depth
overflow_add-depth c =
    let h : c.loop-j.depth < length c.args.text.now = scan_room _ _ _ _ c.loop-j.invariant c.to_tag.ensures c.sign_at.ensures c.in_ok-j.was c.in-Open.is in
    omega arith

pub loop-j-smaller-in-Open : goal.loop-j-smaller-in-Open
loop-j-smaller-in-Open c = scan_open_less _ _ _ _ c.loop-j.invariant c.to_tag.ensures c.sign_at.ensures c.in_ok-j.was c.in-Open.is

pub loop-j-preserved-in-Open : goal.loop-j-preserved-in-Open
loop-j-preserved-in-Open c = scan_open _ _ _ _ c.loop-j.invariant c.to_tag.ensures c.sign_at.ensures c.in_ok-j.was c.in-Open.is

pub loop-j-smaller : goal.loop-j-smaller
loop-j-smaller c = scan_flat_less _ _ _ _ c.loop-j.invariant c.to_tag.ensures c.sign_at.ensures c.in_ok-j.was c.in-Flat.is

pub loop-j-preserved : goal.loop-j-preserved
loop-j-preserved c = scan_flat _ _ _ _ c.loop-j.invariant c.to_tag.ensures c.sign_at.ensures c.in_ok-j.was c.in-Flat.is
