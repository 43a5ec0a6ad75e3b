use Rattle.std.proofs.Common.{rules, arith}
use Rattle.input.proofs.Laws.Came.{byte_came, no_feed_yet}
use Rattle.input.proofs.line.read_line.Goals as goal

pub loop-n-preserved : goal.loop-n-preserved
loop-n-preserved g c = record {
  within = search rules;
  so_far = byte_came _ _ _ _ _ _ _ c.loop-n-test.true (omega arith) c.in-Ok.ensures.bound.0 (search rules) c.loop-n.invariant.so_far c.in-Ok.ensures.bytes.0;
  no_feed = no_feed_yet _ _ _ c.loop-n-test.true c.if-byte-eq10.false c.loop-n.invariant.no_feed;
}
