use Rattle.matching.proofs.Laws.Side.{as_first, as_second, going_start, going_first, going_second}
use Rattle.matching.proofs.Laws.Side.{going_pair, going_one, going_two, going_end}
use Rattle.matching.proofs.walking.Walk.set_aside.Goals as goal

pub loop-i-init : goal.loop-i-init
loop-i-init c = going_start _ _ _ c.requires.fits c.requires.single

pub next_step-requires-clause-first_in : goal.next_step-requires-clause-first_in
next_step-requires-clause-first_in c = going_first c.loop-i.invariant

pub next_step-requires-clause-second_in : goal.next_step-requires-clause-second_in
next_step-requires-clause-second_in c = going_second c.loop-i.invariant

pub loop-i-preserved-in-Pair : goal.loop-i-preserved-in-Pair
loop-i-preserved-in-Pair c = going_pair c.loop-i.invariant c.in-Pair.ensures

pub record-requires : goal.record-requires
record-requires c = as_first c.args.self.now.first c.args.self.now.second _ _ _ c.in-First.ensures

pub loop-i-preserved-in-First : goal.loop-i-preserved-in-First
loop-i-preserved-in-First c = going_one c.loop-i.invariant c.in-First.ensures c.record.ensures.is

pub second_at-requires : goal.second_at-requires
second_at-requires c = as_second c.args.self.now.first c.args.self.now.second _ _ _ c.in-Second.ensures

pub loop-i-preserved : goal.loop-i-preserved
loop-i-preserved c = going_two c.loop-i.invariant c.in-Second.ensures c.second_at.ensures.is

pub returns : goal.returns
returns c = going_end c.loop-i.invariant c.loop-i-test.false
