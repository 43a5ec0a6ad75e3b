use Rattle.std.proofs.Common.{arith, ◌<◌}
use Rattle.shortlist.proofs.Laws.Walking.{walking}
use Rattle.shortlisting.proofs.runs.runs_of.Goals as goal

pub offset_bounds-made-made : goal.offset_bounds-made-made
offset_bounds-made-made c = let room : c.loop-at.made.count < 64 = search walking in omega arith

pub bounds-made-made : goal.bounds-made-made
bounds-made-made c = search walking

pub overflow_add-made : goal.overflow_add-made
overflow_add-made c = let room : c.loop-at.made.count < 64 = search walking in omega arith

pub loop-at-preserved : goal.loop-at-preserved
loop-at-preserved c = search walking

pub returns : goal.returns
returns c = search walking
