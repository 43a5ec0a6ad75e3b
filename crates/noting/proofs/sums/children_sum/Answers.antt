use Rattle.maps.proofs.Laws.Sums.{summing}
use Rattle.noting.proofs.sums.children_sum.Goals as goal

pub loop-next-init : goal.loop-next-init
loop-next-init c = search summing

pub weight-n-requires : goal.weight-n-requires
weight-n-requires c = search summing

pub volume_met-seen-requires : goal.volume_met-seen-requires
volume_met-seen-requires c = search summing

pub loop-next-smaller : goal.loop-next-smaller
loop-next-smaller c = search summing

pub loop-next-preserved : goal.loop-next-preserved
loop-next-preserved c = search summing

pub returns-in-End : goal.returns-in-End
returns-in-End c = search summing

pub returns-in-Stray : goal.returns-in-Stray
returns-in-Stray c = search summing

pub ahead_first-next-requires : goal.ahead_first-next-requires
ahead_first-next-requires c = search summing

pub enum_known-next : goal.enum_known-next
enum_known-next c = search summing

pub overflow_add-n : goal.overflow_add-n
overflow_add-n c = search summing

pub ahead_behind-next-requires : goal.ahead_behind-next-requires
ahead_behind-next-requires c = search summing

pub enum_known-next-in-End-1 : goal.enum_known-next-in-End-1
enum_known-next-in-End-1 c = search summing

pub enum_told-1 : goal.enum_told-1
enum_told-1 c = search summing
