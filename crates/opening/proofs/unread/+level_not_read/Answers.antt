use Rattle.opening.proofs.Laws.Unread.{levelling}
use Rattle.opening.proofs.unread.+level_not_read.Goals as goal

pub returns-then-level-eq0 : goal.returns-then-level-eq0
returns-then-level-eq0 t c = search levelling

pub loop-kid-init : goal.loop-kid-init
loop-kid-init t c = search levelling

pub level_not_read-requires : goal.level_not_read-requires
level_not_read-requires t c = search levelling

pub returns-then-level_not_read : goal.returns-then-level_not_read
returns-then-level_not_read t c = search levelling

pub loop-kid-smaller-else-level_not_read : goal.loop-kid-smaller-else-level_not_read
loop-kid-smaller-else-level_not_read t c = search levelling

pub loop-kid-preserved-else-level_not_read : goal.loop-kid-preserved-else-level_not_read
loop-kid-preserved-else-level_not_read t c = search levelling

pub loop-kid-smaller : goal.loop-kid-smaller
loop-kid-smaller t c = search levelling

pub loop-kid-preserved : goal.loop-kid-preserved
loop-kid-preserved t c = search levelling

pub returns-in-None : goal.returns-in-None
returns-in-None t c = search levelling
