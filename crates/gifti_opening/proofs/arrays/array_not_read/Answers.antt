use Rattle.gifti_opening.proofs.Laws.Arrays.{reading_arrays}
use Rattle.gifti_opening.proofs.arrays.array_not_read.Goals as goal

pub loop-kid-init : goal.loop-kid-init
loop-kid-init c = search reading_arrays

pub is_unread-requires : goal.is_unread-requires
is_unread-requires c = search reading_arrays

pub returns-then-is_unread : goal.returns-then-is_unread
returns-then-is_unread c = search reading_arrays

pub loop-kid-smaller-else-is_unread : goal.loop-kid-smaller-else-is_unread
loop-kid-smaller-else-is_unread c = search reading_arrays

pub loop-kid-preserved-else-is_unread : goal.loop-kid-preserved-else-is_unread
loop-kid-preserved-else-is_unread c = search reading_arrays

pub loop-kid-smaller : goal.loop-kid-smaller
loop-kid-smaller c = search reading_arrays

pub loop-kid-preserved : goal.loop-kid-preserved
loop-kid-preserved c = search reading_arrays

pub returns-in-None : goal.returns-in-None
returns-in-None c = search reading_arrays

pub first_child-kid-requires : goal.first_child-kid-requires
first_child-kid-requires c = search reading_arrays

pub enum_known-kid : goal.enum_known-kid
enum_known-kid c = search reading_arrays

pub next_child-kid-requires : goal.next_child-kid-requires
next_child-kid-requires c = search reading_arrays

pub name_is-requires : goal.name_is-requires
name_is-requires c = search reading_arrays

pub enum_told-1 : goal.enum_told-1
enum_told-1 c = search reading_arrays
