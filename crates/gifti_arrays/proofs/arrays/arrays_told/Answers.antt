use Rattle.gifti_arrays.proofs.Laws.Arrays.{walking, walking_more}
use Rattle.gifti_arrays.proofs.arrays.arrays_told.Goals as goal

pub first_child-kid-requires : goal.first_child-kid-requires
first_child-kid-requires c = search walking

pub loop-kid-init : goal.loop-kid-init
loop-kid-init c = search walking

pub enum_known-kid : goal.enum_known-kid
enum_known-kid c = search walking

pub next_child-kid-requires : goal.next_child-kid-requires
next_child-kid-requires c = search walking

pub name_is-requires : goal.name_is-requires
name_is-requires c = search walking

pub array_told-told-requires : goal.array_told-told-requires
array_told-told-requires c = search walking

pub overflow_add-arrays : goal.overflow_add-arrays
overflow_add-arrays c = search walking

pub overflow_add-keys : goal.overflow_add-keys
overflow_add-keys c = search walking

pub overflow_add-known : goal.overflow_add-known
overflow_add-known c = search walking

pub loop-kid-smaller-then-name_is : goal.loop-kid-smaller-then-name_is
loop-kid-smaller-then-name_is c = search walking

pub loop-kid-preserved-then-name_is : goal.loop-kid-preserved-then-name_is
loop-kid-preserved-then-name_is c =
    walking_more c.loop-kid.invariant c.in-Some.is c.name_is.ensures c.if-name_is.true
    c.array_told-told.ensures c.next_child-kid.ensures

pub loop-kid-smaller : goal.loop-kid-smaller
loop-kid-smaller c = search walking

pub loop-kid-preserved : goal.loop-kid-preserved
loop-kid-preserved c = search walking

pub enum_told-1 : goal.enum_told-1
enum_told-1 c = search walking

pub returns-in-None : goal.returns-in-None
returns-in-None c = search walking
