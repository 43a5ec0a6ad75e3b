use Rattle.models.proofs.Laws.Gathering.{gathering, gathering_room}
use Rattle.judging.proofs.gather.models_of.Goals as goal

pub loop-kid-init : goal.loop-kid-init
loop-kid-init c = search gathering

pub kind_at-kind-requires : goal.kind_at-kind-requires
kind_at-kind-requires c = search gathering

pub bounds-seen-place : goal.bounds-seen-place
bounds-seen-place c = search gathering

pub returns-then-seen-place : goal.returns-then-seen-place
returns-then-seen-place c = search gathering

pub bounds-seen-place-then-name_is : goal.bounds-seen-place-then-name_is
bounds-seen-place-then-name_is c = search gathering

pub with_model-models-requires : goal.with_model-models-requires
with_model-models-requires c =
    gathering_room c.loop-kid.invariant
    c.in-Some.is c.name_is.ensures
    c.if-name_is.true
    c.kind_at-kind.ensures c.if-seen-place.false

pub loop-kid-smaller-then-name_is : goal.loop-kid-smaller-then-name_is
loop-kid-smaller-then-name_is c = search gathering

pub loop-kid-preserved-then-name_is : goal.loop-kid-preserved-then-name_is
loop-kid-preserved-then-name_is c = search gathering

pub loop-kid-smaller : goal.loop-kid-smaller
loop-kid-smaller c = search gathering

pub loop-kid-preserved : goal.loop-kid-preserved
loop-kid-preserved c = search gathering

pub returns-in-None : goal.returns-in-None
returns-in-None c = search gathering

pub first_child-kid-requires : goal.first_child-kid-requires
first_child-kid-requires c = search gathering

pub enum_known-kid : goal.enum_known-kid
enum_known-kid c = search gathering

pub next_child-kid-requires : goal.next_child-kid-requires
next_child-kid-requires c = search gathering

pub name_is-requires : goal.name_is-requires
name_is-requires c = search gathering

pub enum_told-1 : goal.enum_told-1
enum_told-1 c = search gathering
