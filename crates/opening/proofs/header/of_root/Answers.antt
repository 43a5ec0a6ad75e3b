use Rattle.opening.proofs.Laws.Opening.{rooted}
use Rattle.opening.proofs.header.of_root.Goals as goal

pub root_wrong-requires : goal.root_wrong-requires
root_wrong-requires c = search rooted

pub returns-then-root_wrong : goal.returns-then-root_wrong
returns-then-root_wrong c = search rooted

pub kind_not_read-requires : goal.kind_not_read-requires
kind_not_read-requires c = search rooted

pub returns-then-kind_not_read : goal.returns-then-kind_not_read
returns-then-kind_not_read c = search rooted

pub returns-then-fault-ne0 : goal.returns-then-fault-ne0
returns-then-fault-ne0 c = search rooted

pub first_child-requires : goal.first_child-requires
first_child-requires c = search rooted

pub enum_known-m : goal.enum_known-m
enum_known-m c = search rooted

pub enum_told-1 : goal.enum_told-1
enum_told-1 c = search rooted

pub returns-in-Some : goal.returns-in-Some
returns-in-Some c = search rooted

pub returns-in-None : goal.returns-in-None
returns-in-None c = search rooted
