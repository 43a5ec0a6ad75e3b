use Rattle.values.proofs.Laws.InTurn.{walking}
use Rattle.values.proofs.attributes.attributes_fault.Goals as goal

pub loop-w-init : goal.loop-w-init
loop-w-init c = search walking

pub loop-w-preserved : goal.loop-w-preserved
loop-w-preserved c = search walking

pub returns : goal.returns
returns c = search walking

pub kind_cell-to-requires : goal.kind_cell-to-requires
kind_cell-to-requires c = search walking

pub kind_cell-w-requires : goal.kind_cell-w-requires
kind_cell-w-requires c = search walking

pub attributes_from-i-requires : goal.attributes_from-i-requires
attributes_from-i-requires c = search walking

pub attribute_fault-next-requires : goal.attribute_fault-next-requires
attribute_fault-next-requires c = search walking

pub sooner-worst-requires : goal.sooner-worst-requires
sooner-worst-requires c = search walking

pub loop-w-smaller : goal.loop-w-smaller
loop-w-smaller c = search walking
