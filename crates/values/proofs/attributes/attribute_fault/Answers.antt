use Rattle.values.proofs.Laws.InTurn.{asking, asked_spared}
use Rattle.values.proofs.attributes.attribute_fault.Goals as goal

pub returns-in-Some : goal.returns-in-Some
returns-in-Some c = search asking

pub attribute_cell-w-requires : goal.attribute_cell-w-requires
attribute_cell-w-requires c = search asking

pub word-requires : goal.word-requires
word-requires c = search asking

pub seek-here-requires : goal.seek-here-requires
seek-here-requires c = search asking

pub attribute_cell-requires : goal.attribute_cell-requires
attribute_cell-requires c = search asking

pub returns-in-None : goal.returns-in-None
returns-in-None c = search asking

pub returns-in-None-2 : goal.returns-in-None-2
returns-in-None-2 c = search asking
