use Rattle.values.proofs.Laws.InTurn.{owning, walked_other}
use Rattle.values.proofs.own_fault.Goals as goal

pub attributes_fault-walk-requires : goal.attributes_fault-walk-requires
attributes_fault-walk-requires c = search owning

pub returns-then-walk-eq6 : goal.returns-then-walk-eq6
returns-then-walk-eq6 c = search owning

pub kind_cell-from-requires : goal.kind_cell-from-requires
kind_cell-from-requires c = search owning

pub kind_cell-to-requires : goal.kind_cell-to-requires
kind_cell-to-requires c = search owning

pub listed_from-listed-requires : goal.listed_from-listed-requires
listed_from-listed-requires c = search owning

pub returns-then-not-listed : goal.returns-then-not-listed
returns-then-not-listed c =
    walked_other c.requires c.attributes_fault-walk.ensures
    c.kind_cell-from.ensures.0 c.kind_cell-to.ensures.0 c.listed_from-listed.ensures c.if-not-listed.true

pub kind_cell-form-requires : goal.kind_cell-form-requires
kind_cell-form-requires c = search owning

pub text_fault-requires : goal.text_fault-requires
text_fault-requires c = search owning

pub sooner-requires : goal.sooner-requires
sooner-requires c = search owning

pub returns : goal.returns
returns c = search owning
