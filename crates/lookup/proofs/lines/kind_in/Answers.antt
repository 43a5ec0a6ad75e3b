use Rattle.schema.proofs.Laws.Lines.{choosing_kind}
use Rattle.lookup.proofs.lines.kind_in.Goals as goal

pub returns-then-value_is : goal.returns-then-value_is
returns-then-value_is c = search choosing_kind

pub loop-i-preserved : goal.loop-i-preserved
loop-i-preserved c = search choosing_kind

pub returns : goal.returns
returns c = search choosing_kind

pub loop-i-init : goal.loop-i-init
loop-i-init c = search choosing_kind

pub case_cell-w-requires : goal.case_cell-w-requires
case_cell-w-requires c = search choosing_kind

pub word-requires : goal.word-requires
word-requires c = search choosing_kind

pub value_is-requires : goal.value_is-requires
value_is-requires c = search choosing_kind

pub case_cell-requires : goal.case_cell-requires
case_cell-requires c = search choosing_kind

pub loop-i-smaller : goal.loop-i-smaller
loop-i-smaller c = search choosing_kind
