use Rattle.table.proofs.Laws.Stretches.{filling, fill_start, fill_one}
use Rattle.filling.proofs.stretches.fill_all.Goals as goal

pub loop-i-init : goal.loop-i-init
loop-i-init c = fill_start c.args.records.now c.requires

pub nth-note-requires : goal.nth-note-requires
nth-note-requires c = search filling

pub models_held-models-requires : goal.models_held-models-requires
models_held-models-requires c = search filling

pub fill_one-next-requires : goal.fill_one-next-requires
fill_one-next-requires c = search (fill_one)

pub loop-i-smaller : goal.loop-i-smaller
loop-i-smaller c = search filling

pub loop-i-preserved : goal.loop-i-preserved
loop-i-preserved c = search filling

pub shape_of-records : goal.shape_of-records
shape_of-records c = search filling

pub returns : goal.returns
returns c = search filling
