use Rattle.table.proofs.Laws.Twice.{key_twice, key_told}
use Rattle.filling.proofs.twice.key_twice.Goals as goal

pub returns : goal.returns
returns c =
    key_told c.args.work.now c.requires c.to_keys.ensures c.repeats_in.ensures

pub to_keys-requires : goal.to_keys-requires
to_keys-requires c = search key_twice

pub repeats_in-requires : goal.repeats_in-requires
repeats_in-requires c = search key_twice

pub shape_of-work : goal.shape_of-work
shape_of-work c = search key_twice
