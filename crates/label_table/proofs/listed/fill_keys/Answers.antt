use Rattle.label_table.proofs.Laws.Labels.{writing}
use Rattle.label_table.proofs.listed.fill_keys.Goals as goal

pub first_label-kid-requires : goal.first_label-kid-requires
first_label-kid-requires c = search writing

pub loop-n-init : goal.loop-n-init
loop-n-init c = search writing

pub enum_known-kid : goal.enum_known-kid
enum_known-kid c = search writing

pub key_of-requires : goal.key_of-requires
key_of-requires c = search writing

pub offset_bounds-keys-n : goal.offset_bounds-keys-n
offset_bounds-keys-n c = search writing

pub bounds-keys-n : goal.bounds-keys-n
bounds-keys-n c = search writing

pub next_label-kid-requires : goal.next_label-kid-requires
next_label-kid-requires c = search writing

pub loop-n-smaller : goal.loop-n-smaller
loop-n-smaller c = search writing

pub loop-n-preserved : goal.loop-n-preserved
loop-n-preserved c = search writing

pub enum_told-1 : goal.enum_told-1
enum_told-1 c = search writing

pub shape_of-keys : goal.shape_of-keys
shape_of-keys c = search writing

pub returns : goal.returns
returns c = search writing

pub returns-in_default : goal.returns-in_default
returns-in_default c = search writing
