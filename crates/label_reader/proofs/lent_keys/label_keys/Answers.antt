use Rattle.label_reader.proofs.Laws.Keys.{keying, keys_found}
use Rattle.label_reader.proofs.lent_keys.label_keys.Goals as goal

pub returns-then-n-ne0 : goal.returns-then-n-ne0
returns-then-n-ne0 c = search keying

pub returns-in-Some : goal.returns-in-Some
returns-in-Some c =
    keys_found c.args.text.now c.args.lengths.now c.args.dimension c.args.index.0 c.args.keys.now
    c.number_before-n.ensures c.if-n-ne0.false c.named_there.ensures c.keys_from.ensures
    c.in-Some.is

pub returns-in-None : goal.returns-in-None
returns-in-None c = search keying

pub number_before-n-requires : goal.number_before-n-requires
number_before-n-requires c = search keying

pub named_there-requires : goal.named_there-requires
named_there-requires c = search keying

pub enum_known-t : goal.enum_known-t
enum_known-t c = search keying

pub keys_from-requires : goal.keys_from-requires
keys_from-requires c = search keying

pub enum_told-1 : goal.enum_told-1
enum_told-1 c = search keying

pub shape_of-keys : goal.shape_of-keys
shape_of-keys c = search keying
