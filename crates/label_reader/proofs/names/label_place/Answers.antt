use mathlib.Core.Path.{refl}
use Rattle.label_reader.proofs.Laws.Names.{naming_label, label_refused}
use Rattle.label_reader.proofs.names.label_place.Goals as goal

pub returns-then-n-ne0 : goal.returns-then-n-ne0
returns-then-n-ne0 c =
    label_refused c.args.text.now c.args.lengths.now c.args.dimension c.args.index.0 c.args.key
    c.number_before-n.ensures c.if-n-ne0.true refl refl refl

pub returns-in-Some : goal.returns-in-Some
returns-in-Some c = search naming_label

pub returns-in-None : goal.returns-in-None
returns-in-None c = search naming_label

pub named_there-requires : goal.named_there-requires
named_there-requires c = search naming_label

pub enum_known-t : goal.enum_known-t
enum_known-t c = search naming_label

pub place_in-requires : goal.place_in-requires
place_in-requires c = search naming_label

pub enum_told-1 : goal.enum_told-1
enum_told-1 c = search naming_label
