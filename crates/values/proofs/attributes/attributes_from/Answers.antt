use Rattle.values.proofs.Laws.InTurn.{beginning, unnamed_begin}
use Rattle.values.proofs.attributes.attributes_from.Goals as goal

pub returns-then-text-at : goal.returns-then-text-at
returns-then-text-at c = search beginning

pub returns-in-Some : goal.returns-in-Some
returns-in-Some c = search beginning

pub returns-in-None : goal.returns-in-None
returns-in-None c =
    unnamed_begin c.args.text.now c.args.at c.name_end.ensures c.in-None.is
