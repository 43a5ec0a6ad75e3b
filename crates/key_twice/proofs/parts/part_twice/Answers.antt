use Rattle.key_twice.proofs.Laws.Parts.{parting, part_later}
use Rattle.key_twice.proofs.parts.part_twice.Goals as goal

pub returns-then-neighbours_alike : goal.returns-then-neighbours_alike
returns-then-neighbours_alike c = search parting

pub returns : goal.returns
returns c = part_later _ _ c.neighbours_alike.ensures c.if-neighbours_alike.false c.one_of_later.ensures

pub neighbours_alike-requires : goal.neighbours_alike-requires
neighbours_alike-requires c = search parting

pub one_of_later-requires : goal.one_of_later-requires
one_of_later-requires c = search parting
