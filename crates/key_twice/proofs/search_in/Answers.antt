use Rattle.key_twice.proofs.Laws.Parts.{searching, searching_found, searching_on}
use Rattle.key_twice.proofs.search_in.Goals as goal

pub loop-kid-init : goal.loop-kid-init
loop-kid-init c = search searching

pub part_twice-requires : goal.part_twice-requires
part_twice-requires c = search searching

pub returns-then-part_twice : goal.returns-then-part_twice
returns-then-part_twice c =
    searching_found c.loop-kid.invariant c.taken-turn.ensures c.taken-turn.auto.work
    c.part_twice.ensures c.if-part_twice.true

pub loop-kid-smaller : goal.loop-kid-smaller
loop-kid-smaller c = search searching

pub loop-kid-preserved : goal.loop-kid-preserved
loop-kid-preserved c =
    searching_on c.loop-kid.invariant c.taken-turn.ensures c.taken-turn.auto.work
    c.part_twice.ensures c.if-part_twice.false

pub returns-in-None : goal.returns-in-None
returns-in-None c = search searching
