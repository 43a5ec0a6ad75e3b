use Rattle.inside.proofs.Laws.Treads.{seeking_start, seeking_done, seeking_less, seeking_off, seeking_found, seeking_more, called_is, named_found}
use Rattle.inside.proofs.ways.child_named.Goals.{then-name_is+else-left-eq0, else-name_is}
use Rattle.inside.proofs.ways.child_named.Goals as goal

pub loop-k-init : goal.loop-k-init
loop-k-init c = seeking_start _ _ c.first_child-kid.ensures

pub returns-in_err-k : goal.returns-in_err-k
returns-in_err-k c = rw c.from_residual.ensures (named_found _ _ _ _ (seeking_done c.loop-k.invariant c.in_err-k.was))

pub returns-then-left-eq0 : goal.returns-then-left-eq0
returns-then-left-eq0 c = named_found _ _ _ _ (seeking_found c.loop-k.invariant c.in_ok-k.was (called_is _ _ _ c.name_is.ensures) c.if-name_is.true c.if-left-eq0.true)

pub loop-k-smaller : goal.loop-k-smaller
loop-k-smaller c = seeking_less c.loop-k.invariant c.in_ok-k.was c.next_child-kid.ensures

pub loop-k-preserved : goal.loop-k-preserved
loop-k-preserved c = elim c.if-name_is.branch [
  | then-name_is+else-left-eq0 w ↦ rw w.left-is (seeking_more c.loop-k.invariant c.in_ok-k.was (called_is _ _ _ c.name_is.ensures) w.if-name_is.true w.if-left-eq0.false c.next_child-kid.ensures)
  | else-name_is w ↦ rw w.left-is (seeking_off c.loop-k.invariant c.in_ok-k.was (called_is _ _ _ c.name_is.ensures) w.if-name_is.false c.next_child-kid.ensures)
]
