use Rattle.steps.proofs.Laws.Prologue.{asides}
use Rattle.markup.proofs.prolog.asides_end.Goals as goal

pub returns-then-not-starts : goal.returns-then-not-starts
returns-then-not-starts c = search asides

pub loop-at-smaller : goal.loop-at-smaller
loop-at-smaller c = search asides

pub loop-at-preserved : goal.loop-at-preserved
loop-at-preserved c = search asides

pub returns-in_err-i : goal.returns-in_err-i
returns-in_err-i c = rw c.from_residual.ensures (search asides)
