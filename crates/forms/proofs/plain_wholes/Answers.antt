use Rattle.forms.proofs.Laws.Passed.{passing}
use Rattle.forms.proofs.plain_wholes.Goals as goal

pub loop-at-smaller : goal.loop-at-smaller
loop-at-smaller c = search passing

pub loop-at-preserved : goal.loop-at-preserved
loop-at-preserved c = search passing
