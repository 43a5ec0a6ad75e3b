use Rattle.number_lists.proofs.Laws.Within.{reading}
use Rattle.number_lists.proofs.listed.plain_digits.Goals as goal

pub loop-i-preserved : goal.loop-i-preserved
loop-i-preserved c = search reading
