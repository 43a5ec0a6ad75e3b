use Rattle.number_lists.proofs.Laws.Within.{passing_blanks}
use Rattle.number_lists.proofs.listed.plain_blanks.Goals as goal

pub loop-i-preserved : goal.loop-i-preserved
loop-i-preserved c = search passing_blanks
