use Rattle.numbers.proofs.Laws.Quick.{counting}
use Rattle.number_lists.proofs.quick.six_digits.Goals as goal

pub loop-k-preserved : goal.loop-k-preserved
loop-k-preserved c = search counting
