use Rattle.numbers.proofs.Laws.Read.{running}
use Rattle.number_lists.proofs.chars.digits.Goals as goal

pub overflow_mul-n : goal.overflow_mul-n
overflow_mul-n c = search running

pub loop-k-preserved : goal.loop-k-preserved
loop-k-preserved c = search running

pub returns-in_default : goal.returns-in_default
returns-in_default c = search running

pub returns-in_default-2 : goal.returns-in_default-2
returns-in_default-2 c = search running

pub returns : goal.returns
returns c = search running

pub overflow_add-n : goal.overflow_add-n
overflow_add-n c = search running
