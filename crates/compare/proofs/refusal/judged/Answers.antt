use Rattle.std.proofs.Common.{arith}
use Rattle.comparison.proofs.Laws.Accepted.{fine}
use Rattle.compare.proofs.Laws.Rows.{judged_form, judged_words, judged_fine}
use Rattle.compare.proofs.refusal.judged.Goals as goal

pub opened-requires : goal.opened-requires
opened-requires c = (fine _ (judged_fine c.unpack.ensures (omega arith) (omega arith))).0

pub returns-in-15 : goal.returns-in-15
returns-in-15 c = judged_form c.unpack.ensures c.in-15.is

pub returns-in-16 : goal.returns-in-16
returns-in-16 c = judged_words c.unpack.ensures c.in-16.is

pub returns-in_default : goal.returns-in_default
returns-in_default c = (c.opened.ensures, judged_fine c.unpack.ensures (omega arith) (omega arith))
