use Rattle.steps.proofs.Laws.Prologue.{settings, setting_other, setting_unequal, setting_whole}
use Rattle.markup.proofs.prolog.setting_end.Goals as goal

pub returns-in_err-i : goal.returns-in_err-i
returns-in_err-i c = rw c.from_residual.ensures (search settings)

pub returns-in_err-j : goal.returns-in_err-j
returns-in_err-j c = rw c.from_residual-in_err-j.ensures (setting_other _ _ _ _ c.gap_end.ensures c.in_ok-i.was c.mark_end.ensures c.in_err-j.was)

pub returns-in_err-k : goal.returns-in_err-k
returns-in_err-k c = rw c.from_residual-in_err-k.ensures (setting_unequal _ _ _ _ c.gap_end.ensures c.in_ok-i.was c.mark_end.ensures c.in_ok-j.was c.equals_end.ensures c.in_err-k.was)

pub returns : goal.returns
returns c = setting_whole _ _ _ _ c.gap_end.ensures c.in_ok-i.was c.mark_end.ensures c.in_ok-j.was c.equals_end.ensures c.in_ok-k.was c.quoted_end.ensures
