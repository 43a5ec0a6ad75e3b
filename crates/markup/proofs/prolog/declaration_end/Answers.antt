use Rattle.std.proofs.lemmas.Bool.{not_from_true}
use Rattle.steps.proofs.Laws.Prologue.{declarations, declaration_other, declaration_unversioned, declaration_uncoded, declaration_whole}
use Rattle.markup.proofs.prolog.declaration_end.Goals as goal

pub returns-then-not-starts : goal.returns-then-not-starts
returns-then-not-starts c = search declarations

pub returns-in_err-i : goal.returns-in_err-i
returns-in_err-i c = rw c.from_residual.ensures (declaration_other _ c.starts.ensures (not_from_true _ c.if-not-starts.false) c.mark_end.ensures c.in_err-i.was)

pub returns-in_err-j : goal.returns-in_err-j
returns-in_err-j c = rw c.from_residual-in_err-j.ensures (declaration_unversioned _ c.starts.ensures (not_from_true _ c.if-not-starts.false) c.mark_end.ensures c.in_ok-i.was c.setting_end.ensures c.in_err-j.was)

pub returns-in_err-k : goal.returns-in_err-k
returns-in_err-k c = rw c.from_residual-in_err-k.ensures (declaration_uncoded _ c.starts.ensures (not_from_true _ c.if-not-starts.false) c.mark_end.ensures c.in_ok-i.was c.setting_end.ensures c.in_ok-j.was c.encoding_end.ensures c.in_err-k.was)

pub returns : goal.returns
returns c = declaration_whole _ c.starts.ensures (not_from_true _ c.if-not-starts.false) c.mark_end.ensures c.in_ok-i.was c.setting_end.ensures c.in_ok-j.was c.encoding_end.ensures c.in_ok-k.was c.blanks_end.ensures c.mark_end-2.ensures
