use Rattle.std.proofs.Common.{sym, ◌∙◌, rules}
use Rattle.steps.proofs.Laws.Heads.{head_none, head_other, head_no_name, head_no_list, head_all}
use Rattle.heads.proofs.attributes.head_end.Goals as goal

pub returns-in_err-get : goal.returns-in_err-get
returns-in_err-get c = rw c.from_residual.ensures (search (head_none, rules))

pub returns-then-branch-ne60 : goal.returns-then-branch-ne60
returns-then-branch-ne60 c = search (head_other, rules)

pub returns-in_err-i : goal.returns-in_err-i
returns-in_err-i c = search (head_no_name, rules)

pub returns-in_err-j : goal.returns-in_err-j
returns-in_err-j c = search (head_no_list, rules)

pub returns : goal.returns
returns c =
    let there = c.in_ok-get.ensures.lookup.3 in
    head_all _ _ there.0 (sym (there.1 0) ∙ c.if-branch-ne60.false) c.name_end.ensures c.in_ok-i.was c.attributes_end.ensures c.in_ok-j.was c.blanks_end.ensures
