use Rattle.std.proofs.Common.{rules}
use Rattle.nifti.proofs.Laws.Front.{list_empty, list_past, list_walked}
use Rattle.nifti.proofs.Laws.Reads.{end_after}
use Rattle.front.proofs.list.text_body.Goals as goal

pub returns-then-file-eq0 : goal.returns-then-file-eq0
returns-then-file-eq0 c = search (list_empty, rules)

pub returns-then-file-end : goal.returns-then-file-end
returns-then-file-end c = search (list_past, rules)

pub walked-requires : goal.walked-requires
walked-requires c = search (end_after, rules)

pub returns : goal.returns
returns c = search (list_walked, rules)
