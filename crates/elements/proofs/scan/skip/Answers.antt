use Rattle.nodes.proofs.Laws.Skip.{skipping}
use Rattle.elements.proofs.scan.skip.Goals as goal

pub returns-in-Open : goal.returns-in-Open
returns-in-Open c = search skipping

pub returns-in-Bare : goal.returns-in-Bare
returns-in-Bare c = search skipping

pub returns-in_err-i : goal.returns-in_err-i
returns-in_err-i c = search skipping
