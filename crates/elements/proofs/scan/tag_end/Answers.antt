use Rattle.nodes.proofs.Laws.Scan.{whole_tag}
use Rattle.elements.proofs.scan.tag_end.Goals as goal

pub returns-then-text-at : goal.returns-then-text-at
returns-then-text-at c = search whole_tag

pub returns : goal.returns
returns c = search whole_tag
