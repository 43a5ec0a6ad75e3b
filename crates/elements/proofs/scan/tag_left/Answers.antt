use Rattle.elements.proofs.Laws.Tags.{tag_now}
use Rattle.elements.proofs.scan.tag_left.Goals as goal

pub returns-then-ends_tag : goal.returns-then-ends_tag
returns-then-ends_tag c = search tag_now
