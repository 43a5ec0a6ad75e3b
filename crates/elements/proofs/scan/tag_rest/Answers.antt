use Rattle.elements.proofs.Laws.Tags.{tag_turns}
use Rattle.elements.proofs.scan.tag_rest.Goals as goal

pub loop-at-init : goal.loop-at-init
loop-at-init c = search tag_turns

pub returns-then-text-j : goal.returns-then-text-j
returns-then-text-j c = search tag_turns

pub returns-then-ends_tag : goal.returns-then-ends_tag
returns-then-ends_tag c = search tag_turns

pub to_quote-k-requires : goal.to_quote-k-requires
to_quote-k-requires c = search tag_turns

pub returns-then-text-k : goal.returns-then-text-k
returns-then-text-k c = search tag_turns

pub loop-at-preserved : goal.loop-at-preserved
loop-at-preserved c = search tag_turns
