use Rattle.numbers.proofs.Laws.Quick.{spacing, by_feed}
use Rattle.number_lists.proofs.quick.is_space_or_feed.Goals as goal

pub returns-then-b-eq32 : goal.returns-then-b-eq32
returns-then-b-eq32 c = search spacing

pub returns : goal.returns
returns c = by_feed _ c.if-b-eq32.false
