use borrow.Author.Rules.{rules}
use Rattle.key_twice.proofs.Laws.Parts.{meeting, meeting_found}
use Rattle.key_twice.proofs.parts.one_sifted.Goals as goal

pub returns-then-place_in-keys : goal.returns-then-place_in-keys
returns-then-place_in-keys c = search (meeting_found, rules)

pub loop-kid-smaller-else-place_in-keys : goal.loop-kid-smaller-else-place_in-keys
loop-kid-smaller-else-place_in-keys c = search meeting

pub loop-kid-preserved-else-place_in-keys : goal.loop-kid-preserved-else-place_in-keys
loop-kid-preserved-else-place_in-keys c = search meeting

pub loop-kid-smaller : goal.loop-kid-smaller
loop-kid-smaller c = search meeting

pub loop-kid-preserved : goal.loop-kid-preserved
loop-kid-preserved c = search meeting

pub returns-in-None : goal.returns-in-None
returns-in-None c = search meeting
