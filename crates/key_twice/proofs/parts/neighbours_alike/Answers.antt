use Rattle.key_twice.proofs.Laws.Parts.{looking}
use Rattle.key_twice.proofs.parts.neighbours_alike.Goals as goal

pub returns-then-keys-eq0 : goal.returns-then-keys-eq0
returns-then-keys-eq0 c = search looking

pub loop-i-init : goal.loop-i-init
loop-i-init c = search looking

pub returns-then-x-last : goal.returns-then-x-last
returns-then-x-last c = search looking

pub loop-i-preserved : goal.loop-i-preserved
loop-i-preserved c = search looking

pub returns : goal.returns
returns c = search looking
