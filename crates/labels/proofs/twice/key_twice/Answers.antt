use Rattle.labels.proofs.Laws.Twice.{twicing}
use Rattle.labels.proofs.twice.key_twice.Goals as goal

pub loop-i-init : goal.loop-i-init
loop-i-init c = search twicing

pub map_twice-requires : goal.map_twice-requires
map_twice-requires c = search twicing

pub returns-then-map_twice : goal.returns-then-map_twice
returns-then-map_twice c = search twicing

pub loop-i-preserved : goal.loop-i-preserved
loop-i-preserved c = search twicing

pub returns : goal.returns
returns c = search twicing

pub nth-note-requires : goal.nth-note-requires
nth-note-requires c = search twicing

pub loop-i-smaller : goal.loop-i-smaller
loop-i-smaller c = search twicing
