use Rattle.maps.proofs.Laws.Survey.{Surveying}
use Rattle.nodes.proofs.Laws.Along.{Along}
use Rattle.nodes.proofs.Laws.Children.{left}
use Rattle.noting.proofs.survey.maps_of.Given as goal

abbrev pub invariant-loop-kid : goal.invariant-loop-kid
invariant-loop-kid l = Along l.text (Surveying l.text l.matrix l.maps) l.kid

abbrev pub decreases-loop-kid : goal.decreases-loop-kid
decreases-loop-kid l = left l.text l.kid
