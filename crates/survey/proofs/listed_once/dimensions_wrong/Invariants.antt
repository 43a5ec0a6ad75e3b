use Rattle.maps.proofs.Laws.ListedOnce.{Judging}
use Rattle.survey.proofs.listed_once.dimensions_wrong.Given as goal

abbrev pub invariant-loop-d : goal.invariant-loop-d
invariant-loop-d l = Judging l.text l.matrix l.maps l.lengths l.d
