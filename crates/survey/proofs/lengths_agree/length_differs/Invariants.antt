use Rattle.maps.proofs.Laws.LengthsAgree.{Comparing}
use Rattle.survey.proofs.lengths_agree.length_differs.Given as goal

abbrev pub invariant-loop-d : goal.invariant-loop-d
invariant-loop-d l = Comparing l.text l.note l.lengths l.d
