use Rattle.maps.proofs.Laws.LengthsAgree.{Agree}
use Rattle.maps.specs.Ready.{maps_at}
use Rattle.maps.proofs.Laws.Over.{Over}
use Rattle.survey.proofs.lengths_agree.length_wrong.Given as goal

abbrev pub invariant-loop-i : goal.invariant-loop-i
invariant-loop-i l = Over l.text l.maps (Agree l.lengths (maps_at l.text l.maps)) l.i
