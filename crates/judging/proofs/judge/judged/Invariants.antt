use Rattle.models.proofs.Laws.Judged.{Judging}
use Rattle.judging.proofs.judge.judged.Given as goal

abbrev pub invariant-loop-i : goal.invariant-loop-i
invariant-loop-i l = Judging l.text l.maps l.initial.work l.all l.i l.work
