use Rattle.std.specs.Prelude.{◌≡◌}
use Rattle.record_doors.proofs.Laws.Numbers.{written}
use Rattle.record_doors.proofs.making.put_models.Given as goal

abbrev pub invariant-loop-i : goal.invariant-loop-i
invariant-loop-i l = l.list ≡ written l.initial.list l.models l.i
