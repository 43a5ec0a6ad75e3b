use Rattle.array_keys.specs.Ahead.{keys_left}
use Rattle.array_keys.specs.Rows.{Run}
use Rattle.array_keys.proofs.rows.fill_from.Given as goal

abbrev pub invariant-loop-keys : goal.invariant-loop-keys
invariant-loop-keys l = Run l.encoding l.text l.initial.here l.initial.n l.initial.keys l.here l.n l.keys

abbrev pub decreases-loop-keys : goal.decreases-loop-keys
decreases-loop-keys l = keys_left l.text l.here
