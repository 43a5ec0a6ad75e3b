use Rattle.nodes.specs.Texts.{left}
use Rattle.array_keys.specs.Ahead.{encoding_if}
use Rattle.array_keys.specs.Rows.{Run, bare_at}
use Rattle.array_keys.proofs.rows.quick_keys.Given as goal

abbrev pub invariant-loop-keys : goal.invariant-loop-keys
invariant-loop-keys l = Run (encoding_if l.little) l.text (bare_at l.from) l.first l.initial.keys (bare_at l.at) l.n l.keys

abbrev pub decreases-loop-keys : goal.decreases-loop-keys
decreases-loop-keys l = left l.text l.at
