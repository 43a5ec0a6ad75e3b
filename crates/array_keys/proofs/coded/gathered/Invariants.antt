use Rattle.array_keys.proofs.Laws.Gathered.{Gathering}
use Rattle.nodes.specs.Texts.{left}
use Rattle.array_keys.proofs.coded.gathered.Given as goal

abbrev pub invariant-loop-bytes : goal.invariant-loop-bytes
invariant-loop-bytes l = Gathering l.text l.initial.at l.initial.held l.initial.bytes l.at l.held l.bytes

abbrev pub decreases-loop-bytes : goal.decreases-loop-bytes
decreases-loop-bytes l = left l.text l.at
