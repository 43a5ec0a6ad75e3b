use Rattle.label_table.proofs.Laws.Labels.{Writing}
use Rattle.label_table.proofs.listed.fill_keys.Given as goal

abbrev pub invariant-loop-n : goal.invariant-loop-n
invariant-loop-n l = Writing l.text l.at l.initial.keys l.keys l.n l.kid
