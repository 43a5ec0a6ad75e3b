use Rattle.nodes.proofs.Laws.Fronts.{Fronting}
use Rattle.inside.proofs.values.past_word.Given as goal

abbrev pub invariant-loop-want : goal.invariant-loop-want
invariant-loop-want l = Fronting l.text l.quote l.word l.at l.want-index l.i
