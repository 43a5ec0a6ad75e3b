use native.Mathlib.Omega.{arith}
use Rattle.nodes.proofs.Laws.Texts.{stepping, ends_inside}
use Rattle.inside.proofs.texts.outside_at.Goals as goal

pub overflow_add-result-in-Some-mark_end : goal.overflow_add-result-in-Some-mark_end
overflow_add-result-in-Some-mark_end c = omega (arith, ends_inside _ _ c.mark_end.ensures c.in-Some-mark_end.is)

pub returns-in-Text : goal.returns-in-Text
returns-in-Text c = search stepping

pub returns-in-Close : goal.returns-in-Close
returns-in-Close c = search stepping

pub returns-in-Some : goal.returns-in-Some
returns-in-Some c = search stepping

pub returns-in-None : goal.returns-in-None
returns-in-None c = search stepping

pub returns-in-Some-comment_end : goal.returns-in-Some-comment_end
returns-in-Some-comment_end c = search stepping

pub returns-in-None-comment_end : goal.returns-in-None-comment_end
returns-in-None-comment_end c = search stepping

pub returns-in-Some-mark_end : goal.returns-in-Some-mark_end
returns-in-Some-mark_end c = search stepping

pub returns-in-None-mark_end : goal.returns-in-None-mark_end
returns-in-None-mark_end c = search stepping
