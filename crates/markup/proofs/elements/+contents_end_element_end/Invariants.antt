use Rattle.std.proofs.Common.{◌+◌, length, drop}
use Rattle.steps.proofs.Laws.Elements.{Reading}
use Rattle.markup.proofs.elements.+contents_end_element_end.Given as goal

abbrev pub decreases-contents_end : goal.decreases-contents_end
decreases-contents_end l = l.depth + l.depth + 1

abbrev pub decreases-element_end : goal.decreases-element_end
decreases-element_end l = l.depth + l.depth

abbrev pub invariant-contents_end-loop-j : goal.invariant-contents_end-loop-j
invariant-contents_end-loop-j l = Reading l.depth l.text l.at l.i

abbrev pub decreases-contents_end-loop-j : goal.decreases-contents_end-loop-j
decreases-contents_end-loop-j l = length (drop l.i l.text)
