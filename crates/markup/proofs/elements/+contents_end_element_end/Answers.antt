use Rattle.steps.proofs.Laws.Elements.{reading, elements, contents_stuck, element_stuck, element_full}
use Rattle.markup.proofs.elements.+contents_end_element_end.Goals as goal

pub contents_end-returns-in-Close : goal.contents_end-returns-in-Close
contents_end-returns-in-Close t c = search reading

pub contents_end-loop-j-smaller : goal.contents_end-loop-j-smaller
contents_end-loop-j-smaller t c = search reading

pub contents_end-loop-j-preserved : goal.contents_end-loop-j-preserved
contents_end-loop-j-preserved t c = search reading

pub contents_end-returns-in_err-i-in-Start : goal.contents_end-returns-in_err-i-in-Start
contents_end-returns-in_err-i-in-Start t c = rw c.from_residual.ensures
    (contents_stuck _ _ _ _ c.loop-j.invariant c.between_end.ensures c.in-Start.is c.element_end.ensures c.in_err-i-in-Start.was)

pub contents_end-returns-in-Bad : goal.contents_end-returns-in-Bad
contents_end-returns-in-Bad t c = search reading

pub element_end-returns-then-depth-eq0 : goal.element_end-returns-then-depth-eq0
element_end-returns-then-depth-eq0 t c = search elements

pub element_end-returns-in_ok-j-in-Full : goal.element_end-returns-in_ok-j-in-Full
element_end-returns-in_ok-j-in-Full t c = element_full _ _ _ c.if-depth-eq0.false c.open_end.ensures c.in-Full.is c.contents_end.ensures
    c.in_ok-j-in-Full.was c.closing_end.ensures

pub element_end-returns-in_err-j-in-Full : goal.element_end-returns-in_err-j-in-Full
element_end-returns-in_err-j-in-Full t c = rw c.from_residual.ensures
    (element_stuck _ _ _ c.if-depth-eq0.false c.open_end.ensures c.in-Full.is c.contents_end.ensures c.in_err-j-in-Full.was)

pub element_end-returns-in-Empty : goal.element_end-returns-in-Empty
element_end-returns-in-Empty t c = search elements

pub element_end-returns-in-Bad : goal.element_end-returns-in-Bad
element_end-returns-in-Bad t c = search elements
