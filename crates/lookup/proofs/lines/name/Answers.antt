use Rattle.schema.proofs.Laws.Lines.{naming_element}
use Rattle.lookup.proofs.lines.name.Goals as goal

pub slice_bounds-result-count : goal.slice_bounds-result-count
slice_bounds-result-count c = search naming_element

pub slice_bounds-result-start : goal.slice_bounds-result-start
slice_bounds-result-start c = search naming_element

pub slice_bounds-result-end : goal.slice_bounds-result-end
slice_bounds-result-end c = search naming_element

pub returns-in-Some : goal.returns-in-Some
returns-in-Some c = search naming_element

pub returns-in-None : goal.returns-in-None
returns-in-None c = search naming_element
