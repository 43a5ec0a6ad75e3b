use Rattle.nodes.proofs.Laws.Attributes.{place_past, place_unnamed, place_there}
use Rattle.inside.proofs.attributes.attribute.Goals as goal

pub returns-then-text-at : goal.returns-then-text-at
returns-then-text-at c = search place_past

pub returns-in_err-name_end : goal.returns-in_err-name_end
returns-in_err-name_end c = rw c.from_residual.ensures (place_unnamed _ _ c.name_end.ensures _ c.in_err-name_end.was)

pub returns : goal.returns
returns c = place_there _ _ c.name_end.ensures c.in_ok-name_end.was _ c.place_from.ensures
