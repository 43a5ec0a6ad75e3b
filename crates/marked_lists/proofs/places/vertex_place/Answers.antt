use Rattle.marked_lists.specs.Places.{vertex_place}
use Rattle.marked_lists.proofs.places.vertex_place.Goals as goal

pub returns : goal.returns
unfolding vertex_place
returns c = c.wrapping_add_u64.ensures.value
