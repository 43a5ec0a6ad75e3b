use Rattle.marked_lists.proofs.Laws.Listing.{overVertices}
use Rattle.marked_lists.proofs.listing.marked_vertices.Goals as goal

pub loop-n-init : goal.loop-n-init
loop-n-init c = search overVertices

pub quick_number-quick-requires : goal.quick_number-quick-requires
quick_number-quick-requires c = search overVertices

pub overflow_add-n : goal.overflow_add-n
overflow_add-n c = search overVertices

pub vertex_place-requires : goal.vertex_place-requires
vertex_place-requires c = search overVertices

pub mark-new-requires : goal.mark-new-requires
mark-new-requires c = search overVertices

pub overflow_add-i : goal.overflow_add-i
overflow_add-i c = search overVertices

pub loop-n-smaller-then-quick-ne0 : goal.loop-n-smaller-then-quick-ne0
loop-n-smaller-then-quick-ne0 c = search overVertices

pub loop-n-preserved-then-quick-ne0 : goal.loop-n-preserved-then-quick-ne0
loop-n-preserved-then-quick-ne0 c = search overVertices

pub any_number-requires : goal.any_number-requires
any_number-requires c = search overVertices

pub enum_known-v : goal.enum_known-v
enum_known-v c = search overVertices

pub overflow_add-n-in-Number : goal.overflow_add-n-in-Number
overflow_add-n-in-Number c = search overVertices

pub vertex_place-requires-in-Number : goal.vertex_place-requires-in-Number
vertex_place-requires-in-Number c = search overVertices

pub mark-new-requires-in-Number : goal.mark-new-requires-in-Number
mark-new-requires-in-Number c = search overVertices

pub loop-n-smaller : goal.loop-n-smaller
loop-n-smaller c = search overVertices

pub loop-n-preserved : goal.loop-n-preserved
loop-n-preserved c = search overVertices

pub enum_told-1 : goal.enum_told-1
enum_told-1 c = search overVertices

pub verdict_by-requires : goal.verdict_by-requires
verdict_by-requires c = search overVertices

pub shape_of-work-in-End : goal.shape_of-work-in-End
shape_of-work-in-End c = search overVertices

pub returns-in-End : goal.returns-in-End
returns-in-End c = search overVertices

pub enum_told-in-Bad : goal.enum_told-in-Bad
enum_told-in-Bad c = search overVertices

pub shape_of-work-in-Bad : goal.shape_of-work-in-Bad
shape_of-work-in-Bad c = search overVertices

pub returns-in-Bad : goal.returns-in-Bad
returns-in-Bad c = search overVertices
