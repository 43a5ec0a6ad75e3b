use Rattle.table.proofs.Laws.Listing.{overVertices}
use Rattle.filling.proofs.listing.fill_vertices.Goals as goal

pub bounds-out-place : goal.bounds-out-place
bounds-out-place c = search overVertices

pub loop-out-smaller-then-quick-ne0 : goal.loop-out-smaller-then-quick-ne0
loop-out-smaller-then-quick-ne0 c = search overVertices

pub loop-out-preserved-then-quick-ne0 : goal.loop-out-preserved-then-quick-ne0
loop-out-preserved-then-quick-ne0 c = search overVertices

pub bounds-out-place-in-Number : goal.bounds-out-place-in-Number
bounds-out-place-in-Number c = search overVertices

pub loop-out-smaller : goal.loop-out-smaller
loop-out-smaller c = search overVertices

pub loop-out-preserved : goal.loop-out-preserved
loop-out-preserved c = search overVertices

pub returns-in-End : goal.returns-in-End
returns-in-End c = search overVertices

pub returns-in-Bad : goal.returns-in-Bad
returns-in-Bad c = search overVertices
