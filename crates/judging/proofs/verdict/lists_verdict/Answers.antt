use Rattle.marked_lists.proofs.Laws.Models.{rulingLists}
use Rattle.judging.proofs.verdict.lists_verdict.Goals as goal

pub ranges_tile-requires : goal.ranges_tile-requires
ranges_tile-requires c = search rulingLists

pub returns-then-not-ranges_tile : goal.returns-then-not-ranges_tile
returns-then-not-ranges_tile c = search rulingLists

pub returns : goal.returns
returns c = search rulingLists

pub volume_sizes-sizes-requires : goal.volume_sizes-sizes-requires
volume_sizes-sizes-requires c = search rulingLists

pub marked_lists-requires : goal.marked_lists-requires
marked_lists-requires c = search rulingLists

pub shape_of-work : goal.shape_of-work
shape_of-work c = search rulingLists
