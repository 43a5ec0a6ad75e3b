use Rattle.labels.proofs.Laws.Twice.{mapping, map_labels}
use Rattle.labels.proofs.twice.map_twice.Goals as goal

pub returns-then-is_labels : goal.returns-then-is_labels
returns-then-is_labels c = map_labels c.requires c.is_labels.ensures c.if-is_labels.true
    c.some_twice.ensures

pub returns : goal.returns
returns c = search mapping

pub is_labels-requires : goal.is_labels-requires
is_labels-requires c = search mapping

pub some_twice-requires : goal.some_twice-requires
some_twice-requires c = search mapping
