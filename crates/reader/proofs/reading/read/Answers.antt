use Rattle.reader.proofs.Laws.Reading.{reading, read_later}
use borrow.Author.Rules.{rules}
use Rattle.reader.proofs.reading.read.Goals as goal

pub returns-then-n-ne0 : goal.returns-then-n-ne0
returns-then-n-ne0 c = search reading

pub returns-then-found-ne0 : goal.returns-then-found-ne0
returns-then-found-ne0 c = search (read_later, rules)

pub fill_all-requires : goal.fill_all-requires
fill_all-requires c = search (
  c.judged-models.ensures,
  c.later_refusal-found.ensures,
  reading,
)

pub returns : goal.returns
returns c = search reading

pub surveyed-s-requires : goal.surveyed-s-requires
surveyed-s-requires c = search reading

pub clear-requires : goal.clear-requires
clear-requires c = search reading

pub refused-requires : goal.refused-requires
refused-requires c = search reading

pub shape_of-work-then-n-ne0 : goal.shape_of-work-then-n-ne0
shape_of-work-then-n-ne0 c = search reading

pub judged-models-requires : goal.judged-models-requires
judged-models-requires c = search reading

pub later_refusal-found-requires : goal.later_refusal-found-requires
later_refusal-found-requires c = search reading

pub clear-requires-2 : goal.clear-requires-2
clear-requires-2 c = search reading

pub refused-requires-then-found-ne0 : goal.refused-requires-then-found-ne0
refused-requires-then-found-ne0 c = search reading

pub shape_of-work-then-found-ne0 : goal.shape_of-work-then-found-ne0
shape_of-work-then-found-ne0 c = search reading

pub accepted-requires : goal.accepted-requires
accepted-requires c = search reading

pub shape_of-records : goal.shape_of-records
shape_of-records c = search reading

pub shape_of-work : goal.shape_of-work
shape_of-work c = search reading
