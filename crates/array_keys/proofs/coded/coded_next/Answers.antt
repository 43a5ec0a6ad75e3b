use Rattle.array_keys.proofs.Laws.Gathered.{nexting}
use Rattle.array_keys.proofs.coded.coded_next.Goals as goal

pub returns-then-found-lt4 : goal.returns-then-found-lt4
returns-then-found-lt4 c = search nexting

pub returns : goal.returns
returns c = search nexting

pub gathered-found-requires : goal.gathered-found-requires
gathered-found-requires c = search nexting

pub top_of-requires : goal.top_of-requires
top_of-requires c = search nexting

pub four_key-requires : goal.four_key-requires
four_key-requires c = search nexting

pub place-requires : goal.place-requires
place-requires c = search nexting
