use Rattle.models.proofs.Laws.Judged.{with_ruling_laws}
use Rattle.judging.proofs.judge.with_ruling.Goals as goal

pub first_of-requires : goal.first_of-requires
first_of-requires c = search with_ruling_laws

pub offset_bounds-more-i : goal.offset_bounds-more-i
offset_bounds-more-i c = search with_ruling_laws

pub bounds-more-i : goal.bounds-more-i
bounds-more-i c = search with_ruling_laws

pub returns : goal.returns
returns c = search with_ruling_laws
