use Rattle.maps.proofs.Laws.LengthsAgree.{differing}
use Rattle.survey.proofs.lengths_agree.dimension_differs.Goals as goal

pub returns-then-length_at-note : goal.returns-then-length_at-note
returns-then-length_at-note c = search differing

pub returns : goal.returns
returns c = search differing
