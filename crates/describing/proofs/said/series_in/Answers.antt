use Rattle.describing.proofs.Laws.Said.{series_told}
use Rattle.describing.proofs.said.series_in.Goals as goal

pub series_at-requires : goal.series_at-requires
series_at-requires c = search series_told

pub returns-then-is_series : goal.returns-then-is_series
returns-then-is_series c = search series_told

pub returns-else-is_series : goal.returns-else-is_series
returns-else-is_series c = search series_told

pub is_series-requires : goal.is_series-requires
is_series-requires c = search series_told

pub no_series-requires : goal.no_series-requires
no_series-requires c = search series_told
