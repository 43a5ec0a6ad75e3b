use Rattle.describing.proofs.Laws.Series.{seriesSteps}
use Rattle.describing.proofs.series.series_at.Goals as goal

pub returns : goal.returns
returns c = search seriesSteps
