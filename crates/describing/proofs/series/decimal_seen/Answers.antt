use Rattle.describing.proofs.Laws.Series.{decimalSteps}
use Rattle.describing.proofs.series.decimal_seen.Goals as goal

pub returns-in-None : goal.returns-in-None
returns-in-None c = search decimalSteps

pub returns-in-Some-decimal_value : goal.returns-in-Some-decimal_value
returns-in-Some-decimal_value c = search decimalSteps

pub returns-in-None-decimal_value : goal.returns-in-None-decimal_value
returns-in-None-decimal_value c = search decimalSteps
