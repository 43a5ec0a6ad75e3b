use Rattle.describing.proofs.Laws.Series.{exponentSteps}
use Rattle.describing.proofs.series.exponent_seen.Goals as goal

pub returns-in-None : goal.returns-in-None
returns-in-None c = search exponentSteps

pub returns-in-Some-exponent_value : goal.returns-in-Some-exponent_value
returns-in-Some-exponent_value c = search exponentSteps

pub returns-in-None-exponent_value : goal.returns-in-None-exponent_value
returns-in-None-exponent_value c = search exponentSteps
