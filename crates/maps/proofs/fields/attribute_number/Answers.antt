use Rattle.maps.proofs.Laws.Fields.{fieldSteps}
use Rattle.maps.proofs.fields.attribute_number.Goals as goal

pub returns-in-None : goal.returns-in-None
returns-in-None c = search fieldSteps

pub returns-in-Some-whole_value : goal.returns-in-Some-whole_value
returns-in-Some-whole_value c = search fieldSteps

pub returns-in-None-whole_value : goal.returns-in-None-whole_value
returns-in-None-whole_value c = search fieldSteps
