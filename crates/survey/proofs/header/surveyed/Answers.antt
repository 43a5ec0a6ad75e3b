use mathlib.Core.Path.{refl}
use Rattle.survey.proofs.Laws.Header.{surveyed, survey_unlisted, survey_passes}
use Rattle.survey.proofs.header.surveyed.Goals as goal

pub dimensions_wrong-requires : goal.dimensions_wrong-requires
dimensions_wrong-requires c = search surveyed

pub returns-then-dimensions_wrong : goal.returns-then-dimensions_wrong
returns-then-dimensions_wrong c = survey_unlisted c.opened-o.ensures c.if-n-ne0.false
    c.maps_of-maps.ensures c.dimensions_wrong.ensures c.if-dimensions_wrong.true _ refl

pub length_wrong-requires : goal.length_wrong-requires
length_wrong-requires c = search surveyed

pub returns-then-length_wrong : goal.returns-then-length_wrong
returns-then-length_wrong c = search surveyed

pub returns : goal.returns
returns c = survey_passes c.opened-o.ensures
    c.if-n-ne0.false c.maps_of-maps.ensures
    c.dimensions_wrong.ensures c.if-dimensions_wrong.false c.length_wrong.ensures
    c.if-length_wrong.false _ refl refl

pub opened-o-requires : goal.opened-o-requires
opened-o-requires c = search surveyed

pub no_maps-requires : goal.no_maps-requires
no_maps-requires c = search surveyed

pub returns-then-n-ne0 : goal.returns-then-n-ne0
returns-then-n-ne0 c = search surveyed

pub maps_of-maps-requires : goal.maps_of-maps-requires
maps_of-maps-requires c = search surveyed
