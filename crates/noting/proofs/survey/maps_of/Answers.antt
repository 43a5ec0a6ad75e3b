use Rattle.maps.proofs.Laws.Survey.{surveying}
use Rattle.noting.proofs.survey.maps_of.Goals as goal

pub loop-kid-init : goal.loop-kid-init
loop-kid-init c = search surveying

pub note_of-note-requires : goal.note_of-note-requires
note_of-note-requires c = search surveying

pub loop-kid-smaller-then-name_is : goal.loop-kid-smaller-then-name_is
loop-kid-smaller-then-name_is c = search surveying

pub loop-kid-preserved-then-name_is : goal.loop-kid-preserved-then-name_is
loop-kid-preserved-then-name_is c = search surveying

pub loop-kid-smaller : goal.loop-kid-smaller
loop-kid-smaller c = search surveying

pub loop-kid-preserved : goal.loop-kid-preserved
loop-kid-preserved c = search surveying

pub returns-in-None : goal.returns-in-None
returns-in-None c = search surveying

pub no_maps-maps-requires : goal.no_maps-maps-requires
no_maps-maps-requires c = search surveying

pub first_child-kid-requires : goal.first_child-kid-requires
first_child-kid-requires c = search surveying

pub enum_known-kid : goal.enum_known-kid
enum_known-kid c = search surveying

pub name_is-requires : goal.name_is-requires
name_is-requires c = search surveying

pub noted-maps-requires : goal.noted-maps-requires
noted-maps-requires c = search surveying

pub kid_from-kid-requires : goal.kid_from-kid-requires
kid_from-kid-requires c = search surveying

pub next_child-kid-requires : goal.next_child-kid-requires
next_child-kid-requires c = search surveying

pub enum_told-1 : goal.enum_told-1
enum_told-1 c = search surveying
