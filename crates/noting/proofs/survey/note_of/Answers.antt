use Rattle.maps.proofs.Laws.Survey.{noting_one}
use Rattle.noting.proofs.survey.note_of.Goals as goal

pub kind_of-kind-requires : goal.kind_of-kind-requires
kind_of-kind-requires c = search noting_one

pub dimensions_of-lists-requires : goal.dimensions_of-lists-requires
dimensions_of-lists-requires c = search noting_one

pub map_measure-span-requires : goal.map_measure-span-requires
map_measure-span-requires c = search noting_one

pub returns-then-wanted : goal.returns-then-wanted
returns-then-wanted c = search noting_one

pub place_behind-requires : goal.place_behind-requires
place_behind-requires c = search noting_one

pub returns : goal.returns
returns c = search noting_one
