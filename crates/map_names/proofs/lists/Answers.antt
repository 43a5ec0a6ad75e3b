use Rattle.map_names.proofs.Laws.Treads.{listing}
use Rattle.map_names.proofs.lists.Goals as goal

pub returns-in-None : goal.returns-in-None
returns-in-None c = search listing

pub returns-in-Some-dimensions_between : goal.returns-in-Some-dimensions_between
returns-in-Some-dimensions_between c = search listing

pub returns-in-None-dimensions_between : goal.returns-in-None-dimensions_between
returns-in-None-dimensions_between c = search listing
