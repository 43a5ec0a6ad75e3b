use Rattle.map_names.proofs.Laws.Treads.{mapping}
use Rattle.map_names.proofs.map_lists.Goals as goal

pub returns-then-name_is : goal.returns-then-name_is
returns-then-name_is c = search mapping

pub returns : goal.returns
returns c = search mapping

pub name_is-requires : goal.name_is-requires
name_is-requires c = search mapping

pub lists-requires : goal.lists-requires
lists-requires c = search mapping
