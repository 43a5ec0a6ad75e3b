use Rattle.reader.proofs.Laws.Naming.{name_placed}
use Rattle.reader.proofs.names.map_name_place.Goals as goal

pub returns : goal.returns
returns c = name_placed c.surveyed-s.ensures c.place_of.ensures
