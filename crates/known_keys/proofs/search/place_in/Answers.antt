use Rattle.known_keys.proofs.Laws.Search.{placing}
use Rattle.known_keys.proofs.search.place_in.Goals as goal

pub sought-requires : goal.sought-requires
sought-requires c = c.requires

pub returns-then-keys-last : goal.returns-then-keys-last
returns-then-keys-last c = c.sought.ensures

pub returns-then-keys-last-2 : goal.returns-then-keys-last-2
returns-then-keys-last-2 c = search placing

pub sought-requires-2 : goal.sought-requires-2
sought-requires-2 c = c.requires

pub returns : goal.returns
returns c = c.sought-2.ensures
