use native.Mathlib.Omega.{arith}
use Rattle.known_keys.proofs.Laws.Search.{placing}
use Rattle.known_keys.proofs.search.sought.Goals as goal

pub returns-then-keys-eq0 : goal.returns-then-keys-eq0
returns-then-keys-eq0 c = search placing

pub nearest-at-requires : goal.nearest-at-requires
nearest-at-requires c = (c.requires, omega arith)

pub bounds-keys-at : goal.bounds-keys-at
bounds-keys-at c = c.nearest-at.ensures.inside

pub returns-then-keys-at : goal.returns-then-keys-at
returns-then-keys-at c = search placing

pub returns : goal.returns
returns c = search placing
