use Rattle.std.specs.Prelude.{refl}
use Rattle.letters.proofs.Fronts.{asks_there}
use Rattle.letters.proofs.blanks.asks.Goals as goal

pub returns : goal.returns
returns c = asks_there _ _ _ c.blanks_end.ensures _ c.get.ensures.lookup _ refl c.eq.ensures
