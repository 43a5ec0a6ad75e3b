-- An element that is as a row says, with all that is in it; a list of one such element.
use Rattle.std.specs.Prelude.{◌≡◌, List, [], ◌∷◌, true}
use Rattle.grammar.specs.Document.{Element}
use Rattle.schema.specs.Schema.{Row}
use Rattle.schema.specs.Schema.{everywhere}
use Rattle.schema.specs.Schema.{shaped, numbered}

-- the element, taken for one of the kind, passes both tests at every place
pub record Good {K : Type 0} (rows : K → Row K) (k : K) (e : Element) : Type 0 where
  pub shape : everywhere rows shaped k e ≡ true
  pub number : everywhere rows numbered k e ≡ true

pub record One {K : Type 0} (rows : K → Row K) (k : K) (l : List Element) : Type 0 where
  pub one : Element
  pub alone : l ≡ one ∷ []
  pub good : Good rows k one
