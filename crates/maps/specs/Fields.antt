-- The attributes of an element, as words and numbers.
use Rattle.std.specs.Prelude.{List, [], ℕ, Option, Some, None}
use Rattle.grammar.specs.Document.{Element}
use Rattle.grammar.specs.Look.{Word, attributes_of, or_empty}
use Rattle.nodes.specs.Attributes.{lookup}
use Rattle.numbers.specs.Answers.{whole_in}

-- the value of the attribute that is so named, empty where there is none
unfoldable pub attribute_word : List ℕ → Element → Word
attribute_word w e = or_empty (lookup w (attributes_of e))

unfoldable pub or_zero : Option ℕ → ℕ
or_zero (Some n) = n
or_zero None = 0

unfoldable pub number_seen : (lo hi : ℕ) → Word → ℕ
number_seen lo hi w = or_zero (whole_in lo hi w)
