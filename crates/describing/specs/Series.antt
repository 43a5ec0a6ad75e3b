-- WHAT A SERIES MAP SAYS, attribute by attribute.
use Rattle.std.specs.Prelude.{List, ℕ, ℤ, pos, Option, Some, None}
use Rattle.grammar.specs.Document.{Element}
use Rattle.grammar.specs.Look.{Word, attr}
use Rattle.nodes.specs.Places.{Stands, the}
use Rattle.numbers.specs.Numbers.{decimal_value, no_decimal, exponent_value}
use Rattle.numbers.specs.Answers.{decimal_in, exponent_in}
use Rattle.numbers.specs.declared.Decimal.{Decimal}
use Rattle.cifti.specs.Words.{units, number_in}
use Rattle.cifti.specs.Rows as kinds
use Rattle.cifti.specs.declared.answer.Series as S
use Rattle.maps.specs.Good.{Good}

unfoldable pub or_no_decimal : Option Decimal → Decimal
or_no_decimal (Some d) = d
or_no_decimal None = no_decimal

-- the decimal, zero where there is none
unfoldable pub decimal_seen : Word → Decimal
decimal_seen w = or_no_decimal (decimal_in w)

unfoldable pub or_no_exponent : Option ℤ → ℤ
or_no_exponent (Some n) = n
or_no_exponent None = pos 0

unfoldable pub exponent_seen : Word → ℤ
exponent_seen w = or_no_exponent (exponent_in 30 w)

-- ---- All of it.

pub record SeriesAt (text : List ℕ) (at : ℕ) : Type 0 where
  pub stands : Stands text at
  pub good : Good kinds.series (the text at)

unfoldable pub series_said : Element → S.Series
series_said e = record {
  start = decimal_value (attr "SeriesStart" e);
  step = decimal_value (attr "SeriesStep" e);
  exponent = exponent_value (attr "SeriesExponent" e);
  unit = number_in units (attr "SeriesUnit" e);
}
