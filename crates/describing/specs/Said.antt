-- WHAT THE ANSWER SAYS OF THE MAPS.
use Rattle.std.specs.Prelude.{List, cond, ℕ}
use Rattle.nodes.specs.Places.{the}
use Rattle.cifti.specs.Maps.{is_brain, is_series, series_of}
use Rattle.cifti.specs.Answer.{no_series, as_series}
use Rattle.cifti.specs.declared.answer.Series as S
use Rattle.maps.specs.declared.survey.MapNote.{MapNote}

-- ---- One map, as it is noted.

-- what it says of a series, and where its stretch begins; zero where it has none
unfoldable pub series_in : List ℕ → MapNote → S.Series
series_in text n = cond (is_series n.kind) (as_series (series_of (the text n.at))) no_series

unfoldable pub start_in : MapNote → ℕ → ℕ
start_in n start = cond (is_brain n.kind) start 0
