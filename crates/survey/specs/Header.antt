-- CONDITIONS 1 TO 9: the number of the first that applies, or the maps of the document, by their places.
use Rattle.std.specs.Prelude.{◌≡◌, List, false, ℕ, Some}
use Rattle.grammar.specs.Document.{Element}
use Rattle.grammar.specs.Parser.{parse}
use Rattle.cifti.specs.Maps.{maps_of}
use Rattle.cifti.specs.Conditions.{dimensions_wrong}
use Rattle.maps.specs.Ready.{maps_at, Ready}
use Rattle.maps.specs.declared.survey.Maps.{Maps}
use Rattle.opening.specs.Opening.{header_number}
use Rattle.survey.specs.declared.header.Survey.{Survey}

-- the maps of the document of a text that passes 1 to 9
pub record Readied (text lengths : List ℕ) (maps : Maps) : Type 0 where
  pub document : Element
  pub parsed : parse text ≡ Some document
  pub room : Ready text maps
  pub all : maps_at text maps ≡ maps_of document
  pub listed : dimensions_wrong lengths (maps_at text maps) ≡ false

pub record Surveys (text lengths : List ℕ) (s : Survey) : Type 0 where
  pub number_is : s.number ≡ header_number text lengths
  pub readied : s.number ≡ 0 → Readied text lengths s.maps
