-- A WAY HAS ONE PLACE IN A TEXT: it is where the walk by places leads to.
use Rattle.std.specs.Prelude.{◌≡◌, List, ℕ, ◌+◌, ◌≤◌, length, take, drop, Option, Some, None}
use Rattle.nodes.specs.Scan.{tag_at}
use Rattle.nodes.specs.ScanSteps.{tag_told}
use Rattle.nodes.specs.Inside.{between_tags}
use Rattle.nodes.specs.declared.scan.Tag.{Tag}
use Rattle.nodes.specs.declared.scan.Tag.TheVariants.{Open, Bare}
use Rattle.inside.specs.Way.{WayStep}
use Rattle.inside.specs.Walked.{way_at}

-- behind the start tag, or the only tag, of the element at a place; any bytes
unfoldable pub behind_tag : Option Tag → ℕ
behind_tag (Some (Open i)) = i
behind_tag (Some (Bare i)) = i
behind_tag None = 0

unfoldable pub tag_end : List ℕ → ℕ → ℕ
tag_end text k = behind_tag (tag_told (length text) (tag_at (drop k text)))

-- the place of the way, by places: the walk finds an element there, its start tag ends where the part starts, and the part is
-- within it
pub record Met (way : List WayStep) (part text : List ℕ) (start : ℕ) : Type 0 where
  pub at : ℕ
  pub finds : way_at way text ≡ Some at
  pub starts : start ≡ tag_end text at
  pub within_is : part ≡ between_tags text at

-- the part stands at its start
pub record PartStands (text : List ℕ) (start : ℕ) (part : List ℕ) : Type 0 where
  pub inside : start + length part ≤ length text
  pub is : take (length part) (drop start text) ≡ part
