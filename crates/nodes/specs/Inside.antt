-- What is written between the tags of the element at a position.
use Rattle.std.specs.Prelude.{List, [], ℕ, Bool, true, false, drop}
use Rattle.grammar.specs.Read.{Read, fail, got, before}
use Rattle.nodes.specs.Scan.{tag_at, scan}

-- from behind the start tag up to the end tag; nothing where one of them is missing
unfoldable pub up_to : List ℕ → Read (Unit {0}) → List ℕ
up_to s fail = []
up_to s (got u r) = before s r

unfoldable pub within_by : Read Bool → List ℕ
within_by fail = []
within_by (got true r) = up_to r (scan 0 r)
within_by (got false r) = []

unfoldable pub between_tags : List ℕ → ℕ → List ℕ
between_tags text at = within_by (tag_at (drop at text))
