-- Where an element ends, and that its next sibling is what stands there.
use Rattle.std.specs.Prelude.{◌≡◌, List, ℕ, ◌≤◌, ◌<◌, length, drop}
use Rattle.grammar.specs.Read.{got}
use Rattle.nodes.specs.Scan.{skip_at}

-- the element at k ends before j
pub record Behind (text : List ℕ) (k j : ℕ) : Type 0 where
  pub ends : skip_at (drop k text) ≡ got tt (drop j text)
  pub inside : j ≤ length text
  pub after : 0 < j
