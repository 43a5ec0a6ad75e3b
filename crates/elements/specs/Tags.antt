-- Where a start tag turns: it ends, or a quote is entered or left.
use Rattle.std.specs.Prelude.{◌≡◌, List, Bool, true, ◌||◌, ℕ, ◌+◌, ◌≤◌, ◌<◌, eqb, length, get_or}
use Rattle.grammar.specs.Bytes.{quote}
use Rattle.grammar.specs.Parser.{closing}
use Rattle.nodes.specs.Places.{pick}
use Rattle.nodes.specs.Scan.{Quoted}

-- outside of quotes `>`, `/` and the quotes; inside of one, it alone
unfoldable pub turns : ℕ → ℕ → Bool
turns q a = pick (eqb q 0) (closing a || quote a) (eqb a q)

-- up to `to` the tag goes on; there it turns, or the text ends
pub record Turning (text : List ℕ) (q at to : ℕ) : Type 0 where
  pub goes : Quoted text q at to
  pub here : to < length text → turns q (get_or text to 0) ≡ true

-- so many of sixteen bytes pass: all of them, or up to where the tag turns
pub record Nearby (text : List ℕ) (q at n : ℕ) : Type 0 where
  pub few : n ≤ 16
  pub goes : Quoted text q at (at + n)
  pub here : n < 16 → turns q (get_or text (at + n) 0) ≡ true
