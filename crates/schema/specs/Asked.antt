-- What the functions ask: an element stands at a place, and numbers are such as a table can name.
use Rattle.std.specs.Prelude.{◌≡◌, List, true, ℕ, ◌+◌, ◌-◌, ◌<◌, ◌≤◌, get_or, length}
use Rattle.grammar.specs.Look.{Word, is, name_of}
use Rattle.nodes.specs.Places.{Stands, the}
use Rattle.schema.specs.Table.{lines_from, lines_to}
use Rattle.schema.specs.Lines.{line_name, line_place}

-- a number of a table: an entry of at most 8 numbers, by a row that a table can name
pub record Cell (size row column : ℕ) : Type 0 where
  pub narrow : size ≤ 8
  pub known : row ≤ 4294967304
  pub column_in : column < 8

-- an element stands there, and the number is that of a kind, an attribute, a form, a line or a choice
pub record Known (text : List ℕ) (at n : ℕ) : Type 0 where
  pub stands : Stands text at
  pub known : n < 4294967304

-- words up to one, behind a front part, such as a table can name
pub record WordsNamed (to front : ℕ) : Type 0 where
  pub known_to : to < 4294967296
  pub known_front : front < 4294967296

-- eight lines at most
pub record Timed (from to : ℕ) : Type 0 where
  pub few : to ≤ from + 8
  pub small : to ≤ 4294967304

-- the line of a child, in a parent of this kind
pub record Lined (t l text : List ℕ) (at kind from line to : ℕ) : Type 0 where
  pub stands : Stands text at
  pub known : kind < 4294967304
  pub starts : from ≡ lines_from t kind
  pub ends : to ≡ lines_to t kind
  pub timed : Timed from to
  pub line_is : line ≡ from + line_place t l (name_of (the text at)) from (to - from)

-- whether the line is in turn can be asked
pub record TurnAsked (kind from line : ℕ) : Type 0 where
  pub known : kind < 4294967304
  pub behind : from ≤ line

-- the line found has the name
pub record Here (t l : List ℕ) (name : Word) (line i : ℕ) : Type 0 where
  pub named : is (line_name t l line) name ≡ true
  pub known : i < 4294967304

-- one more can be counted
pub record CanCount (counts : List ℕ) : Type 0 where
  pub size : length counts ≡ 8
  pub room : (p : ℕ) → get_or counts p 0 < 18446744073709551615

-- a child at its line
pub record Counting (t l : List ℕ) (name : Word) (from line to : ℕ) (counts : List ℕ) : Type 0 where
  pub timed : Timed from to
  pub inside : line < to
  pub line_is : line ≡ from + line_place t l name from (to - from)
  pub roomy : CanCount counts

-- a child of a parent of this kind
pub record Tallying (t text : List ℕ) (at kind from to : ℕ) (counts : List ℕ) : Type 0 where
  pub stands : Stands text at
  pub known : kind < 4294967304
  pub starts : from ≡ lines_from t kind
  pub ends : to ≡ lines_to t kind
  pub timed : Timed from to
  pub roomy : CanCount counts
