-- The lines of children, as the code goes by them.
use Rattle.std.specs.Prelude.{◌≡◌, List, Bool, true, cond, ℕ, zero, suc, ◌<◌, leb, ltb, Option, Some, None}
use Prim.Native.String.{String}
use Rattle.lists.specs.Lists.{count_up}
use Rattle.grammar.specs.Document.{Element}
use Rattle.grammar.specs.Look.{Word, attributes_of, value_in}
use Rattle.schema.specs.Schema.{ChildRow, kind_chosen, kind_of, or_else, row_place, in_order_of}
use Rattle.schema.specs.Words.{number_in}
use Rattle.schema.specs.Table.{word_at, entry_word, choice_cell, cases_of, order_at, lines_of_kind}

-- a kind by number; 2^32 and above are none
unfoldable pub kind_or_none : ℕ → Option ℕ
kind_or_none k = cond (ltb k 4294967296) (Some k) None

-- a kind, or none; a kind is such as a table can name
pub record KindRead (r o : Option ℕ) : Type 0 where
  pub same : r ≡ o
  pub small : {k : ℕ} → r ≡ Some k → k < 4294967296

-- the kind at a line, or none; where it is one, the line is one of the lines before `to`
pub record KindFor (r : Option ℕ) (line to : ℕ) (o : Option ℕ) : Type 0 where
  pub read : KindRead r o
  pub inside : {k : ℕ} → r ≡ Some k → line < to

-- a kind, or else another: none, or one by its number and 1
unfoldable pub else_by : (other : ℕ) → Option ℕ → Option ℕ
else_by zero o = o
else_by (suc k) o = or_else k o

-- a child whose line has this place stands in turn behind one whose line has the last place
unfoldable pub in_turn : (order last place : ℕ) → Bool
in_turn zero last place = true
in_turn (suc o) last place = leb last place

-- these children stand in turn, behind one whose line has the last place
unfoldable pub order_from : {K : Type 0} → (order : ℕ) → List (ChildRow K) → (last : ℕ) → List Element → Bool
order_from zero r last es = true
order_from (suc o) r last es = in_order_of r last es

module _ (t l : List ℕ) where
  -- the kind that the word of a choice gives
  abbrev pub chosen_at : ℕ → Element → Option ℕ
  chosen_at c e = kind_chosen (cases_of t l c) (value_in (word_at t l (choice_cell t c 0)) (attributes_of e))

  abbrev pub line_name : ℕ → String
  line_name = entry_word t l 2 4

  -- the place, among n entries from i on, of the first with the name: of any part, of lines, of attributes
  abbrev pub entry_place : (part size : ℕ) → Word → ℕ → ℕ → ℕ
  entry_place part size w i n = number_in (count_up (entry_word t l part size) i n) w

  abbrev pub line_place : Word → ℕ → ℕ → ℕ
  line_place = entry_place 2 4

  abbrev pub attribute_place : Word → ℕ → ℕ → ℕ
  attribute_place = entry_place 1 3

  -- the kind of a child, which has none where it is out of turn
  unfoldable pub kind_next : (kind last : ℕ) → Element → Option ℕ
  kind_next k last e = cond (in_turn (order_at t k) last (row_place (lines_of_kind t l k) e)) (kind_of (lines_of_kind t l k) e) None
