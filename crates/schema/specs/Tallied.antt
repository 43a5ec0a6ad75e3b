-- How often lines are met, as the code counts.
use Rattle.std.specs.Prelude.{◌≡◌, List, Bool, true, ◌||◌, cond, ℕ, ◌+◌, ◌-◌, ◌<◌, ◌≤◌, eqb, leb, get_or, length, Option, Some, None}
use Rattle.lists.specs.Lists.{all, count_up}
use Rattle.grammar.specs.Document.{Element}
use Rattle.grammar.specs.Look.{Word, is, name_of}
use Rattle.schema.specs.Schema.{row_place, below}
use Rattle.schema.specs.Lines.{kind_next, line_name}
use Rattle.schema.specs.Table.{line_cell, lines_of_kind, watched_word}
use Rattle.schema.specs.declared.Tally.{Tally}

-- n children are as many as may be; what makes a line needed is met or not
unfoldable pub stands_by : ℕ → ℕ → Bool → Bool
stands_by t n met =
    cond (eqb t 0) (eqb n 1) (cond (eqb t 1) (leb n 1) (cond (eqb t 2) true (cond (eqb t 3) (leb 1 n) (cond met (eqb n 1) (leb n 1)))))

unfoldable pub line_stands : (t : List ℕ) (from : ℕ) (counts : List ℕ) (met : Bool) → ℕ → Bool
line_stands t from counts met i = stands_by (line_cell t i 1) (get_or counts (i - from) 0) met

unfoldable pub times_by : (t : List ℕ) (from to : ℕ) (counts : List ℕ) (met : Bool) → Bool
times_by t from to counts met = all (line_stands t from counts met) (count_up (λ i. i) from (to - from))

module _ (t l : List ℕ) where
  unfoldable pub here_one : ℕ → Word → ℕ
  here_one i w = cond (is (line_name t l i) w) 1 0

  -- the name is the watched one
  unfoldable pub watched_name : Word → Bool
  watched_name w = is (watched_word t l) w

  -- the watched name stands below the element
  unfoldable pub holding : Element → Bool
  holding e = below (watched_word t l) e

  -- a child of this name at each line of its name
  pub record OneMore (name : Word) (from to : ℕ) (a b : Tally) : Type 0 where
    pub size : length b.counts ≡ 8
    pub counted : (p : ℕ) → from + p < to → get_or b.counts p 0 ≡ get_or a.counts p 0 + here_one (from + p) name
    pub room : (p : ℕ) → get_or b.counts p 0 ≤ get_or a.counts p 0 + 1
    pub seen_is : b.seen ≡ (a.seen || watched_name name)
    pub met_is : b.met ≡ a.met

  -- and its place noted
  pub record Counts (name : Word) (from line to : ℕ) (a b : Tally) : Type 0 where
    pub more : OneMore name from to a b
    pub place_is : b.place ≡ line - from

  -- a child of a kind is counted
  pub record Joins (kind from to : ℕ) (e : Element) (a : Tally) (k : ℕ) (b : Tally) : Type 0 where
    pub kind_is : kind_next t l kind a.place e ≡ Some k
    pub small : k < 4294967296
    pub more : OneMore (name_of e) from to a b
    pub place_is : b.place ≡ row_place (lines_of_kind t l kind) e

  -- the kind of a child, and the tally with it; or it has none
  pub record Meets (kind from to : ℕ) (e : Element) (a : Tally) (r : Option (ℕ × Tally)) : Type 0 where
    pub joins : {k : ℕ} {b : Tally} → r ≡ Some (k, b) → Joins kind from to e a k b
    pub none : r ≡ None → kind_next t l kind a.place e ≡ None
