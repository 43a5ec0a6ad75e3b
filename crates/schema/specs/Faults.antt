-- The faults of an element as one number: 6 where its shape is wrong, 7 where its numbers are, or 0.
use Rattle.std.specs.Prelude.{List, Bool, true, false, cond, ℕ, eqb, ltb}
use Rattle.grammar.specs.Document.{Element}
use Rattle.schema.specs.Schema.{everywhere, shaped, numbered}
use Rattle.schema.specs.Table.{rows_of}

-- the fault where a shape and numbers are right or not
unfoldable pub fault : (shape numbers : Bool) → ℕ
fault true true = 0
fault true false = 7
fault false numbers = 6

-- the smaller of two faults; 0 is none
unfoldable pub sooner : ℕ → ℕ → ℕ
sooner a b = cond (eqb a 0) b (cond (eqb b 0) a (cond (ltb b a) b a))

-- the fault of an element of a kind, and of all that is in it
unfoldable pub fault_of : (t l : List ℕ) → ℕ → Element → ℕ
fault_of t l k e = fault (everywhere (rows_of t l) shaped k e) (everywhere (rows_of t l) numbered k e)
