-- A value that begins with a front part, and the place behind that part: any bytes, any place.
use Rattle.std.specs.Prelude.{List, [], ◌∷◌, cond, ℕ, ◌+◌, eqb, leb, length, get_or, Option, Some, None}
use Rattle.nodes.specs.Places.{pick}
use Rattle.nodes.specs.Values.{decoded_at}

-- the place behind the quote of the value at a position; behind the text it is that position
unfoldable pub behind_quote : List ℕ → ℕ → ℕ
behind_quote text v = cond (leb (length text) v) v (v + 1)

-- the next decoded byte is the one that is asked for, and the rest goes on behind it
unfoldable pub met : ℕ → Option (ℕ × ℕ) → (ℕ → Option ℕ) → Option ℕ
met a None f = None
met a (Some (b, j)) f = pick (eqb b a) (f j) None

-- the place behind the front part, where the decoded bytes from a place on begin with it
unfoldable pub behind_front : List ℕ → ℕ → List ℕ → ℕ → Option ℕ
behind_front text q [] i = Some i
behind_front text q (a ∷ k) i = met a (decoded_at text i q) (behind_front text q k)

-- the same of the value at a position
unfoldable pub begins_at_lem : List ℕ → ℕ → List ℕ → Option ℕ
begins_at_lem text v front = behind_front text (get_or text v 0) front (behind_quote text v)

unfoldable pub fronts : Unit {0}
unfolding behind_quote met behind_front begins_at_lem
fronts = tt
