-- A READING IN PARTS: what is left of the text, how many bytes came, and the verdict once the end was told.
use Rattle.std.specs.Prelude.{◌≡◌, List, [], ◌∷◌, ℕ, ◌+◌, ◌≤◌, Bool, true, false, ◌&&◌, leb, length, Option, Some, None}
use Rattle.steps.specs.WellFormed.{WellFormed}
use Rattle.stream.specs.Jobs.{Left, read_byte, outset, idle_left}

-- THE VERDICT on a text: yes if conditions 2 and 3 let it pass, that is, if it has at most 16,777,216 bytes and a document writes it
pub record Verdict (text : List ℕ) (answer : Bool) : Type 0 where
  pub accepts : answer ≡ true → (length text ≤ 16777216) × WellFormed text true
  pub refuses : answer ≡ false → length text ≤ 16777216 → WellFormed text false

pub data Arrival : Type 0 where
  arrival : Left → (size : ℕ) → (verdict : Option Bool) → Arrival

-- nothing came yet
unfoldable pub awaited : Arrival
awaited = arrival outset 0 None

-- some bytes, one after another
unfoldable pub read_on : Left → List ℕ → Left
read_on x [] = x
read_on x (a ∷ s) = read_on (read_byte x a) s

-- a part; behind the end it changes nothing
unfoldable pub add_part : Arrival → List ℕ → Arrival
add_part (arrival x n None) p = arrival (read_on x p) (n + length p) None
add_part (arrival x n (Some v)) p = arrival x n (Some v)

unfoldable pub add_parts : Arrival → List (List ℕ) → Arrival
add_parts r [] = r
add_parts r (p ∷ ps) = add_parts (add_part r p) ps

-- the end: whether conditions 2 and 3 let the text pass; a second end changes nothing
unfoldable pub add_end : Arrival → Arrival
add_end (arrival x n None) = arrival x n (Some (leb n 16777216 && idle_left x))
add_end (arrival x n (Some v)) = arrival x n (Some v)

-- the verdict, once the end was told
unfoldable pub verdict_of : Arrival → Option Bool
verdict_of (arrival x n v) = v

-- the number that a part or an end is answered with: 28 behind the end
unfoldable pub number_behind : Option Bool → ℕ
number_behind None = 0
number_behind (Some v) = 28

unfoldable pub number_of : Arrival → ℕ
number_of r = number_behind (verdict_of r)
