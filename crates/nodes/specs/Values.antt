-- The decoded bytes of a value, one by one. Behind the first byte of a character stand bytes of 128 and more, so that bytes can be
-- decoded for characters.
use Rattle.std.specs.Prelude.{List, [], ◌∷◌, ℕ, zero, suc, ◌+◌, ◌-◌, eqb, length, drop, get_or, Option, Some, None}
use Rattle.grammar.specs.Bytes.{ascii, blank}
use Rattle.grammar.specs.Read.{Read, fail, got}
use Rattle.grammar.specs.Parser.{reference_at, line_end_at}
use Rattle.steps.specs.Leaves.{first_byte}
use Rattle.nodes.specs.Places.{pick}

-- the next decoded byte, up to a quote, and what is left
pub data Next : Type 0 where
  no_byte : Next
  a_byte : ℕ → List ℕ → Next

unfoldable pub or_else_lem : Read (List ℕ) → Next → Next
or_else_lem fail n = n
or_else_lem (got b r) n = a_byte (first_byte b) r

-- a byte that begins no reference: the end of a line and a blank are a space
unfoldable pub bare_byte : ℕ → List ℕ → Next
bare_byte a s = or_else_lem (line_end_at (ascii " ") (a ∷ s)) (a_byte (pick (blank a) 32 a) s)

unfoldable pub next_byte : ℕ → List ℕ → Next
next_byte q [] = no_byte
next_byte q (a ∷ s) = pick (eqb a q) no_byte (or_else_lem (reference_at (a ∷ s)) (bare_byte a s))

-- all of them: any bytes
unfoldable pub tell : Next → (List ℕ → List ℕ) → List ℕ
tell no_byte f = []
tell (a_byte b r) f = b ∷ f r

unfoldable pub decoded_as : ℕ → ℕ → List ℕ → List ℕ
decoded_as q zero s = []
decoded_as q (suc n) s = tell (next_byte q s) (decoded_as q n)

unfoldable pub tells : ℕ → List ℕ → List ℕ
tells q s = decoded_as q (suc (length s)) s

-- the decoded bytes of the value at a position: any bytes
unfoldable pub value_there : List ℕ → ℕ → List ℕ
value_there text v = tells (get_or text v 0) (drop (v + 1) text)

-- a decoded byte, as a program answers it
unfoldable pub as_char : ℕ → Next → Option (ℕ × ℕ)
as_char n no_byte = None
as_char n (a_byte b r) = Some (b, (n - length r))

unfoldable pub decoded_at : List ℕ → ℕ → ℕ → Option (ℕ × ℕ)
decoded_at text at q = as_char (length text) (next_byte q (drop at text))
