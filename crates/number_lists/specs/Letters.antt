-- Bytes of a text that may read as something else than themselves.
use Rattle.std.specs.Prelude.{Bool, ◌||◌, ℕ, eqb}
use Rattle.grammar.specs.Bytes.{special}

-- a byte that begins a tag, a comment or CDATA, a reference, or the end of a line
unfoldable pub odd : ℕ → Bool
odd b = special b || eqb b 13
