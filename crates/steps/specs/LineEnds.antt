-- ENDS OF LINES, XML 1.0, section 2.11: "translating both the two-character sequence #xD #xA and any #xD that is not followed by #xA to a
-- single #xA character". The function goes byte by byte: where a line feed stands right behind a carriage return, that line feed is the
-- single one, and the return goes.
use Rattle.std.specs.Prelude.{List, [], ◌∷◌, Bool, true, false, ℕ, eqb}
use Rattle.grammar.specs.Bytes.{ascii, begins}

-- whether the byte is a carriage return, whether a line feed stands right behind it, the byte, and what follows
unfoldable pub translated : Bool → Bool → ℕ → List ℕ → List ℕ
translated true true a s = s
translated true false a s = 10 ∷ s
translated false t a s = a ∷ s

unfoldable pub line_ends : List ℕ → List ℕ
line_ends [] = []
line_ends (a ∷ s) = translated (eqb a 13) (begins (ascii "\n") s) a (line_ends s)
