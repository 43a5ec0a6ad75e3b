-- What stands round the root.
use Rattle.std.specs.Prelude.{List, [], ◌∷◌, ℕ}
use Rattle.grammar.specs.Bytes.{ascii, begins}
use Rattle.grammar.specs.Read.{Reader, ◌>>=◌, ◌>>◌, mark, byte, all_of}
use Rattle.grammar.specs.Bytes.{quote}
use Rattle.grammar.specs.Parser.{declaration_at, no_aside, aside_at, doctype_if, prologue_at, encoding_if_lem, ends}
use Rattle.grammar.specs.Parser.{asking}

-- blanks and comments
unfoldable pub asides_at : Reader (List (List ℕ))
asides_at = all_of no_aside aside_at

-- a DOCTYPE with the blanks and comments behind it, or nothing where none stands
unfoldable pub typed_at : Reader (Unit {0})
typed_at s = doctype_if (begins (ascii "<!D") s) s

-- all that stands before the root
unfoldable pub preamble_at : Reader (Unit {0})
preamble_at = do
  declaration_at
  prologue_at

-- the value `v` in quotes
unfoldable pub quoted_at : List ℕ → Reader (Unit {0})
quoted_at v = do
  q ← byte quote
  mark v
  mark (q ∷ [])

-- the encoding, or nothing where `?` stands behind the blanks
unfoldable pub encoding_at : Reader (Unit {0})
encoding_at s = encoding_if_lem (ends asking s) s
