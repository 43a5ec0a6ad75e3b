-- Readers that are parts of the grammar's, and what each reader leaves.
use Rattle.std.specs.Prelude.{List, [], ◌∷◌, ℕ, ◌-◌, Bool, true, ◌&&◌, not, eqb, length, Option, Some, None}
use Rattle.grammar.specs.Bytes.{ascii, begins}
use Rattle.grammar.specs.Characters.{lead1}
use Rattle.grammar.specs.Read.{Read, fail, got, Reader, mark}
use Rattle.grammar.specs.Parser.{literal_at, value_character_at}
use Rattle.grammar.specs.Parser.{remark_at, data_character_at, skipped_at}
use Rattle.steps.specs.Until.{until}

-- any legal character
unfoldable pub anything : ℕ → Bool
anything a = true

unfoldable pub character_at : Reader (List ℕ)
character_at = literal_at anything

-- the byte that a reference stands for, and the position behind the reference
unfoldable pub first_byte : List ℕ → ℕ
first_byte [] = 0
first_byte (a ∷ s) = a

unfoldable pub referred : ℕ → Read (List ℕ) → Option (ℕ × ℕ)
referred n fail = None
referred n (got b r) = Some ((first_byte b), (n - length r))

-- a value behind its first quote
unfoldable pub value_rest_at : ℕ → Reader (Unit {0})
value_rest_at q = until (begins (q ∷ [])) (value_character_at q) (mark (q ∷ []))

-- a comment behind `<!--`
unfoldable pub comment_rest_at : Reader (Unit {0})
comment_rest_at = until (begins (ascii "--")) remark_at (mark (ascii "-->"))

-- a character of it that is one byte, but for `]` and a return
unfoldable pub data_plain : ℕ → Bool
data_plain a = lead1 a && (not (eqb a 93) && not (eqb a 13))

-- CDATA behind `<![CDATA[`
unfoldable pub data_rest_at : Reader (Unit {0})
data_rest_at = until (begins (ascii "]]>")) data_character_at (mark (ascii "]]>"))

-- a DOCTYPE behind `<!DOCTYPE`
unfoldable pub doctype_rest_at : Reader (Unit {0})
doctype_rest_at = until (begins (ascii ">")) skipped_at (mark (ascii ">"))
