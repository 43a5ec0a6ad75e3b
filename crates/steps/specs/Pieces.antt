-- Between the tags in contents: what the readers of characters, comments and CDATA answer.
use Rattle.std.specs.Prelude.{List, ℕ, ◌-◌, Bool, ◌&&◌, not, eqb, length}
use Rattle.grammar.specs.Bytes.{special}
use Rattle.grammar.specs.Characters.{lead1}
use Rattle.grammar.specs.Read.{Read, fail, got}
use Rattle.grammar.specs.Parser.{Look, at_close, at_comment, at_data, at_element, at_text, look}
use Rattle.steps.specs.Row.{Piece}
use Rattle.steps.specs.declared.pieces.Front.{Front}
use Rattle.steps.specs.declared.pieces.Between.{Between}

unfoldable pub front : Look → Front
front at_close = Front.Close
front at_comment = Front.Comment
front at_data = Front.Data
front at_element = Front.Start
front at_text = Front.Text

-- a character of one byte, without `<`, `&` and `]`
unfoldable pub plain : ℕ → Bool
plain a = lead1 a && (not (special a) && not (eqb a 93))

unfoldable pub halted : Look → ℕ → Between
halted at_close i = Between.Close i
halted at_comment i = Between.Bad
halted at_data i = Between.Bad
halted at_element i = Between.Start i
halted at_text i = Between.Bad

-- what stops the pieces
unfoldable pub stopped_by : ℕ → Read (List Piece) → Between
stopped_by n fail = Between.Bad
stopped_by n (got l r) = halted (look r) (n - length r)
