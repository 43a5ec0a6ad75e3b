-- Children of an element, without their contents' positions: how the reader of contents goes from one child to the next.
use Rattle.std.specs.Prelude.{List, ℕ, Bool, true, false, not}
use Rattle.grammar.specs.Bytes.{ascii, begins}
use Rattle.grammar.specs.Read.{fail, Reader, bind, ◌>>=◌, ◌>>◌, pure, test, all_of}
use Rattle.grammar.specs.Parser.{Look, at_close, at_comment, at_data, at_element, at_text, look, comment_at, data_at_lem, text_at}

-- what stands between children: a comment, or characters: one of text, or those of CDATA
pub data Piece : Type 0 where
  remark : Piece
  character : List ℕ → Piece

-- a character of text; the bytes `]]>` never stand in it
unfoldable pub text_piece_at : Reader (List ℕ)
text_piece_at s = bind (test (not (begins (ascii "]]>") s)) s) (λ _ r. text_at r)

unfoldable pub piece_by : Look → Reader Piece
piece_by at_close = λ s. fail
piece_by at_comment = do
  comment_at
  pure remark
piece_by at_data = do
  b ← data_at_lem
  pure (character b)
piece_by at_element = λ s. fail
piece_by at_text = do
  b ← text_piece_at
  pure (character b)

unfoldable pub piece_at : Reader Piece
piece_at s = piece_by (look s) s

-- an end tag, a start tag or the end of the text stops them
unfoldable pub halts : Look → Bool
halts at_close = true
halts at_comment = false
halts at_data = false
halts at_element = true
halts at_text = false

unfoldable pub pause : List ℕ → Bool
pause s = halts (look s)

unfoldable pub pieces_at : Reader (List Piece)
pieces_at = all_of pause piece_at
