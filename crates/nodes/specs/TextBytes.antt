-- The decoded bytes of an element's text, one by one: comments and children are passed over and part nothing; CDATA says its characters.
use Rattle.std.specs.Prelude.{List, [], ◌∷◌, ℕ, zero, suc, Bool, true, false, length}
use Rattle.grammar.specs.Bytes.{ascii, begins}
use Rattle.grammar.specs.Read.{Read, fail, got, mark}
use Rattle.grammar.specs.Parser.{reference_at, line_end_at, comment_at, Look, at_close, at_comment, at_data, at_element, at_text}
use Rattle.grammar.specs.Parser.{look}
use Rattle.steps.specs.Leaves.{first_byte}
use Rattle.nodes.specs.Scan.{skip_at}

-- WHAT IS LEFT of contents: outside of CDATA, or within it
pub data Rest : Type 0 where
  outside : List ℕ → Rest
  within : List ℕ → Rest

abbrev pub bytes : Rest → List ℕ
bytes (outside s) = s
bytes (within s) = s

-- ON BYTES: a step over contents: it stops, passes over something, or reads a decoded byte
pub data Move : Type 0 where
  stop : Move
  skip : Rest → Move
  char : ℕ → Rest → Move

unfoldable pub past : (List ℕ → Rest) → Read (Unit {0}) → Move
past side fail = stop
past side (got u r) = skip (side r)

unfoldable pub referring : (List ℕ → Rest) → Read (List ℕ) → Move → Move
referring side fail x = x
referring side (got b r) x = char (first_byte b) (side r)

-- a byte that begins no reference: the end of a line is a line feed
unfoldable pub bare_char : (List ℕ → Rest) → ℕ → List ℕ → Move
bare_char side a s = referring side (line_end_at (ascii "\n") (a ∷ s)) (char a (side s))

-- outside of CDATA: its mark leads into it
unfoldable pub step_by : Look → List ℕ → Move
step_by at_close s = stop
step_by at_element s = past outside (skip_at s)
step_by at_comment s = past outside (comment_at s)
step_by at_data s = past within (mark (ascii "<![CDATA[") s)
step_by at_text [] = stop
step_by at_text (a ∷ s) = referring outside (reference_at (a ∷ s)) (bare_char outside a s)

-- within CDATA: `]]>` leads out of it
unfoldable pub step_in : Bool → List ℕ → Move
step_in true s = past outside (mark (ascii "]]>") s)
step_in false [] = stop
step_in false (a ∷ s) = bare_char within a s

unfoldable pub step : Rest → Move
step (outside s) = step_by (look s) s
step (within s) = step_in (begins (ascii "]]>") s) s

unfoldable pub say : Move → (Rest → List ℕ) → List ℕ
say stop f = []
say (skip r) f = f r
say (char b r) f = b ∷ f r

unfoldable pub said_within : ℕ → Rest → List ℕ
said_within zero x = []
said_within (suc n) x = say (step x) (said_within n)

unfoldable pub says_from : Rest → List ℕ
says_from x = said_within (suc (length (bytes x))) x
