-- The text of the element at a position, and what is written between its tags.
use Rattle.std.specs.Prelude.{List, [], ℕ, suc, ◌+◌, ◌-◌, Bool, true, false, leb, length, drop, Option, Some, None}
use Rattle.grammar.specs.Read.{Read, fail, got}
use Rattle.nodes.specs.Scan.{tag_at}
use Rattle.nodes.specs.TextBytes.{Rest, outside, within, bytes, Move, stop, skip, char}
use Rattle.nodes.specs.TextBytes.{step, says_from}
use Rattle.nodes.specs.declared.Text.{Text}
use Rattle.nodes.specs.declared.Text.TheVariants.{Stop, Skip, Letter}

-- ON BYTES: where the contents of the element at a position begin; an empty tag has none
unfoldable pub inside_by : ℕ → Read Bool → Option ℕ
inside_by n fail = None
inside_by n (got true r) = Some (n - length r)
inside_by n (got false r) = None

unfoldable pub inside : List ℕ → ℕ → Option ℕ
inside text at = inside_by (length text) (tag_at (drop at text))

-- A PLACE in contents. Up to the length n of the text it is a byte of it, outside of CDATA; n + 1 + i is byte i, within CDATA.
unfoldable pub rest_from_by : Bool → List ℕ → ℕ → Rest
rest_from_by true text i = outside (drop i text)
rest_from_by false text i = within (drop (i - suc (length text)) text)

unfoldable pub rest_from : List ℕ → ℕ → Rest
rest_from text i = rest_from_by (leb i (length text)) text i

unfoldable pub place_of : ℕ → Rest → ℕ
place_of n (outside r) = n - length r
place_of n (within r) = n + 1 + (n - length r)

-- what is said from a place on, and how many bytes are ahead of it
unfoldable pub says_at : List ℕ → ℕ → List ℕ
says_at text i = says_from (rest_from text i)

unfoldable pub left : List ℕ → ℕ → ℕ
left text i = length (bytes (rest_from text i))

-- the text from where contents begin
unfoldable pub text_from : List ℕ → Option ℕ → List ℕ
text_from text None = []
text_from text (Some i) = says_at text i

unfoldable pub text_of_lem : List ℕ → ℕ → List ℕ
text_of_lem text at = text_from text (inside text at)

-- a step, as a program answers it
unfoldable pub as_text : ℕ → Move → Text
as_text n stop = Stop
as_text n (skip r) = Skip (place_of n r)
as_text n (char b r) = Letter b (place_of n r)

unfoldable pub text_step : List ℕ → ℕ → Text
text_step text i = as_text (length text) (step (rest_from text i))
