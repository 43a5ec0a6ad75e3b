-- Tags: what the readers of a start tag and of an end tag answer.
use Rattle.std.specs.Prelude.{List, ℕ, Option, Some, None}
use Rattle.grammar.specs.Bytes.{ascii, blank}
use Rattle.grammar.specs.Read.{Read, fail, got, Reader, bind, ◌>>◌, mark, span}
use Rattle.grammar.specs.Parser.{name_at}
use Rattle.steps.specs.Step.{stepped}
use Rattle.steps.specs.Keys.{Head}
use Rattle.steps.specs.declared.tags.Opened.{Opened}
use Rattle.steps.specs.declared.tags.Opened.TheVariants.{Full, Empty, Bad}

-- behind the head: `>`, or else `/>`
unfoldable pub ended : Option ℕ → Option ℕ → Opened
ended (Some j) e = Full j
ended None (Some j) = Empty j
ended None None = Bad

unfoldable pub opened : ℕ → Read Head → Opened
opened n fail = Bad
opened n (got h r) = ended (stepped n (mark (ascii ">") r)) (stepped n (mark (ascii "/>") r))

-- the end tag of an element of this name
unfoldable pub close_at : List ℕ → Reader (Unit {0})
close_at n = do
  mark (ascii "</")
  mark n
  span blank
  mark (ascii ">")

-- the end tag for the name that begins at `s`
unfoldable pub closing_at : List ℕ → Reader (Unit {0})
closing_at s t = bind (name_at s) (λ n _. close_at n t)
