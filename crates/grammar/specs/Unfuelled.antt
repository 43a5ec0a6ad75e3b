-- The parser without its fuel: the equations that a program's loops and calls follow. Fuel beyond the length of the text changes nothing.
use Rattle.std.specs.Prelude.{ℕ, suc, length}
use Rattle.grammar.specs.Document.{Contents}
use Rattle.grammar.specs.Read.{Reader}
use Rattle.grammar.specs.Parser.{contents_at}

-- contents, whatever the fuel
unfoldable pub contents : ℕ → Reader Contents
contents d s = contents_at (suc (length s)) d s
