-- THE NUMBER OF A WORD: its place in a list of words, from 0; their number where it is none of them.
use Rattle.std.specs.Prelude.{List, [], ◌∷◌, cond, ℕ, suc}
use Prim.Native.String.{String}
use Rattle.grammar.specs.Look.{Word, is}

unfoldable pub number_in : List String → Word → ℕ
number_in [] w = 0
number_in (s ∷ l) w = cond (is s w) 0 (suc (number_in l w))
