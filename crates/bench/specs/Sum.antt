-- The sum of the numbers of a list, wrapped at 64 bits; 0 where a word is no whole number.
use Rattle.std.specs.Prelude.{ℕ, ◌%◌, ◌^◌, cond, List}
use Rattle.lists.specs.Lists.{all, total}
use Rattle.grammar.specs.Look.{Word}
use Rattle.nodes.specs.Texts.{says_at}
use Rattle.numbers.specs.Numbers.{digits, value, words}

unfoldable pub sum_of_words : List Word → ℕ
sum_of_words l = cond (all (digits 1 7) l) (total value l % 2 ^ 64) 0

unfoldable pub sum_from : List ℕ → ℕ → ℕ
sum_from text at = sum_of_words (words (says_at text at))
