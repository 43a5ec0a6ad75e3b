-- THE FIRST LINE: lengths, whole numbers with commas, no blanks, ended by a line feed.
use Rattle.std.specs.Prelude.{List, [], ◌∷◌, cond, ℕ, ◌-◌, eqb, length, get_or, take, Option, Some, None}
use Rattle.lists.specs.Lists.{all, each}
use Rattle.grammar.specs.Look.{Word}
use Rattle.numbers.specs.Numbers.{digits, value, parts, comma}
use Rattle.input.specs.declared.lengths.FirstLine.{FirstLine}
use Rattle.input.specs.declared.lengths.FirstLine.TheVariants.{Two, Three, Other}

-- the numbers that words write; none where one is no whole number
unfoldable pub wholes_of : List Word → Option (List ℕ)
wholes_of l = cond (all (digits 1 7) l) (Some (each value l)) None

-- the lengths that the line writes; none where its form is bad
unfoldable pub lengths_in : (line : List ℕ) → Option (List ℕ)
lengths_in line =
    let last = length line - 1 in
    cond (eqb (get_or line last 0) 10) (wholes_of (parts comma (take last line))) None

-- what the reader of the line answers: two lengths or three, and that there are not so many otherwise
unfoldable pub first_by : Option (List ℕ) → FirstLine
first_by None = Other
first_by (Some []) = Other
first_by (Some (a ∷ [])) = Other
first_by (Some (a ∷ b ∷ [])) = Two a b
first_by (Some (a ∷ b ∷ c ∷ [])) = Three a b c
first_by (Some (a ∷ b ∷ c ∷ d ∷ l)) = Other

unfoldable pub length_words : Unit {0}
unfolding wholes_of lengths_in first_by
length_words = tt
