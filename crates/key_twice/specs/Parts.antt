-- A LIST IN PARTS: a number stands twice in it where it does so in a part, or in a part and once more behind it.
use Rattle.std.specs.Prelude.{List, Bool, ◌||◌, ℕ, eqb}
use Rattle.lists.specs.Lists.{any, two_of}
use Rattle.lists.specs.Reordered.{member}

-- a number of the list is one of `keys`
unfoldable pub some_in : (keys : List ℕ) → List ℕ → Bool
some_in keys l = any (λ c. member c keys) l

-- a number of the part stands in it twice, or once more among the later ones
unfoldable pub part_twice : (part later : List ℕ) → Bool
part_twice part later = two_of eqb part || some_in part later
