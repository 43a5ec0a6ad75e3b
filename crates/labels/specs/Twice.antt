-- A KEY TWICE in the tables of labels maps: the loops over the children of a name, on any bytes; and, where elements stand that pass 6 and
-- 7, that they say condition 24.
use Rattle.std.specs.Prelude.{List, Bool, ◌&&◌, ℕ, Option}
use Rattle.lists.specs.Lists.{any, those, two_of}
use Rattle.grammar.specs.Bytes.{ascii}
use Rattle.numbers.specs.Numbers.{same_key}
use Rattle.nodes.specs.Children.{first_child}
use Rattle.inside.specs.Walked.{places_from}
use Rattle.inside.specs.Treads.{called}
use Rattle.label_table.specs.Labels.{twice_at}
use Rattle.cifti.specs.Maps.{Map, is_labels}

-- ---- The children of a name, by their places; some one of them passes.

unfoldable pub children_from : (text word : List ℕ) → Option ℕ → List ℕ
children_from text w kid = those (called text w) (places_from text kid)

unfoldable pub some_child : (text word : List ℕ) → (ℕ → Bool) → ℕ → Bool
some_child text w p at = any p (children_from text w (first_child text at))

-- ---- The two loops.

unfoldable pub named_twice : List ℕ → ℕ → Bool
named_twice text at = some_child text (ascii "LabelTable") (twice_at text) at

unfoldable pub tables_twice : List ℕ → ℕ → Bool
tables_twice text at = some_child text (ascii "NamedMap") (named_twice text) at

-- ---- A map, if it is of labels.

unfoldable pub map_twice : Map → Bool
map_twice m = is_labels m.kind && any (two_of same_key) m.tables
