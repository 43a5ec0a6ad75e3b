-- A TABLE OF LABELS, for any element taken as a LabelTable: the keys that its Labels write, in order; a key that stands twice; the Labels
-- of a key, and their names as they are written. It means something where every Key is in form.
use Rattle.std.specs.Prelude.{List, Bool, ℤ}
use Rattle.lists.specs.Lists.{all, those, two_of, each}
use Rattle.grammar.specs.Document.{Element}
use Rattle.grammar.specs.Look.{Word, attr, within_of, children}
use Rattle.numbers.specs.Numbers.{key, key_value, same_key}

unfoldable pub labels_of : Element → List Element
labels_of e = children "Label" e

unfoldable pub label_key : Element → ℤ
label_key l = key_value (attr "Key" l)

-- every Key is in form
unfoldable pub keys_right : Element → Bool
keys_right e = all (λ l. key (attr "Key" l)) (labels_of e)

-- the keys of the table
unfoldable pub table_keys : Element → List ℤ
table_keys e = each label_key (labels_of e)

-- two Labels of the table have one key, by value
unfoldable pub key_twice_in : Element → Bool
key_twice_in e = two_of same_key (table_keys e)

-- the Labels that have this key
unfoldable pub labels_with : ℤ → Element → List Element
labels_with k e = those (λ l. same_key k (label_key l)) (labels_of e)

-- their names: what stands between the tags of each, undecoded (`<Label ../>`: nothing)
unfoldable pub names_with : ℤ → Element → List Word
names_with k e = each within_of (labels_with k e)

unfoldable pub label_words : Unit {0}
unfolding labels_of label_key keys_right table_keys key_twice_in labels_with names_with
label_words = tt
