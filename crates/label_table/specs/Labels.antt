-- A TABLE OF LABELS AT A PLACE, on any bytes: the places of its Labels, and the keys that they write. What is in no form reads as 0; the
-- laws say what it all is where an element stands whose keys are in form.
use Rattle.std.specs.Prelude.{◌≡◌, List, [], ◌∷◌, Bool, ℕ, ◌≤◌, ◌<◌, ℤ, pos, length, Option, Some, None}
use Rattle.lists.specs.Lists.{those, two_of, each}
use Rattle.grammar.specs.Bytes.{ascii}
use Rattle.nodes.specs.Children.{first_child, next}
use Rattle.nodes.specs.Found.{value_at_name}
use Rattle.numbers.specs.Numbers.{same_key}
use Rattle.numbers.specs.Answers.{key_in}
use Rattle.inside.specs.Walked.{places_from, nth_place}
use Rattle.inside.specs.Treads.{called}

-- ---- The Labels.

-- their places, from a child on; and all
unfoldable pub labels_from : List ℕ → Option ℕ → List ℕ
labels_from text kid = those (called text (ascii "Label")) (places_from text kid)

unfoldable pub labels : List ℕ → ℕ → List ℕ
labels text at = labels_from text (first_child text at)

-- the first of them, and the next
unfoldable pub first_or_done : List ℕ → Option ℕ
first_or_done [] = None
first_or_done (k ∷ l) = Some k

unfoldable pub label_from : List ℕ → Option ℕ → Option ℕ
label_from text kid = first_or_done (labels_from text kid)

unfoldable pub first_label : List ℕ → ℕ → Option ℕ
first_label text at = label_from text (first_child text at)

unfoldable pub next_label : List ℕ → ℕ → Option ℕ
next_label text k = label_from text (next text k)

-- ---- Their keys.

unfoldable pub key_or_zero : Option ℤ → ℤ
key_or_zero (Some k) = k
key_or_zero None = pos 0

unfoldable pub key_here : List ℕ → ℕ → ℤ
key_here text k = key_or_zero (key_in (value_at_name text k (ascii "Key")))

unfoldable pub table_keys_at : List ℕ → ℕ → List ℤ
table_keys_at text at = each (key_here text) (labels text at)

-- keys written over the front of a list, as many as there is room for; what lies past them is as it was
unfoldable pub keys_written : List ℤ → List ℤ → List ℤ
keys_written [] s = s
keys_written (k ∷ ks) [] = []
keys_written (k ∷ ks) (x ∷ s) = k ∷ keys_written ks s

-- keys written into a list: 17 where there is less room than keys, and the list as it was; else all of them
pub record Wrote (l before : List ℤ) (number count : ℕ) (after : List ℤ) : Type 0 where
  pub short : length before < length l → (number ≡ 17) × (count ≡ 0) × (after ≡ before)
  pub fits : length l ≤ length before → (number ≡ 0) × (count ≡ length l) × (after ≡ keys_written l before)

-- the first Label that has the key
unfoldable pub has_key : ℤ → List ℕ → ℕ → Bool
has_key key text k = same_key key (key_here text k)

unfoldable pub label_with : ℤ → List ℕ → ℕ → Option ℕ
label_with key text at = nth_place 0 (those (has_key key text) (labels text at))

-- a key stands twice
unfoldable pub twice_at : List ℕ → ℕ → Bool
twice_at text at = two_of same_key (table_keys_at text at)
