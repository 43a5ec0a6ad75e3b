-- LABELS: the keys of one label table in text order, and the name of a key, which is the part of the text between the tags of its Label,
-- undecoded. Both check 1 to 9, 24, 25 and 18; then 17 where the list lent is short, or 19 where there is no such key.
use Rattle.std.specs.Prelude.{List, [], ◌∷◌, ◌++◌, Bool, ◌&&◌, not, ℕ, zero, suc, eqb, ltb, ℤ, length, get_or, drop, Option, Some, None}
use Rattle.lists.specs.Lists.{any, those, each, each_in}
use Rattle.grammar.specs.Document.{Element}
use Rattle.grammar.specs.Look.{Word}
use Rattle.numbers.specs.Numbers.{same_key}
use Rattle.cifti.specs.LabelTable.{names_with}
use Rattle.cifti.specs.Maps.{Map, is_labels, dimensions_of, tables_in, map_elements}
use Rattle.cifti.specs.Conditions.{Refusal, ◌when◌, conditions_of_header, conditions_of_labels, of_maps, first}
use Rattle.cifti.specs.Answer.{maps_in}
use Rattle.cifti.specs.Text.{Answers}

-- 18: no such dimension, it is not labels, or the index is not below its length
unfoldable pub holds_table : (index : ℕ) → Map → Bool
holds_table i m = is_labels m.kind && ltb i m.counted

unfoldable pub no_table : (dimension index : ℕ) → List Map → Bool
no_table d i l = not (any (λ m. any (eqb d) m.dimensions && holds_table i m) l)

-- 1 to 9, 24, 25 and 18, which both check
unfoldable pub labels_refusals : (lengths : List ℕ) (size dimension index : ℕ) → Option Element → List Refusal
labels_refusals lengths size d i e =
    conditions_of_header lengths size e ++ (conditions_of_labels e ++ (18 when of_maps (no_table d i) e ∷ []))

-- ---- THE KEYS of the table of an index, from 0, of the map that the dimension has.

unfoldable pub keys_on : (dimension index : ℕ) → List Map → List ℤ
keys_on d i l = get_or (each_in (λ m. m.tables) (those (λ m. any (eqb d) m.dimensions) l)) i []

-- 17: the list lent is too short
unfoldable pub keys_short : (dimension index room : ℕ) → List Map → Bool
keys_short d i room l = ltb room (length (keys_on d i l))

unfoldable pub keys_refusal : (lengths : List ℕ) (size dimension index room : ℕ) → Option Element → ℕ
keys_refusal lengths size d i room e = first (labels_refusals lengths size d i e ++ (17 when of_maps (keys_short d i room) e ∷ []))

-- what comes of a number of refusal (0: none): the keys, and none where the text is refused
unfoldable pub keys_by : (number dimension index : ℕ) → Option Element → List ℤ
keys_by zero d i e = keys_on d i (maps_in e)
keys_by (suc n) d i e = []

unfoldable pub keys_given : (lengths : List ℕ) (size dimension index room : ℕ) → Option Element → List ℤ
keys_given lengths size d i room e = keys_by (keys_refusal lengths size d i room e) d i e

unfoldable pub keys_count : (lengths : List ℕ) (size dimension index room : ℕ) → Option Element → ℕ
keys_count lengths size d i room e = length (keys_given lengths size d i room e)

-- written from the start of the list lent; what lies past stays
unfoldable pub overwritten : (new old : List ℤ) → List ℤ
overwritten new old = new ++ drop (length new) old

unfoldable pub keys_afterwards : (lengths : List ℕ) (dimension index : ℕ) (keys : List ℤ) (size : ℕ) → Option Element → List ℤ
keys_afterwards lengths d i keys size e = overwritten (keys_given lengths size d i (length keys) e) keys

-- THE PROMISE: number, count, and the list lent, after the call.
pub record Keys (text lengths : List ℕ) (dimension index : ℕ) (keys : List ℤ) (number count : ℕ) (keysAfter : List ℤ) : Type 0 where
  pub numbered : Answers text (keys_refusal lengths (length text) dimension index (length keys)) number
  pub counted : Answers text (keys_count lengths (length text) dimension index (length keys)) count
  pub filled : Answers text (keys_afterwards lengths dimension index keys (length text)) keysAfter

-- ---- THE NAME OF A KEY of that table.

-- 19: no such key
unfoldable pub no_key : (dimension index : ℕ) (key : ℤ) → List Map → Bool
no_key d i k l = not (any (same_key k) (keys_on d i l))

unfoldable pub label_refusal : (lengths : List ℕ) (size dimension index : ℕ) (key : ℤ) → Option Element → ℕ
label_refusal lengths size d i k e = first (labels_refusals lengths size d i e ++ (19 when of_maps (no_key d i k) e ∷ []))

-- the label tables of the map that the dimension has, in order
unfoldable pub tables_on : (dimension : ℕ) → Element → List Element
tables_on d e = each_in tables_in (those (λ m. any (eqb d) (dimensions_of m)) (map_elements e))

-- what the Labels of the key write in the table of the index; by 24 there is one at most
unfoldable pub labels_on : (dimension index : ℕ) (key : ℤ) → Element → List Word
labels_on d i k e = get_or (each (names_with k) (tables_on d e)) i []

-- a refused answer's part is empty
unfoldable pub label_by : (number dimension index : ℕ) (key : ℤ) → Option Element → Word
label_by (suc n) d i k e = []
label_by zero d i k None = []
label_by zero d i k (Some e) = get_or (labels_on d i k e) 0 []

unfoldable pub label_part : (lengths : List ℕ) (size dimension index : ℕ) (key : ℤ) → Option Element → Word
label_part lengths size d i k e = label_by (label_refusal lengths size d i k e) d i k e

-- THE TWO PROMISES: the number, and the part.
pub record LabelNumber (text lengths : List ℕ) (dimension index : ℕ) (key : ℤ) (number : ℕ) : Type 0 where
  pub asked : Answers text (label_refusal lengths (length text) dimension index key) number

pub record LabelPart (text lengths : List ℕ) (dimension index : ℕ) (key : ℤ) (part : List ℕ) : Type 0 where
  pub asked : Answers text (label_part lengths (length text) dimension index key) part

unfoldable pub labels_words : Unit {0}
unfolding holds_table no_table labels_refusals keys_on keys_short keys_refusal keys_by keys_given keys_count overwritten
    keys_afterwards no_key label_refusal tables_on labels_on label_by label_part
labels_words = tt
