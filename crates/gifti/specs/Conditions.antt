-- THE NUMBERS OF REFUSAL of a GIFTI label file, over the size of the text, its document (or that there is none), the array asked for, from
-- 0, and the room lent. 29, 7, 30 and 31 range over all arrays.
use Rattle.std.specs.Prelude.{List, [], ◌∷◌, ◌++◌, Bool, ◌&&◌, ◌||◌, not, ℕ, eqb, ltb, ℤ, length, get_or, Option}
use Rattle.lists.specs.Lists.{any, all, there}
use Rattle.lists.specs.Refusals.{Refusal, ◌when◌, first}
use Rattle.grammar.specs.Document.{Element}
use Rattle.grammar.specs.Look.{is, name_of, has}
use Rattle.numbers.specs.Numbers.{same_key}
use Rattle.schema.specs.Schema.{everywhere, shaped, numbered}
use Rattle.cifti.specs.LabelTable.{key_twice_in}
use Rattle.cifti.specs.Conditions.{text_too_long, no_document}
use Rattle.gifti.specs.Rows.{gifti, gifti_rows}
use Rattle.gifti.specs.Arrays.{arrays_of, arrays_said, fills_dim0, label_tables, known_keys, keys_of_arrays}

-- 2, 3: text above 16,777,216 bytes; no document writes this text (CIFTI's)

-- 4: root is not GIFTI with Version `1.0`
unfoldable pub root_wrong : Element → Bool
root_wrong e = not (is "GIFTI" (name_of e) && has "Version" "1.0" e)

-- 6: an element, attribute, child, its place in order, named word or non-blank text is not as above
unfoldable pub shape_wrong : Element → Bool
shape_wrong e = not (everywhere gifti_rows shaped gifti e)

-- 29: an array of another encoding, intent or type
unfoldable pub encoding_read : Element → Bool
encoding_read a = has "Encoding" "ASCII" a || has "Encoding" "Base64Binary" a

unfoldable pub array_read : Element → Bool
array_read a = encoding_read a && (has "Intent" "NIFTI_INTENT_LABEL" a && has "DataType" "NIFTI_TYPE_INT32" a)

unfoldable pub array_not_read : Element → Bool
array_not_read e = not (all array_read (arrays_of e))

-- 7: a number's form, limit or fixed value, or Base64, is not as above
unfoldable pub number_wrong : Element → Bool
number_wrong e = not (everywhere gifti_rows numbered gifti e)

-- 9: arrays are not as many as NumberOfDataArrays
unfoldable pub arrays_wrong : Element → Bool
arrays_wrong e = not (eqb (length (arrays_of e)) (arrays_said e))

-- 24: a key twice in the table
unfoldable pub label_twice : Element → Bool
label_twice e = any key_twice_in (label_tables e)

-- 18: no such array
unfoldable pub no_array : (array : ℕ) → Element → Bool
no_array i e = not (ltb i (length (arrays_of e)))

-- 30: a data length that is not Dim0
unfoldable pub length_wrong : Element → Bool
length_wrong e = not (all fills_dim0 (arrays_of e))

-- 31: a key that no Label has
unfoldable pub is_known : (known : List ℤ) → ℤ → Bool
is_known known k = any (same_key k) known

unfoldable pub some_unknown : (known : List ℤ) → List (List ℤ) → Bool
some_unknown known l = not (all (all (is_known known)) l)

unfoldable pub key_unknown : Element → Bool
key_unknown e = some_unknown (known_keys e) (keys_of_arrays e)

-- the keys of the array asked for
unfoldable pub keys_at : (array : ℕ) → Element → List ℤ
keys_at i e = get_or (keys_of_arrays e) i []

-- 17: the list lent is too short
unfoldable pub room_short : (array room : ℕ) → Element → Bool
room_short i room e = ltb room (length (keys_at i e))

-- ---- THE ORDER OF REFUSALS. Where there is no document, the conditions on one do not arise.

unfoldable pub conditions_of_file : (size : ℕ) → Option Element → List Refusal
conditions_of_file size d =
    2 when text_too_long size
    ∷ 3 when no_document d
    ∷ 4 when there root_wrong d
    ∷ 6 when there shape_wrong d
    ∷ 29 when there array_not_read d
    ∷ 7 when there number_wrong d
    ∷ []

unfoldable pub conditions_of_arrays : (array room : ℕ) → Option Element → List Refusal
conditions_of_arrays i room d =
    9 when there arrays_wrong d
    ∷ 24 when there label_twice d
    ∷ 18 when there (no_array i) d
    ∷ 30 when there length_wrong d
    ∷ 31 when there key_unknown d
    ∷ 17 when there (room_short i room) d
    ∷ []

unfoldable pub gifti_refusals : (size array room : ℕ) → Option Element → List Refusal
gifti_refusals size i room d = conditions_of_file size d ++ conditions_of_arrays i room d

unfoldable pub gifti_refusal : (size array room : ℕ) → Option Element → ℕ
gifti_refusal size i room d = first (gifti_refusals size i room d)

unfoldable pub gifti_conditions : Unit {0}
unfolding text_too_long no_document root_wrong shape_wrong encoding_read array_read array_not_read number_wrong arrays_wrong label_twice no_array
    length_wrong is_known some_unknown key_unknown keys_at room_short conditions_of_file conditions_of_arrays gifti_refusals first gifti_refusal
gifti_conditions = tt
