-- WHAT A GIFTI LABEL FILE SAYS: its arrays in text order, and its table of labels. It means something for documents that pass conditions 4
-- to 7 and 29.
use Rattle.std.specs.Prelude.{List, Bool, cond, ℕ, ◌*◌, eqb, ℤ, length}
use Rattle.lists.specs.Lists.{each, each_in}
use Rattle.grammar.specs.Document.{Element}
use Rattle.grammar.specs.Look.{Word, attr, has, children, text_of}
use Rattle.numbers.specs.Numbers.{value, listed_keys}
use Rattle.base64_text.specs.Fours.{Endian, big, little, coded_keys, coded_bytes}
use Rattle.cifti.specs.LabelTable.{table_keys}

-- every DataArray in the root, and how many the root says that there are
unfoldable pub arrays_of : Element → List Element
arrays_of e = children "DataArray" e

unfoldable pub arrays_said : Element → ℕ
arrays_said e = value (attr "NumberOfDataArrays" e)

-- ---- Of an array.

unfoldable pub is_coded : Element → Bool
is_coded a = has "Encoding" "Base64Binary" a

unfoldable pub endian_of : Element → Endian
endian_of a = cond (has "Endian" "BigEndian" a) big little

-- what its Data writes
unfoldable pub data_of : Element → Word
data_of a = each_in text_of (children "Data" a)

-- how many keys it is to have
unfoldable pub dim0 : Element → ℕ
dim0 a = value (attr "Dim0" a)

-- the keys: numbers, or bytes four by four
unfoldable pub array_keys : Element → List ℤ
array_keys a = cond (is_coded a) (coded_keys (endian_of a) (data_of a)) (listed_keys (data_of a))

-- as many numbers as Dim0 says, or four times as many bytes
unfoldable pub fills_dim0 : Element → Bool
fills_dim0 a = cond (is_coded a) (eqb (coded_bytes (data_of a)) (4 * dim0 a)) (eqb (length (listed_keys (data_of a))) (dim0 a))

-- ---- Of the table: the LabelTable in the root; the keys that its Labels write.

unfoldable pub label_tables : Element → List Element
label_tables e = children "LabelTable" e

unfoldable pub known_keys : Element → List ℤ
known_keys e = each_in table_keys (label_tables e)

-- the keys of each array
unfoldable pub keys_of_arrays : Element → List (List ℤ)
keys_of_arrays e = each array_keys (arrays_of e)

unfoldable pub array_words : Unit {0}
unfolding arrays_of arrays_said is_coded endian_of data_of dim0 array_keys fills_dim0 label_tables known_keys keys_of_arrays
array_words = tt
