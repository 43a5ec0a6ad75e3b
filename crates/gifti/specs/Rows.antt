-- THE ELEMENTS OF A GIFTI LABEL FILE (001): a row for each kind of element. LabelTable, Label, MetaData, MD and what they hold are CIFTI's
-- own kinds and rows.
use Rattle.std.specs.Prelude.{List, [], ◌∷◌, ◌++◌, ℕ}
use Prim.Native.String.{String}
use Rattle.numbers.specs.Numbers.{whole, key_list}
use Rattle.base64_text.specs.Base64.{coded}
use Rattle.schema.specs.Schema.{any_value, word, number, AttributeRow, required, optional, any_text, numbers, once, at_most_once}
use Rattle.schema.specs.Schema.{at_least_once, Case, ◌⇒◌, always, chosen_else, child, any_order, in_order, Row, branch, leaf}
use Rattle.schema.specs.Renamed.{row_named}
use Rattle.cifti.specs.Rows.{ElementKind, meta_data, label_table, element_number, rows}

-- CIFTI's kinds, and behind them GIFTI's: an array and its Data are of a kind for each encoding
pub data GiftiKind : Type 0 where
  of_cifti : ElementKind → GiftiKind
  gifti : GiftiKind
  plain_array coded_array other_array : GiftiKind
  plain_data coded_data other_data : GiftiKind

-- their numbers
unfoldable pub gifti_number : GiftiKind → ℕ
gifti_number (of_cifti k) = element_number k
gifti_number gifti = 19
gifti_number plain_array = 20
gifti_number coded_array = 21
gifti_number other_array = 22
gifti_number plain_data = 23
gifti_number coded_data = 24
gifti_number other_data = 25

-- the encodings that are read, each beside the kind of its array
unfoldable pub encodings : List (Case GiftiKind)
encodings = "ASCII" ⇒ plain_array ∷ "Base64Binary" ⇒ coded_array ∷ []

unfoldable pub indexing_orders : List String
indexing_orders = "RowMajorOrder" ∷ "ColumnMajorOrder" ∷ []

unfoldable pub endians : List String
endians = "BigEndian" ∷ "LittleEndian" ∷ []

-- Encoding, Intent and DataType may be any value here: of another word 29 says it. Encoding chooses the row, too.
unfoldable pub array_attributes : List AttributeRow
array_attributes =
    required "ArrayIndexingOrder" (word indexing_orders)
    ∷ required "DataType" any_value
    ∷ required "Intent" any_value
    ∷ required "Encoding" any_value
    ∷ required "Dimensionality" (number (whole 1 1))
    ∷ required "Dim0" (number (whole 1 1048576))
    ∷ optional "ExternalFileName" any_value
    ∷ optional "ExternalFileOffset" any_value
    ∷ []

-- an array and the kind of its Data: 02 puts the root's children in order, and no others
unfoldable pub array_row : List AttributeRow → (holds : GiftiKind) → Row GiftiKind
array_row attributes holds = branch attributes any_order
    (child "MetaData" at_most_once (always (of_cifti meta_data)) ∷ child "Data" once (always holds) ∷ [])

unfoldable pub gifti_rows : GiftiKind → Row GiftiKind
gifti_rows (of_cifti k) = row_named of_cifti (rows k)
-- a whole number has at most seven digits; 9 compares it
gifti_rows gifti = branch
    (required "Version" any_value ∷ required "NumberOfDataArrays" (number (whole 0 9999999)) ∷ []) in_order
    (child "MetaData" at_most_once (always (of_cifti meta_data))
    ∷ child "LabelTable" once (always (of_cifti label_table))
    ∷ child "DataArray" at_least_once (chosen_else "Encoding" encodings other_array)
    ∷ [])
-- bytes have an order, so that Base64Binary needs Endian
gifti_rows plain_array = array_row (array_attributes ++ (optional "Endian" (word endians) ∷ [])) plain_data
gifti_rows coded_array = array_row (required "Endian" (word endians) ∷ array_attributes) coded_data
gifti_rows other_array = array_row (array_attributes ++ (optional "Endian" (word endians) ∷ [])) other_data
gifti_rows plain_data = leaf [] (numbers key_list)
gifti_rows coded_data = leaf [] (numbers coded)
gifti_rows other_data = leaf [] any_text

unfoldable pub gifti_table : Unit {0}
unfolding encodings indexing_orders endians array_attributes array_row gifti_rows
gifti_table = tt
