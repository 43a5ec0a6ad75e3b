-- Pieces of which GIFTI texts are made.
use Rattle.std.specs.Prelude.{List, ℕ}
use Prim.Native.String.{String}
use Rattle.lists.specs.Lists.{lists}
use Rattle.lists.specs.Refusals.{refusals}
use Rattle.grammar.specs.Bytes.{◌⊹◌, ascii}
use Rattle.grammar.specs.Parser.{computing}
use Rattle.grammar.specs.Look.{looks}
use Rattle.numbers.specs.Numbers.{numbers}
use Rattle.base64_text.specs.Base64.{base64}
use Rattle.base64_text.specs.Fours.{fours}
use Rattle.schema.specs.Schema.{schema}
use Rattle.schema.proofs.Laws.Renamed.{renaming}
use Rattle.cifti.specs.LabelTable.{label_words}
use Rattle.cifti.specs.Rows.{row_table}
use Rattle.gifti.specs.Rows.{gifti_table}
use Rattle.gifti.specs.Arrays.{array_words}
use Rattle.gifti.specs.Conditions.{gifti_conditions}
use Rattle.gifti.specs.Keys.{key_words}
use Rattle.gifti.proofs.Laws.Keys.{keys_model}

unfoldable pub cases : Unit {0}
unfolding computing lists refusals looks numbers base64 fours schema renaming label_words row_table gifti_table array_words gifti_conditions
    key_words keys_model
cases = tt

-- a root of so many arrays, with attributes of its own
abbrev pub root : (attributes arrays : String) → List ℕ → List ℕ
root a n c = ascii "<GIFTI Version=\"1.0\" NumberOfDataArrays=\"" ⊹ ascii n ⊹ ascii "\"" ⊹ ascii a ⊹ ascii ">" ⊹ c ⊹ ascii "</GIFTI>"

abbrev pub label : (key : String) → List ℕ
label k = ascii "<Label Key=\"" ⊹ ascii k ⊹ ascii "\" Red=\"0\" Green=\"0.5\" Blue=\"1\" Alpha=\"1\">n</Label>"

-- the table of the keys 0, 1, 2 and -1
abbrev pub table : List ℕ
table = ascii "<LabelTable>" ⊹ label "0" ⊹ label "1" ⊹ label "2" ⊹ label "-1" ⊹ ascii "</LabelTable>"

-- an array, with its Encoding and what else is written of it
abbrev pub array_of : (encoding intent type dim0 contents : String) → List ℕ
array_of n i t d c =
    ascii "<DataArray ArrayIndexingOrder=\"RowMajorOrder\" Dimensionality=\"1\" Encoding=\"" ⊹ ascii n ⊹ ascii "\" Intent=\"" ⊹ ascii i
    ⊹ ascii "\" DataType=\"" ⊹ ascii t ⊹ ascii "\" Dim0=\"" ⊹ ascii d ⊹ ascii "\"><Data>" ⊹ ascii c ⊹ ascii "</Data></DataArray>"

abbrev pub array : (encoding dim0 contents : String) → List ℕ
array n d c = array_of n "NIFTI_INTENT_LABEL" "NIFTI_TYPE_INT32" d c

abbrev pub plain : (dim0 contents : String) → List ℕ
plain d c = array "ASCII" d c

abbrev pub coded : (endian dim0 contents : String) → List ℕ
coded o d c =
    ascii "<DataArray Endian=\"" ⊹ ascii o ⊹ ascii "\" ArrayIndexingOrder=\"ColumnMajorOrder\" Dimensionality=\"1\" Dim0=\"" ⊹ ascii d
    ⊹ ascii "\" Intent=\"NIFTI_INTENT_LABEL\" DataType=\"NIFTI_TYPE_INT32\" Encoding=\"Base64Binary\"><Data>" ⊹ ascii c
    ⊹ ascii "</Data></DataArray>"

-- one array, and two, behind the table
abbrev pub one : List ℕ → List ℕ
one a = root "" "1" (table ⊹ a)

abbrev pub two : List ℕ → List ℕ → List ℕ
two a b = root "" "2" (table ⊹ a ⊹ b)
