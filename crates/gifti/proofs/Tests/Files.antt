-- GIFTI LABEL FILES, COMPUTED: the label example of 001 (14.6), and a text for each number and edge that no law holds.
use Rattle.std.specs.Prelude.{◌≡◌, refl, List, [], ◌∷◌, ℕ, pos, negsuc}
use Prim.Native.String.{String}
use Rattle.grammar.specs.Bytes.{◌⊹◌, ascii}
use Rattle.gifti.proofs.Laws.Keys.{number_of, keys_told}
use Rattle.gifti.proofs.Tests.Pieces.{cases, root, label, table, array, array_of, plain, coded, one, two}

-- ---- THE EXAMPLE OF 001, whose page breaks and underscores are mended. It shows the first ten of its numbers: with Dim0 of ten they are
-- its keys.

abbrev marked : String → List ℕ
marked s = ascii "<![CDATA[" ⊹ ascii s ⊹ ascii "]]>"

abbrev md : (name value : String) → List ℕ
md n v = ascii "<MD>\n<Name>" ⊹ marked n ⊹ ascii "</Name>\n<Value>" ⊹ marked v ⊹ ascii "</Value>\n</MD>\n"

abbrev colours : (key red green blue name : String) → List ℕ
colours k r g b n =
    ascii "<Label Key=\"" ⊹ ascii k ⊹ ascii "\" Red=\"" ⊹ ascii r ⊹ ascii "\" Green=\"" ⊹ ascii g ⊹ ascii "\" Blue=\"" ⊹ ascii b
    ⊹ ascii "\"\n Alpha=\"1.000\">" ⊹ marked n ⊹ ascii "</Label>\n"

abbrev example : (schema : List ℕ) (dim0 : String) → List ℕ
example s d =
    ascii "<?xml version=\"1.0\" encoding=\"UTF-8\"?>\n"
    ⊹ ascii "<!DOCTYPE GIFTI SYSTEM \"http://www.nitrc.org/frs/download.php/1594/gifti.dtd\">\n<GIFTI\n" ⊹ s
    ⊹ ascii " Version=\"1.0\"\n NumberOfDataArrays=\"1\">\n<MetaData>\n" ⊹ md "date" "3 Nov 2009 11:08:27"
    ⊹ ascii "</MetaData>\n<LabelTable>\n" ⊹ colours "0" "0.667" "0.667" "0.667" "???" ⊹ colours "1" "1.000" "1.000" "0.000" "Positive"
    ⊹ colours "2" "0.008" "1.000" "1.000" "Negative" ⊹ ascii "</LabelTable>\n<DataArray Intent=\"NIFTI_INTENT_LABEL\"\n"
    ⊹ ascii " DataType=\"NIFTI_TYPE_INT32\"\n ArrayIndexingOrder=\"RowMajorOrder\"\n Dimensionality=\"1\"\n Dim0=\"" ⊹ ascii d
    ⊹ ascii "\"\n Encoding=\"ASCII\"\n Endian=\"LittleEndian\"\n ExternalFileName=\"\"\n ExternalFileOffset=\"\">\n<MetaData>\n"
    ⊹ md "Description" "" ⊹ md "Name" "Activations" ⊹ md "UniqueID" "{06058ed8-b782-4431-99ac-b760a7410080}"
    ⊹ md "tagStudyMetaDataLinkSet" "" ⊹ ascii "</MetaData>\n<Data>\n0\n2\n0\n1\n1\n0\n2\n0\n1\n0\n</Data>\n</DataArray>\n</GIFTI>"

-- with the two attributes of its schema: 6
abbrev schema : List ℕ
schema =
    ascii "xmlns:xsi=\"http://www.w3.org/2001/XMLSchema-instance\"\n"
    ⊹ ascii " xsi:noNamespaceSchemaLocation=\"http://www.nitrc.org/frs/download.php/1303/GIFTI_Caret.xsd\"\n"

pub example_schema : number_of (example schema "10") 0 10 ≡ 6
unfolding cases
example_schema = refl

-- without them: its keys; 30 with the Dim0 of the whole list
pub example_keys : (keys_told (example [] "10") 0 10
    ≡ pos 0 ∷ pos 2 ∷ pos 0 ∷ pos 1 ∷ pos 1 ∷ pos 0 ∷ pos 2 ∷ pos 0 ∷ pos 1 ∷ pos 0 ∷ [])
    × (number_of (example [] "10") 0 10 ≡ 0) × (number_of (example [] "71723") 0 10 ≡ 30)
unfolding cases
example_keys = (refl, refl, refl)

-- ---- ENCODINGS: the same keys, as numbers and as bytes in either order.

pub plain_keys : keys_told (one (plain "4" " 0 -1\n02 1 ")) 0 4 ≡ pos 0 ∷ negsuc 0 ∷ pos 2 ∷ pos 1 ∷ []
unfolding cases
plain_keys = refl

pub little_keys : keys_told (one (coded "LittleEndian" "4" "AAAAAP//\n//8CAAAA AQAAAA==")) 0 4 ≡ pos 0 ∷ negsuc 0 ∷ pos 2 ∷ pos 1 ∷ []
unfolding cases
little_keys = refl

pub big_keys : keys_told (one (coded "BigEndian" "4" "AAAAAP////8AAAACAAAAAQ==")) 0 4 ≡ pos 0 ∷ negsuc 0 ∷ pos 2 ∷ pos 1 ∷ []
unfolding cases
big_keys = refl

-- ---- 6: children of the root out of order, Endian missing with Base64Binary.

pub out_of_order : number_of (root "" "1" (plain "1" "0" ⊹ table)) 0 1 ≡ 6
unfolding cases
out_of_order = refl

pub endian_missing : number_of (one (array "Base64Binary" "1" "AAAAAA==")) 0 1 ≡ 6
unfolding cases
endian_missing = refl

-- ---- 29: another encoding, intent or type, and not 6; before 7. A missing Encoding is 6.

pub other_words : (number_of (one (array "GZipBase64Binary" "1" "0")) 0 1 ≡ 29)
    × (number_of (one (array_of "ASCII" "NIFTI_INTENT_SHAPE" "NIFTI_TYPE_INT32" "1" "0")) 0 1 ≡ 29)
    × (number_of (two (plain "1" "x") (array_of "ASCII" "NIFTI_INTENT_LABEL" "NIFTI_TYPE_FLOAT32" "1" "0")) 0 1 ≡ 29)
unfolding cases
other_words = (refl, refl, refl)

-- ---- 7: a number, and Base64, in an array that is not asked for.

pub in_other_array : (number_of (two (plain "1" "0") (plain "1" "+0")) 0 1 ≡ 7)
    × (number_of (two (plain "1" "0") (coded "BigEndian" "1" "AAAAAA=")) 0 1 ≡ 7)
unfolding cases
in_other_array = (refl, refl)

-- ---- 9, 24, 18, 30, 31, 17 in this order.

pub too_few_arrays : (number_of (root "" "2" (table ⊹ plain "1" "0")) 0 1 ≡ 9)
    × (number_of (root "" "0000001" (table ⊹ plain "1" "0")) 0 1 ≡ 0)
unfolding cases
too_few_arrays = (refl, refl)

pub key_twice : number_of (root "" "1" (ascii "<LabelTable>" ⊹ label "0" ⊹ label "-00" ⊹ ascii "</LabelTable>" ⊹ plain "1" "0")) 1 1 ≡ 24
unfolding cases
key_twice = refl

-- an array that is not there is told before a length, a length before a key, a key before the room
pub no_array_lem : number_of (one (plain "2" "3")) 1 0 ≡ 18
unfolding cases
no_array_lem = refl

pub length_first : (number_of (two (plain "1" "3") (plain "2" "0")) 0 0 ≡ 30) × (number_of (two (plain "1" "0") (plain "1" "3")) 0 0 ≡ 31)
unfolding cases
length_first = (refl, refl)

-- bytes that are no multiple of four
pub five_bytes : number_of (one (coded "BigEndian" "1" "AAAAAAA=")) 0 1 ≡ 30
unfolding cases
five_bytes = refl

-- the room of the array asked for alone
pub second_array : (keys_told (two (plain "2" "0 1") (plain "1" "2")) 1 1 ≡ pos 2 ∷ [])
    × (number_of (two (plain "2" "0 1") (plain "1" "2")) 1 1 ≡ 0) × (number_of (two (plain "2" "0 1") (plain "1" "2")) 0 1 ≡ 17)
unfolding cases
second_array = (refl, refl, refl)
