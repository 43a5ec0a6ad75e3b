-- LABELS, COMPUTED: the dense label example of document 002, of both kinds; case A with labels in the place of its scalars.
use Rattle.std.specs.Prelude.{◌≡◌, refl, List, [], ◌∷◌, ℕ, pos, negsuc}
use Prim.Native.String.{String}
use Rattle.grammar.specs.Bytes.{◌⊹◌, ascii}
use Rattle.cifti.specs.Answer.{unused, no_series}
use Rattle.cifti.specs.Labels.{labels_words}
use Rattle.cifti.proofs.Laws.Theorems.{number_of, answer_of, name_number_of}
use Rattle.cifti.proofs.Laws.Labels.{labels_model, keys_number_of, keys_told, label_number_of, label_part_of}
use Rattle.cifti.proofs.Tests.Cases.{cases, three}
use Rattle.cifti.proofs.Tests.Pieces.{doc, map, surface, voxels, volume}
use Rattle.cifti.specs.declared.answer.Kind.TheVariants.{Brain, Labels}

-- ---- THE EXAMPLE OF 002. What its page breaks have lost is filled in: its first table ends behind the first Label, the second NamedMap
-- is the shortest, and the brain map is that of the example before it, which ends in the same lines.

abbrev example : (kind : String) → List ℕ
example k =
    ascii "<CIFTI Version=\"2\">\n<Matrix>\n<MetaData>\n<MD>\n<Name>UserName</Name>\n<Value>Joe User</Value>\n</MD>\n</MetaData>\n"
    ⊹ ascii "<MatrixIndicesMap AppliesToMatrixDimension=\"0\"\n  IndicesMapToDataType=\"CIFTI_INDEX_TYPE_" ⊹ ascii k
    ⊹ ascii "\">\n<NamedMap>\n<MapName>subcortical areas</MapName>\n<MetaData>\n<MD>\n<Name>Comment</Name>\n"
    ⊹ ascii "<Value>derived from freesurfer</Value>\n</MD>\n</MetaData>\n"
    ⊹ ascii "<LabelTable>\n<Label Key=\"0\" Red=\"1\" Green=\"1\" Blue=\"1\"\n  Alpha=\"0\">???</Label>\n</LabelTable>\n</NamedMap>\n"
    ⊹ ascii "<NamedMap><MapName/><LabelTable/></NamedMap>\n</MatrixIndicesMap>\n"
    ⊹ ascii "<MatrixIndicesMap AppliesToMatrixDimension=\"1\"\n  IndicesMapToDataType=\"CIFTI_INDEX_TYPE_BRAIN_MODELS\">\n"
    ⊹ ascii "<Volume VolumeDimensions=\"176,208,176\">\n<TransformationMatrixVoxelIndicesIJKtoXYZ\n  MeterExponent=\"-3\">\n"
    ⊹ ascii "-2.0  0.0  0.0  126.0\n0.0  -2.0  0.0  128.0\n0.0  0.0  2.0  -66.0\n0.0  0.0  0.0   1.0\n"
    ⊹ ascii "</TransformationMatrixVoxelIndicesIJKtoXYZ>\n</Volume>\n"
    ⊹ ascii "<BrainModel IndexOffset=\"0\"\n  IndexCount=\"3\"\n  ModelType=\"CIFTI_MODEL_TYPE_SURFACE\"\n"
    ⊹ ascii "  BrainStructure=\"CIFTI_STRUCTURE_CORTEX_LEFT\"\n  SurfaceNumberOfVertices=\"7\">\n"
    ⊹ ascii "<VertexIndices>\n  0 2 4\n</VertexIndices>\n</BrainModel>\n"
    ⊹ ascii "<BrainModel IndexOffset=\"3\"\n  IndexCount=\"2\"\n  ModelType=\"CIFTI_MODEL_TYPE_VOXELS\"\n"
    ⊹ ascii "  BrainStructure=\"CIFTI_STRUCTURE_THALAMUS_LEFT\">\n"
    ⊹ ascii "<VoxelIndicesIJK>\n  27 38 40\n  27 39 40\n</VoxelIndicesIJK>\n</BrainModel>\n"
    ⊹ ascii "</MatrixIndicesMap>\n</Matrix>\n</CIFTI>"

abbrev five : List ℕ
five = 9 ∷ 9 ∷ three

-- with SCALARS, as 002 has it by mistake: 6, of the read and of both questions
pub example_scalars : (number_of (example "SCALARS") (2 ∷ 5 ∷ []) five five ≡ 6)
    × (keys_number_of (example "SCALARS") (2 ∷ 5 ∷ []) 0 0 1 ≡ 6)
    × (label_number_of (example "SCALARS") (2 ∷ 5 ∷ []) 0 0 (pos 0) ≡ 6)
unfolding cases labels_words labels_model
example_scalars = (refl, refl, refl)

pub example_labels : answer_of (example "LABELS") (2 ∷ 5 ∷ []) five five
    ≡ record {
      number = 0;
      dimensions = record { kind = Labels; length = 2; start = record { 0 = 0 }; series = no_series }
          ∷ record { kind = Brain; length = 5; start = record { 0 = 0 }; series = no_series }
          ∷ unused
          ∷ [];
    }
unfolding cases
example_labels = refl

-- the key 0 in the first table, and 17 where no place is lent; none in the second, whatever is lent
pub example_keys : (keys_told (example "LABELS") (2 ∷ 5 ∷ []) 0 0 1 ≡ pos 0 ∷ [])
    × (keys_number_of (example "LABELS") (2 ∷ 5 ∷ []) 0 0 0 ≡ 17)
    × (keys_told (example "LABELS") (2 ∷ 5 ∷ []) 0 1 0 ≡ []) × (keys_number_of (example "LABELS") (2 ∷ 5 ∷ []) 0 1 0 ≡ 0)
unfolding cases labels_words labels_model
example_keys = (refl, refl, refl, refl)

-- the name of the key 0, and no key 1
pub example_names : (label_part_of (example "LABELS") (2 ∷ 5 ∷ []) 0 0 (pos 0) ≡ ascii "???")
    × (label_number_of (example "LABELS") (2 ∷ 5 ∷ []) 0 0 (pos 1) ≡ 19)
unfolding cases labels_words labels_model
example_names = (refl, refl)

-- ---- CASE A WITH LABELS.

abbrev label : (key name : String) → List ℕ
label k n = ascii "<Label Key='" ⊹ ascii k ⊹ ascii "' Red='0' Green='0.5' Blue='1' Alpha='1'>" ⊹ ascii n ⊹ ascii "</Label>"

abbrev tabled : List ℕ → List ℕ
tabled l = ascii "<NamedMap><MapName>a</MapName><LabelTable>" ⊹ l ⊹ ascii "</LabelTable></NamedMap>"

-- the brain map of A, of that dimension
abbrev brain_a : (dimension : String) → List ℕ
brain_a d = map d "BRAIN_MODELS" (volume ⊹ voxels "2" "1" "BRAIN_STEM" "2 3 5" ⊹ surface "0" "2" "CORTEX_RIGHT" "5" "4 1")

abbrev case_a : (first second : List ℕ) → List ℕ
case_a a b = doc (brain_a "1" ⊹ map "0" "LABELS" (tabled a ⊹ tabled b))

-- 24: a key twice in the second table, as `5` and `05`; one key in two tables is fine
pub key_twice : (number_of (case_a (label "5" "x") (label "5" "x" ⊹ label "05" "y")) (2 ∷ 3 ∷ []) three three ≡ 24)
    × (keys_number_of (case_a (label "5" "x") (label "5" "x" ⊹ label "05" "y")) (2 ∷ 3 ∷ []) 0 0 1 ≡ 24)
    × (label_number_of (case_a (label "5" "x") (label "5" "x" ⊹ label "05" "y")) (2 ∷ 3 ∷ []) 0 0 (pos 5) ≡ 24)
unfolding cases labels_words labels_model
key_twice = (refl, refl, refl)

pub one_key_in_two : (number_of (case_a (label "5" "x") (label "05" "y")) (2 ∷ 3 ∷ []) three three ≡ 0)
    × (label_part_of (case_a (label "5" "x") (label "05" "y")) (2 ∷ 3 ∷ []) 0 1 (pos 5) ≡ ascii "y")
unfolding cases labels_words labels_model
one_key_in_two = (refl, refl)

-- both limits of a key, and past each
pub limits : (keys_told (case_a (label "-2147483648" "x" ⊹ label "2147483647" "y") []) (2 ∷ 3 ∷ []) 0 0 2
    ≡ negsuc 2147483647 ∷ pos 2147483647 ∷ [])
    × (keys_number_of (case_a (label "-2147483649" "x") []) (2 ∷ 3 ∷ []) 0 0 2 ≡ 7)
    × (keys_number_of (case_a (label "2147483648" "x") []) (2 ∷ 3 ∷ []) 0 0 2 ≡ 7)
unfolding cases labels_words labels_model
limits = (refl, refl, refl)

-- 25: labels on two dimensions, by one map and by two; the names of such maps are told
abbrev one_map : List ℕ
one_map = doc (brain_a "2" ⊹ map "0,1" "LABELS" (tabled (label "5" "x")))

abbrev two_maps : List ℕ
two_maps = doc (map "0" "LABELS" (tabled (label "5" "x")) ⊹ brain_a "2" ⊹ map "1" "LABELS" (tabled []))

pub two_dimensions : (number_of one_map (1 ∷ 1 ∷ 3 ∷ []) three three ≡ 25) × (keys_number_of one_map (1 ∷ 1 ∷ 3 ∷ []) 0 0 1 ≡ 25)
    × (name_number_of one_map (1 ∷ 1 ∷ 3 ∷ []) 0 0 ≡ 0)
unfolding cases labels_words labels_model
two_dimensions = (refl, refl, refl)

pub two_maps_lem : (number_of two_maps (1 ∷ 1 ∷ 3 ∷ []) three three ≡ 25) × (label_number_of two_maps (1 ∷ 1 ∷ 3 ∷ []) 0 0 (pos 5) ≡ 25)
    × (name_number_of two_maps (1 ∷ 1 ∷ 3 ∷ []) 0 0 ≡ 0)
unfolding cases labels_words labels_model
two_maps_lem = (refl, refl, refl)
