-- Pieces of which texts are made, and what a list of texts gets.
use Rattle.std.specs.Prelude.{List, [], ◌∷◌, Bool, ℕ, eqb}
use Prim.Native.String.{String}
use Rattle.lists.specs.Lists.{all}
use Rattle.grammar.specs.Bytes.{◌⊹◌, ascii}
use Rattle.cifti.proofs.Laws.Theorems.{number_of}
use Rattle.cifti.proofs.Tests.Cases.{three, two}

-- ---- The pieces of a text.

abbrev pub root : (version : String) → List ℕ → List ℕ
root v m = ascii "<CIFTI Version='" ⊹ ascii v ⊹ ascii "'>" ⊹ m ⊹ ascii "</CIFTI>"

abbrev pub doc : List ℕ → List ℕ
doc m = root "2" (ascii "<Matrix>" ⊹ m ⊹ ascii "</Matrix>")

abbrev pub map : (dimensions kind : String) → List ℕ → List ℕ
map d k c = ascii "<MatrixIndicesMap AppliesToMatrixDimension='" ⊹ ascii d ⊹ ascii "' IndicesMapToDataType='CIFTI_INDEX_TYPE_" ⊹ ascii k
    ⊹ ascii "'>" ⊹ c ⊹ ascii "</MatrixIndicesMap>"

abbrev pub series : (dimensions points start step exponent unit : String) → List ℕ
series d n a b x u =
    ascii "<MatrixIndicesMap IndicesMapToDataType='CIFTI_INDEX_TYPE_SERIES' AppliesToMatrixDimension='" ⊹ ascii d
    ⊹ ascii "' NumberOfSeriesPoints='" ⊹ ascii n ⊹ ascii "' SeriesStart='" ⊹ ascii a
    ⊹ ascii "' SeriesStep='" ⊹ ascii b ⊹ ascii "' SeriesExponent='" ⊹ ascii x ⊹ ascii "' SeriesUnit='" ⊹ ascii u ⊹ ascii "'/>"

abbrev pub named : String → List ℕ
named w = ascii "<NamedMap><MapName>" ⊹ ascii w ⊹ ascii "</MapName></NamedMap>"

abbrev pub surface : (offset count structure vertices list : String) → List ℕ
surface o n s v l =
    ascii "<BrainModel ModelType='CIFTI_MODEL_TYPE_SURFACE' IndexOffset='" ⊹ ascii o ⊹ ascii "' IndexCount='" ⊹ ascii n
    ⊹ ascii "' BrainStructure='CIFTI_STRUCTURE_" ⊹ ascii s
    ⊹ ascii "' SurfaceNumberOfVertices='" ⊹ ascii v ⊹ ascii "'><VertexIndices>" ⊹ ascii l ⊹ ascii "</VertexIndices></BrainModel>"

abbrev pub voxels : (offset count structure list : String) → List ℕ
voxels o n s l =
    ascii "<BrainModel ModelType='CIFTI_MODEL_TYPE_VOXELS' IndexOffset='" ⊹ ascii o ⊹ ascii "' IndexCount='" ⊹ ascii n
    ⊹ ascii "' BrainStructure='CIFTI_STRUCTURE_" ⊹ ascii s
    ⊹ ascii "'><VoxelIndicesIJK>" ⊹ ascii l ⊹ ascii "</VoxelIndicesIJK></BrainModel>"

abbrev pub volume_of : (sizes exponent sixteen : String) → List ℕ
volume_of s x t =
    ascii "<Volume VolumeDimensions='" ⊹ ascii s ⊹ ascii "'><TransformationMatrixVoxelIndicesIJKtoXYZ MeterExponent='" ⊹ ascii x
    ⊹ ascii "'>" ⊹ ascii t
    ⊹ ascii "</TransformationMatrixVoxelIndicesIJKtoXYZ></Volume>"

abbrev pub volume : List ℕ
volume = volume_of "8,8,8" "-3" "1 0 0 0 0 1 0 0 0 0 1 0 0 0 0 1"

-- one name on dimension 0; a series of one point there; a surface of 5 vertices on dimension 1
abbrev pub name0 : List ℕ
name0 = map "0" "SCALARS" (named "a")

abbrev pub series0 : (start step exponent unit : String) → List ℕ
series0 a b x u = doc (series "0" "1" a b x u ⊹ map "1" "SCALARS" (named "a"))

abbrev pub brain1 : List ℕ → List ℕ
brain1 c = doc (name0 ⊹ map "1" "BRAIN_MODELS" c)

-- two brain maps, each of two indices; the first is right
abbrev pub brains : List ℕ → List ℕ
brains c = doc (map "0" "BRAIN_MODELS" (surface "0" "2" "CORTEX_LEFT" "5" "4 1") ⊹ map "1" "BRAIN_MODELS" c)

-- ---- Every text of a list gets the number, with these lengths and 3 places of records and work (4 and 2 for the brains).

abbrev pub gives : List ℕ → ℕ → List (List ℕ) → Bool
gives lengths n l = all (λ t. eqb (number_of t lengths three three) n) l

abbrev pub gives_brains : ℕ → List (List ℕ) → Bool
gives_brains n l = all (λ t. eqb (number_of t (2 ∷ 2 ∷ []) (9 ∷ three) two) n) l

-- names of two dimensions, and a brain map
abbrev pub names : List ℕ
names = doc (map "1,0" "SCALARS" (named "a&amp;<!-- -->b" ⊹ ascii "<NamedMap><MetaData/><MapName/></NamedMap>")
    ⊹ map "2" "BRAIN_MODELS" (surface "0" "1" "CORTEX" "5" "4"))
