-- The one table, CIFTI's kinds and behind them GIFTI's, as numbers and letters, as the code lays them out; `Table` of schema says how such
-- a table is read, and `Laws/Agree` and `Laws/Arrays` that it is that of the papers.
use Rattle.std.specs.Prelude.{List, [], ◌∷◌, ◌++◌, ℕ, ◌+◌, length, drop}
use Prim.Native.String.{String}
use Rattle.lists.specs.Lists.{each, each_in}
use Rattle.grammar.specs.Bytes.{ascii}
use Rattle.cifti.specs.Words.{structures, units}
use Rattle.schema.specs.Letters.{lettered, lettering}

-- attributes from, up to; children from, up to; text; order
kinds : List ℕ
kinds =
    0 ∷ 1 ∷ 0 ∷ 1 ∷ 0 ∷ 0  -- cifti
    ∷ 1 ∷ 1 ∷ 1 ∷ 3 ∷ 0 ∷ 0  -- matrix
    ∷ 1 ∷ 1 ∷ 3 ∷ 4 ∷ 0 ∷ 0  -- meta_data
    ∷ 1 ∷ 1 ∷ 4 ∷ 6 ∷ 0 ∷ 0  -- md
    ∷ 1 ∷ 1 ∷ 6 ∷ 6 ∷ 1 ∷ 0  -- words
    ∷ 1 ∷ 3 ∷ 6 ∷ 8 ∷ 0 ∷ 0  -- brain_models
    ∷ 1 ∷ 8 ∷ 8 ∷ 8 ∷ 0 ∷ 0  -- series
    ∷ 1 ∷ 3 ∷ 8 ∷ 9 ∷ 0 ∷ 0  -- scalars
    ∷ 8 ∷ 8 ∷ 9 ∷ 11 ∷ 0 ∷ 0  -- named_map
    ∷ 8 ∷ 9 ∷ 11 ∷ 12 ∷ 0 ∷ 0  -- volume
    ∷ 9 ∷ 10 ∷ 12 ∷ 12 ∷ 10 ∷ 0  -- transform
    ∷ 10 ∷ 15 ∷ 12 ∷ 13 ∷ 0 ∷ 0  -- surface
    ∷ 10 ∷ 14 ∷ 13 ∷ 14 ∷ 0 ∷ 0  -- voxels
    ∷ 15 ∷ 15 ∷ 14 ∷ 14 ∷ 11 ∷ 0  -- vertex_indices
    ∷ 15 ∷ 15 ∷ 14 ∷ 14 ∷ 12 ∷ 0  -- voxel_indices
    ∷ 1 ∷ 3 ∷ 14 ∷ 15 ∷ 0 ∷ 0  -- labels
    ∷ 15 ∷ 15 ∷ 15 ∷ 18 ∷ 0 ∷ 0  -- labelled_map
    ∷ 15 ∷ 15 ∷ 18 ∷ 19 ∷ 0 ∷ 0  -- label_table
    ∷ 15 ∷ 20 ∷ 19 ∷ 19 ∷ 1 ∷ 0  -- label
    ∷ 20 ∷ 22 ∷ 19 ∷ 22 ∷ 0 ∷ 1  -- gifti
    ∷ 23 ∷ 32 ∷ 22 ∷ 24 ∷ 0 ∷ 0  -- plain_array
    ∷ 22 ∷ 31 ∷ 24 ∷ 26 ∷ 0 ∷ 0  -- coded_array
    ∷ 23 ∷ 32 ∷ 26 ∷ 28 ∷ 0 ∷ 0  -- other_array
    ∷ 32 ∷ 32 ∷ 28 ∷ 28 ∷ 19 ∷ 0  -- plain_data
    ∷ 32 ∷ 32 ∷ 28 ∷ 28 ∷ 20 ∷ 0  -- coded_data
    ∷ 32 ∷ 32 ∷ 28 ∷ 28 ∷ 1 ∷ 0  -- other_data
    ∷ []

-- word; form; whether it may be left out
attributes : List ℕ
attributes =
    0 ∷ 0 ∷ 0  -- Version
    ∷ 1 ∷ 1 ∷ 0  -- AppliesToMatrixDimension
    ∷ 2 ∷ 0 ∷ 0  -- IndicesMapToDataType
    ∷ 3 ∷ 3 ∷ 0  -- NumberOfSeriesPoints
    ∷ 4 ∷ 4 ∷ 0  -- SeriesStart
    ∷ 5 ∷ 4 ∷ 0  -- SeriesStep
    ∷ 6 ∷ 5 ∷ 0  -- SeriesExponent
    ∷ 7 ∷ 7 ∷ 0  -- SeriesUnit
    ∷ 13 ∷ 6 ∷ 0  -- VolumeDimensions
    ∷ 14 ∷ 5 ∷ 0  -- MeterExponent
    ∷ 8 ∷ 2 ∷ 0  -- IndexOffset
    ∷ 9 ∷ 3 ∷ 0  -- IndexCount
    ∷ 10 ∷ 0 ∷ 0  -- ModelType
    ∷ 11 ∷ 8 ∷ 0  -- BrainStructure
    ∷ 12 ∷ 3 ∷ 0  -- SurfaceNumberOfVertices
    ∷ 34 ∷ 13 ∷ 0  -- Key
    ∷ 35 ∷ 14 ∷ 0  -- Red
    ∷ 36 ∷ 14 ∷ 0  -- Green
    ∷ 37 ∷ 14 ∷ 0  -- Blue
    ∷ 38 ∷ 14 ∷ 0  -- Alpha
    ∷ 0 ∷ 0 ∷ 0  -- Version
    ∷ 78 ∷ 15 ∷ 0  -- NumberOfDataArrays
    ∷ 87 ∷ 20 ∷ 0  -- Endian, of Base64Binary
    ∷ 79 ∷ 16 ∷ 0  -- ArrayIndexingOrder
    ∷ 80 ∷ 0 ∷ 0  -- DataType
    ∷ 81 ∷ 0 ∷ 0  -- Intent
    ∷ 82 ∷ 0 ∷ 0  -- Encoding
    ∷ 83 ∷ 17 ∷ 0  -- Dimensionality
    ∷ 84 ∷ 3 ∷ 0  -- Dim0
    ∷ 85 ∷ 0 ∷ 1  -- ExternalFileName
    ∷ 86 ∷ 0 ∷ 1  -- ExternalFileOffset
    ∷ 87 ∷ 20 ∷ 1  -- Endian, of others
    ∷ []

-- word; times; choice; kind
children : List ℕ
children =
    15 ∷ 0 ∷ 0 ∷ 1  -- Matrix
    ∷ 16 ∷ 1 ∷ 0 ∷ 2  -- MetaData
    ∷ 17 ∷ 3 ∷ 1 ∷ 0  -- MatrixIndicesMap
    ∷ 18 ∷ 2 ∷ 0 ∷ 3  -- MD
    ∷ 19 ∷ 0 ∷ 0 ∷ 4  -- Name
    ∷ 20 ∷ 0 ∷ 0 ∷ 4  -- Value
    ∷ 21 ∷ 3 ∷ 2 ∷ 0  -- BrainModel
    ∷ 22 ∷ 4 ∷ 0 ∷ 9  -- Volume
    ∷ 23 ∷ 2 ∷ 0 ∷ 8  -- NamedMap
    ∷ 24 ∷ 0 ∷ 0 ∷ 4  -- MapName
    ∷ 16 ∷ 1 ∷ 0 ∷ 2  -- MetaData
    ∷ 25 ∷ 0 ∷ 0 ∷ 10  -- TransformationMatrixVoxelIndicesIJKtoXYZ
    ∷ 26 ∷ 0 ∷ 0 ∷ 13  -- VertexIndices
    ∷ 27 ∷ 0 ∷ 0 ∷ 14  -- VoxelIndicesIJK
    ∷ 23 ∷ 2 ∷ 0 ∷ 16  -- NamedMap, of labels
    ∷ 24 ∷ 0 ∷ 0 ∷ 4  -- MapName
    ∷ 39 ∷ 0 ∷ 0 ∷ 17  -- LabelTable
    ∷ 16 ∷ 1 ∷ 0 ∷ 2  -- MetaData
    ∷ 40 ∷ 2 ∷ 0 ∷ 18  -- Label
    ∷ 16 ∷ 1 ∷ 0 ∷ 2  -- MetaData
    ∷ 39 ∷ 0 ∷ 0 ∷ 17  -- LabelTable
    ∷ 88 ∷ 3 ∷ 3 ∷ 0  -- DataArray
    ∷ 16 ∷ 1 ∷ 0 ∷ 2  -- MetaData
    ∷ 89 ∷ 0 ∷ 0 ∷ 23  -- Data, of ASCII
    ∷ 16 ∷ 1 ∷ 0 ∷ 2  -- MetaData
    ∷ 89 ∷ 0 ∷ 0 ∷ 24  -- Data, of Base64Binary
    ∷ 16 ∷ 1 ∷ 0 ∷ 2  -- MetaData
    ∷ 89 ∷ 0 ∷ 0 ∷ 25  -- Data, of another encoding
    ∷ []

-- word of the attribute; cases from, up to; else
choices : List ℕ
choices =
    2 ∷ 0 ∷ 4 ∷ 0  -- the kind of a map
    ∷ 10 ∷ 4 ∷ 6 ∷ 0  -- the kind of a model
    ∷ 82 ∷ 6 ∷ 8 ∷ 23  -- the kind of an array
    ∷ []

-- word; kind
cases : List ℕ
cases =
    28 ∷ 5  -- brain_models
    ∷ 29 ∷ 6  -- series
    ∷ 30 ∷ 7  -- scalars
    ∷ 31 ∷ 15  -- labels
    ∷ 32 ∷ 11  -- surface
    ∷ 33 ∷ 12  -- voxels
    ∷ 90 ∷ 20  -- plain_array
    ∷ 91 ∷ 21  -- coded_array
    ∷ []

-- what it is; limits, or of words from, up to, and their front part and 1
forms : List ℕ
forms =
    0 ∷ 0 ∷ 0 ∷ 0  -- any value, any text
    ∷ 2 ∷ 0 ∷ 0 ∷ 0  -- a dimension list
    ∷ 3 ∷ 0 ∷ 1048576 ∷ 0  -- a whole number
    ∷ 3 ∷ 1 ∷ 1048576 ∷ 0  -- a whole number above 0
    ∷ 4 ∷ 0 ∷ 0 ∷ 0  -- a decimal
    ∷ 5 ∷ 30 ∷ 0 ∷ 0  -- an exponent
    ∷ 6 ∷ 65536 ∷ 65536 ∷ 65536  -- the sizes of a volume
    ∷ 1 ∷ 41 ∷ 45 ∷ 0  -- a unit
    ∷ 1 ∷ 46 ∷ 78 ∷ 46  -- a structure, behind word 45
    ∷ 1 ∷ 0 ∷ 0 ∷ 0  -- text: the sixteen
    ∷ 2 ∷ 1048575 ∷ 0 ∷ 0  -- text: vertices
    ∷ 2 ∷ 65535 ∷ 0 ∷ 0  -- text: voxels
    ∷ 1 ∷ 28 ∷ 32 ∷ 0  -- a kind of map
    ∷ 7 ∷ 0 ∷ 0 ∷ 0  -- a key
    ∷ 8 ∷ 0 ∷ 0 ∷ 0  -- a colour
    ∷ 3 ∷ 0 ∷ 9999999 ∷ 0  -- a whole number of any value
    ∷ 1 ∷ 92 ∷ 94 ∷ 0  -- an order of indices
    ∷ 3 ∷ 1 ∷ 1 ∷ 0  -- the number 1
    ∷ 3 ∷ 0 ∷ 0 ∷ 0  -- text: keys
    ∷ 4 ∷ 0 ∷ 0 ∷ 0  -- text: Base64
    ∷ 1 ∷ 94 ∷ 96 ∷ 0  -- an order of bytes
    ∷ []

-- what stands in front of every name of a structure, and the rest of each name
front : String
front = "CIFTI_STRUCTURE_"

rests : List String
unfolding front structures each lettering
rests = each (λ s. lettered (drop (length (ascii front)) (ascii s))) structures

-- GIFTI's words
gifti_words : List String
gifti_words =
    "NumberOfDataArrays" ∷ "ArrayIndexingOrder" ∷ "DataType" ∷ "Intent" ∷ "Encoding" ∷ "Dimensionality" ∷ "Dim0"  -- 78
    ∷ "ExternalFileName" ∷ "ExternalFileOffset" ∷ "Endian" ∷ "DataArray" ∷ "Data" ∷ "ASCII" ∷ "Base64Binary"  -- 85
    ∷ "RowMajorOrder" ∷ "ColumnMajorOrder" ∷ "BigEndian" ∷ "LittleEndian"  -- 92
    ∷ []

-- the words, from 0
vocabulary : List String
unfolding front rests units gifti_words
vocabulary =
    "Version" ∷ "AppliesToMatrixDimension" ∷ "IndicesMapToDataType" ∷ "NumberOfSeriesPoints"  -- 0
    ∷ "SeriesStart" ∷ "SeriesStep" ∷ "SeriesExponent" ∷ "SeriesUnit" ∷ "IndexOffset" ∷ "IndexCount"  -- 4
    ∷ "ModelType" ∷ "BrainStructure" ∷ "SurfaceNumberOfVertices" ∷ "VolumeDimensions" ∷ "MeterExponent"  -- 10
    ∷ "Matrix" ∷ "MetaData" ∷ "MatrixIndicesMap" ∷ "MD" ∷ "Name" ∷ "Value" ∷ "BrainModel" ∷ "Volume"  -- 15
    ∷ "NamedMap" ∷ "MapName" ∷ "TransformationMatrixVoxelIndicesIJKtoXYZ" ∷ "VertexIndices"  -- 23
    ∷ "VoxelIndicesIJK" ∷ "CIFTI_INDEX_TYPE_BRAIN_MODELS" ∷ "CIFTI_INDEX_TYPE_SERIES"  -- 27
    ∷ "CIFTI_INDEX_TYPE_SCALARS" ∷ "CIFTI_INDEX_TYPE_LABELS" ∷ "CIFTI_MODEL_TYPE_SURFACE" ∷ "CIFTI_MODEL_TYPE_VOXELS"  -- 30
    ∷ "Key" ∷ "Red" ∷ "Green" ∷ "Blue" ∷ "Alpha" ∷ "LabelTable" ∷ "Label"  -- 34
    ∷ (units ++ (front ∷ (rests ++ gifti_words)))  -- 41, 45, 46, 78

unfoldable pub letters : List ℕ
unfolding vocabulary each_in
letters = each_in ascii vocabulary

-- where each word begins in the letters, and where the last ends
starts_from : ℕ → List String → List ℕ
starts_from n [] = n ∷ []
starts_from n (s ∷ l) = n ∷ starts_from (n + length (ascii s)) l

-- where each part begins
parts_from : ℕ → List (List ℕ) → List ℕ
parts_from n [] = []
parts_from n (p ∷ l) = n ∷ parts_from (n + length p) l

parts : List (List ℕ)
unfolding kinds attributes children choices cases forms vocabulary starts_from
parts = kinds ∷ attributes ∷ children ∷ choices ∷ cases ∷ starts_from 0 vocabulary ∷ forms ∷ []

-- the watched word is VoxelIndicesIJK
unfoldable pub table : List ℕ
unfolding parts parts_from each_in
table = parts_from 8 parts ++ (27 ∷ each_in (λ p. p) parts)
