-- THE ELEMENTS (000, 002): the table of document 01, a row for each kind of element.
use Rattle.std.specs.Prelude.{List, [], ◌∷◌, ◌++◌, ◌≡◌, refl, ℕ, get_or}
use Rattle.numbers.specs.Numbers.{whole, volume_dimensions, dimension_list, exponent, decimal, key, colour, wholes, sixteen}
use Rattle.schema.specs.Schema.{any_value, word, number, AttributeRow, required, any_text, numbers, once, at_most_once, any_times, at_least_once}
use Rattle.schema.specs.Schema.{needed_below, Case, ◌⇒◌, always, chosen, child, any_order, Row, branch, leaf}
use Rattle.cifti.specs.Words.{structures, units, most_length, most_voxel}

-- the kinds of elements; `text_leaf` are those with any text, and nothing else: Name, Value, MapName
pub data ElementKind : Type 0 where
  cifti matrix meta_data md text_leaf : ElementKind
  brain_models series scalars named_map : ElementKind
  volume transform surface voxels vertex_indices voxel_indices : ElementKind
  labels labelled_map label_table label : ElementKind

-- all of them, each at its number
unfoldable pub element_kinds : List ElementKind
element_kinds =
    cifti ∷ matrix ∷ meta_data ∷ md ∷ text_leaf
    ∷ brain_models ∷ series ∷ scalars ∷ named_map
    ∷ volume ∷ transform ∷ surface ∷ voxels ∷ vertex_indices ∷ voxel_indices
    ∷ labels ∷ labelled_map ∷ label_table ∷ label
    ∷ []

unfoldable pub element_number : ElementKind → ℕ
element_number cifti = 0
element_number matrix = 1
element_number meta_data = 2
element_number md = 3
element_number text_leaf = 4
element_number brain_models = 5
element_number series = 6
element_number scalars = 7
element_number named_map = 8
element_number volume = 9
element_number transform = 10
element_number surface = 11
element_number voxels = 12
element_number vertex_indices = 13
element_number voxel_indices = 14
element_number labels = 15
element_number labelled_map = 16
element_number label_table = 17
element_number label = 18

pub at_number : (k : ElementKind) → get_or element_kinds (element_number k) cifti ≡ k
unfolding element_kinds element_number
at_number cifti = refl
at_number matrix = refl
at_number meta_data = refl
at_number md = refl
at_number text_leaf = refl
at_number brain_models = refl
at_number series = refl
at_number scalars = refl
at_number named_map = refl
at_number volume = refl
at_number transform = refl
at_number surface = refl
at_number voxels = refl
at_number vertex_indices = refl
at_number voxel_indices = refl
at_number labels = refl
at_number labelled_map = refl
at_number label_table = refl
at_number label = refl

unfoldable pub map_kinds : List (Case ElementKind)
map_kinds =
    "CIFTI_INDEX_TYPE_BRAIN_MODELS" ⇒ brain_models
    ∷ "CIFTI_INDEX_TYPE_SERIES" ⇒ series
    ∷ "CIFTI_INDEX_TYPE_SCALARS" ⇒ scalars
    ∷ "CIFTI_INDEX_TYPE_LABELS" ⇒ labels
    ∷ []

unfoldable pub model_types : List (Case ElementKind)
model_types =
    "CIFTI_MODEL_TYPE_SURFACE" ⇒ surface
    ∷ "CIFTI_MODEL_TYPE_VOXELS" ⇒ voxels
    ∷ []

-- IndicesMapToDataType and ModelType may be any value here: they choose the row, and an element whose word chooses none has no kind, so
-- that 6 applies.
unfoldable pub map_attributes : List AttributeRow
map_attributes =
    required "AppliesToMatrixDimension" (number dimension_list)
    ∷ required "IndicesMapToDataType" any_value
    ∷ []

unfoldable pub series_attributes : List AttributeRow
series_attributes =
    required "NumberOfSeriesPoints" (number (whole 1 1048576))
    ∷ required "SeriesStart" (number decimal)
    ∷ required "SeriesStep" (number decimal)
    ∷ required "SeriesExponent" (number (exponent 30))
    ∷ required "SeriesUnit" (word units)
    ∷ []

unfoldable pub model_attributes : List AttributeRow
model_attributes =
    required "IndexOffset" (number (whole 0 1048576))
    ∷ required "IndexCount" (number (whole 1 1048576))
    ∷ required "ModelType" any_value
    ∷ required "BrainStructure" (word structures)
    ∷ []

unfoldable pub label_attributes : List AttributeRow
label_attributes =
    required "Key" (number key)
    ∷ required "Red" (number colour)
    ∷ required "Green" (number colour)
    ∷ required "Blue" (number colour)
    ∷ required "Alpha" (number colour)
    ∷ []

unfoldable pub rows : ElementKind → Row ElementKind
rows cifti = branch
    (required "Version" any_value ∷ []) any_order
    (child "Matrix" once (always matrix) ∷ [])
rows matrix = branch [] any_order
    (child "MetaData" at_most_once (always meta_data)
    ∷ child "MatrixIndicesMap" at_least_once (chosen "IndicesMapToDataType" map_kinds)
    ∷ [])
rows meta_data = branch [] any_order
    (child "MD" any_times (always md) ∷ [])
rows md = branch [] any_order
    (child "Name" once (always text_leaf) ∷ child "Value" once (always text_leaf) ∷ [])
rows text_leaf = leaf [] any_text
-- Volume is needed with any voxel model: such a model has a VoxelIndicesIJK, and nothing else has (`needed_with_voxels` of maps)
rows brain_models = branch map_attributes any_order
    (child "BrainModel" at_least_once (chosen "ModelType" model_types)
    ∷ child "Volume" (needed_below "VoxelIndicesIJK") (always volume)
    ∷ [])
rows series = branch (map_attributes ++ series_attributes) any_order []
rows scalars = branch map_attributes any_order
    (child "NamedMap" any_times (always named_map) ∷ [])
rows named_map = branch [] any_order
    (child "MapName" once (always text_leaf) ∷ child "MetaData" at_most_once (always meta_data) ∷ [])
rows volume = branch
    (required "VolumeDimensions" (number (volume_dimensions most_length most_length most_length)) ∷ []) any_order
    (child "TransformationMatrixVoxelIndicesIJKtoXYZ" once (always transform) ∷ [])
rows transform = leaf (required "MeterExponent" (number (exponent 30)) ∷ []) (numbers sixteen)
rows surface = branch
    (model_attributes ++ (required "SurfaceNumberOfVertices" (number (whole 1 1048576)) ∷ [])) any_order
    (child "VertexIndices" once (always vertex_indices) ∷ [])
rows voxels = branch model_attributes any_order
    (child "VoxelIndicesIJK" once (always voxel_indices) ∷ [])
rows vertex_indices = leaf [] (numbers (wholes 1048575))
rows voxel_indices = leaf [] (numbers (wholes most_voxel))
-- a NamedMap of labels has a LabelTable, one of scalars has none
rows labels = branch map_attributes any_order
    (child "NamedMap" any_times (always labelled_map) ∷ [])
rows labelled_map = branch [] any_order
    (child "MapName" once (always text_leaf)
    ∷ child "LabelTable" once (always label_table)
    ∷ child "MetaData" at_most_once (always meta_data)
    ∷ [])
rows label_table = branch [] any_order
    (child "Label" any_times (always label) ∷ [])
rows label = leaf label_attributes any_text

unfoldable pub row_table : Unit {0}
unfolding structures units map_kinds model_types map_attributes series_attributes model_attributes label_attributes rows
row_table = tt
