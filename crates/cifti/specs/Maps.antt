-- WHAT A HEADER SAYS: the maps of a document, in text order, with their numbers read. It means something for documents that pass
-- conditions 4 to 7.
use Rattle.std.specs.Prelude.{List, [], ◌∷◌, Bool, true, ◌&&◌, ◌||◌, cond, ◌≡◌, refl, ℕ, ◌+◌, ◌%◌, eqb, leb, ltb, ℤ, length, get_or}
use Rattle.std.proofs.Common.{sym, ap, ◌∙◌, eqb-true}
use Prim.Native.String.{String}
use Rattle.lists.specs.Lists.{those, total, each, each_in}
use Rattle.grammar.specs.Bytes.{ascii}
use Rattle.grammar.specs.Document.{Element}
use Rattle.grammar.specs.Look.{Word, is, attr, has, children, text_of}
use Rattle.numbers.specs.Numbers.{value, values, comma_values, exponent_value, decimal_value}
use Rattle.numbers.specs.declared.Decimal.{Decimal}
use Rattle.records.specs.Record.{Location, on_surface, in_volume}
use Rattle.schema.specs.Schema.{Case, ◌⇒◌}
use Rattle.cifti.specs.LabelTable.{table_keys}
use Rattle.cifti.specs.Rows.{ElementKind, text_leaf, brain_models, series, scalars, labels}
use Rattle.cifti.specs.Words.{structures, units, number_in}
use Rattle.cifti.specs.declared.answer.Kind.{Kind}
use Rattle.cifti.specs.declared.answer.Kind.TheVariants.{None, Brain, Series, Scalars, Labels}

-- Three numbers: a voxel, or the sizes of a volume.
pub record Voxel : Type 0 where
  pub i : ℕ
  pub j : ℕ
  pub k : ℕ

abbrev pub voxel : (i j k : ℕ) → Voxel
voxel i j k = record { i = i; j = j; k = k }

-- What a model lists: the numbers of vertices on a surface of so many, or those of voxels, one after the other.
pub data Listed : Type 0 where
  vertices : (surface : ℕ) → List ℕ → Listed
  voxels : List ℕ → Listed

pub record Model : Type 0 where
  pub structure : ℕ
  pub offset : ℕ
  pub count : ℕ
  pub listed : Listed

pub record SeriesValues : Type 0 where
  pub points : ℕ
  pub start : Decimal
  pub step : Decimal
  pub exponent : ℤ
  pub unit : ℕ

-- A map is what it holds. A map of another kind holds no models or tables, and its volume and series are of no meaning.
pub record Map : Type 0 where
  pub dimensions : List ℕ
  pub kind : Kind
  pub models : List Model
  pub volume : Voxel
  pub series : SeriesValues
  pub counted : ℕ
  -- the keys of each label table
  pub tables : List (List ℤ)

-- ---- THE KINDS: the words of IndicesMapToDataType, each beside the kind that it names. No other word names one.

unfoldable pub kind_words : List (Case Kind)
kind_words =
    "CIFTI_INDEX_TYPE_BRAIN_MODELS" ⇒ Brain
    ∷ "CIFTI_INDEX_TYPE_SERIES" ⇒ Series
    ∷ "CIFTI_INDEX_TYPE_SCALARS" ⇒ Scalars
    ∷ "CIFTI_INDEX_TYPE_LABELS" ⇒ Labels
    ∷ []

unfoldable pub kind_by_word : List (Case Kind) → Word → Kind
kind_by_word [] w = None
kind_by_word ((s ⇒ k) ∷ l) w = cond (is s w) k (kind_by_word l w)

unfoldable pub case_word : Case Kind → String
case_word (s ⇒ k) = s

unfoldable pub case_kind : Case Kind → Kind
case_kind (s ⇒ k) = k

unfoldable pub words_of_kinds : List String
words_of_kinds = each case_word kind_words

unfoldable pub all_kinds : List Kind
all_kinds = each case_kind kind_words

-- the kinds, numbered; 0: there is no such dimension
abbrev pub kind_number : Kind → ℕ
kind_number None = 0
kind_number Brain = 1
kind_number Series = 2
kind_number Scalars = 3
kind_number Labels = 4

-- the word of each kind on the card; no line is of kind None
abbrev pub kind_word : Kind → Word
kind_word None = []
kind_word Brain = ascii "brain"
kind_word Series = ascii "series"
kind_word Scalars = ascii "scalars"
kind_word Labels = ascii "labels"

-- the same, byte by byte, as the code has it
abbrev pub kind_bytes : Kind → Word
kind_bytes None = []
kind_bytes Brain = 98 ∷ 114 ∷ 97 ∷ 105 ∷ 110 ∷ []
kind_bytes Series = 115 ∷ 101 ∷ 114 ∷ 105 ∷ 101 ∷ 115 ∷ []
kind_bytes Scalars = 115 ∷ 99 ∷ 97 ∷ 108 ∷ 97 ∷ 114 ∷ 115 ∷ []
kind_bytes Labels = 108 ∷ 97 ∷ 98 ∷ 101 ∷ 108 ∷ 115 ∷ []

pub kind_bytes_lem : (k : Kind) → kind_bytes k ≡ kind_word k
kind_bytes_lem None = refl
kind_bytes_lem Brain = refl
kind_bytes_lem Series = refl
kind_bytes_lem Scalars = refl
kind_bytes_lem Labels = refl

-- the place of a kind's word in the table, from 0, by its number; None stands behind the last
abbrev pub place_of : (number : ℕ) → ℕ
place_of n = (n + 4) % 5

abbrev pub kind_place : Kind → ℕ
kind_place k = place_of (kind_number k)

-- the kind of element that a map of the kind is
unfoldable pub row_for : Kind → ElementKind
row_for None = text_leaf
row_for Brain = brain_models
row_for Series = series
row_for Scalars = scalars
row_for Labels = labels

-- the name of the children that make up the length of a map: a model adds its IndexCount, any other child 1. No element has the empty name.
abbrev pub counted_name : Kind → String
counted_name None = ""
counted_name Brain = "BrainModel"
counted_name Series = ""
counted_name Scalars = "NamedMap"
counted_name Labels = "NamedMap"

-- the same, byte by byte, as the code has it
abbrev pub counted_bytes : Kind → List ℕ
counted_bytes None = []
counted_bytes Brain = 66 ∷ 114 ∷ 97 ∷ 105 ∷ 110 ∷ 77 ∷ 111 ∷ 100 ∷ 101 ∷ 108 ∷ []
counted_bytes Series = []
counted_bytes Scalars = 78 ∷ 97 ∷ 109 ∷ 101 ∷ 100 ∷ 77 ∷ 97 ∷ 112 ∷ []
counted_bytes Labels = 78 ∷ 97 ∷ 109 ∷ 101 ∷ 100 ∷ 77 ∷ 97 ∷ 112 ∷ []

pub counted_bytes_lem : (k : Kind) → counted_bytes k ≡ ascii (counted_name k)
counted_bytes_lem None = refl
counted_bytes_lem Brain = refl
counted_bytes_lem Series = refl
counted_bytes_lem Scalars = refl
counted_bytes_lem Labels = refl

-- such a map holds models, and fills a stretch of the records
abbrev pub is_brain : Kind → Bool
is_brain k = eqb (kind_number k) 1

abbrev pub is_series : Kind → Bool
is_series k = eqb (kind_number k) 2

abbrev pub is_scalars : Kind → Bool
is_scalars k = eqb (kind_number k) 3

abbrev pub is_labels : Kind → Bool
is_labels k = eqb (kind_number k) 4

-- the maps of such a kind have names
abbrev pub has_names : Kind → Bool
has_names k = is_scalars k || is_labels k

-- no two kinds have one number
pub kind_placed : (k : Kind) → get_or all_kinds (kind_place k) None ≡ k
unfolding all_kinds each case_kind kind_words
kind_placed None = refl
kind_placed Brain = refl
kind_placed Series = refl
kind_placed Scalars = refl
kind_placed Labels = refl

pub same_kind : (j k : Kind) → eqb (kind_number j) (kind_number k) ≡ true → j ≡ k
same_kind j k h =
    let e : kind_number j ≡ kind_number k = eqb-true _ _ h in
    sym (kind_placed j) ∙ ap (λ n. get_or all_kinds (place_of n) None) e ∙ kind_placed k

-- ---- Read off the elements.

unfoldable pub listed_by : Element → Listed
listed_by e = cond (has "ModelType" "CIFTI_MODEL_TYPE_VOXELS" e)
    (voxels (each_in (λ d. values (text_of d)) (children "VoxelIndicesIJK" e)))
    (vertices (value (attr "SurfaceNumberOfVertices" e)) (each_in (λ d. values (text_of d)) (children "VertexIndices" e)))

unfoldable pub model_of : Element → Model
model_of e = record {
  structure = number_in structures (attr "BrainStructure" e);
  offset = value (attr "IndexOffset" e);
  count = value (attr "IndexCount" e);
  listed = listed_by e;
}

-- the sizes of the volume; of none where there is no Volume
unfoldable pub sizes_by : List ℕ → Voxel
sizes_by [] = voxel 0 0 0
sizes_by (i ∷ []) = voxel 0 0 0
sizes_by (i ∷ j ∷ []) = voxel 0 0 0
sizes_by (i ∷ j ∷ k ∷ l) = voxel i j k

unfoldable pub sizes_of : Element → Voxel
sizes_of e = sizes_by (each_in (λ v. comma_values (attr "VolumeDimensions" v)) (children "Volume" e))

unfoldable pub series_of : Element → SeriesValues
series_of e = record {
  points = value (attr "NumberOfSeriesPoints" e);
  start = decimal_value (attr "SeriesStart" e);
  step = decimal_value (attr "SeriesStep" e);
  exponent = exponent_value (attr "SeriesExponent" e);
  unit = number_in units (attr "SeriesUnit" e);
}

unfoldable pub kind_of_map : Element → Kind
kind_of_map e = kind_by_word kind_words (attr "IndicesMapToDataType" e)

unfoldable pub dimensions_of : Element → List ℕ
dimensions_of e = comma_values (attr "AppliesToMatrixDimension" e)

-- the LabelTables of a map, in order
unfoldable pub tables_in : Element → List Element
tables_in e = each_in (children "LabelTable") (children "NamedMap" e)

unfoldable pub map_of : Element → Map
map_of e = record {
  dimensions = dimensions_of e;
  kind = kind_of_map e;
  models = each model_of (children "BrainModel" e);
  volume = sizes_of e;
  series = series_of e;
  counted = length (children (counted_name (kind_of_map e)) e);
  tables = each table_keys (tables_in e);
}

-- every MatrixIndicesMap in a Matrix in the root
unfoldable pub map_elements : Element → List Element
map_elements e = each_in (children "MatrixIndicesMap") (children "Matrix" e)

unfoldable pub maps_of : Element → List Map
maps_of e = each map_of (map_elements e)

-- ---- Of a model.

unfoldable pub vertex_numbers : Listed → List ℕ
vertex_numbers (vertices n l) = l
vertex_numbers (voxels l) = []

-- numbers in threes, as many as there are
unfoldable pub threes : List ℕ → List Voxel
threes [] = []
threes (i ∷ []) = []
threes (i ∷ j ∷ []) = []
threes (i ∷ j ∷ k ∷ l) = voxel i j k ∷ threes l

unfoldable pub voxels_of : Listed → List Voxel
voxels_of (vertices n l) = []
voxels_of (voxels l) = threes l

unfoldable pub same_voxel : Voxel → Voxel → Bool
same_voxel v w = eqb v.i w.i && (eqb v.j w.j && eqb v.k w.k)

-- the locations of the model, in the order of its list
unfoldable pub voxel_at : ℕ → Voxel → Location
voxel_at s v = in_volume s v.i v.j v.k

unfoldable pub locations_by : ℕ → Listed → List Location
locations_by s (vertices n l) = each (on_surface s) l
locations_by s (voxels l) = each (voxel_at s) (threes l)

unfoldable pub locations : Model → List Location
locations m = locations_by m.structure m.listed

-- the index lies in the model's range
unfoldable pub covers : ℕ → Model → Bool
covers n m = leb m.offset n && ltb n (m.offset + m.count)

-- ---- Of a map.

-- sum of IndexCount, series points, or else the number of the children that the kind counts
unfoldable pub length_by : Kind → Map → ℕ
length_by k m = cond (is_brain k) (total (λ b. b.count) m.models) (cond (is_series k) m.series.points m.counted)

unfoldable pub length_of : Map → ℕ
length_of m = length_by m.kind m

unfoldable pub brain_maps : List Map → List Map
brain_maps l = those (λ m. is_brain m.kind) l

unfoldable pub labels_maps : List Map → List Map
labels_maps l = those (λ m. is_labels m.kind) l

unfoldable pub map_words : Unit {0}
unfolding kind_words kind_by_word case_word case_kind words_of_kinds all_kinds row_for listed_by model_of sizes_by sizes_of series_of kind_of_map
    dimensions_of tables_in map_of map_elements maps_of vertex_numbers threes voxels_of same_voxel voxel_at locations_by locations covers length_by
    length_of brain_maps labels_maps
map_words = tt
