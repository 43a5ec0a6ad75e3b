-- WHAT A GOOD ELEMENT OF EACH KIND HOLDS: its numbers are in form, and its children are of the kinds that its row names.
use Rattle.std.specs.Prelude.{◌≡◌, refl, List, [], ◌∷◌, ◌++◌, Bool, true, false, cond, ◌+◌, length, Option, Some, None}
use Rattle.std.proofs.Common.{sym, ◌∙◌, subst, arith, eqb-true}
use Prim.Native.String.{String}
use Rattle.lists.specs.Lists.{all, any, count}
use Rattle.lists.proofs.Laws.Booleans.{never_some}
use Rattle.grammar.specs.Bytes.{ascii}
use Rattle.grammar.specs.Document.{Element}
use Rattle.grammar.specs.Look.{Word, is, name_of, attributes_of, contents_of, value_in, or_empty, attr, has, elements}
use Rattle.grammar.specs.Look.{text_of}
use Rattle.grammar.specs.Parser.{same_bytes}
use Rattle.grammar.proofs.Laws.Facts.{and_left, and_right}
use Rattle.numbers.specs.Numbers.{whole, volume_dimensions, exponent, decimal, wholes}
use Rattle.schema.specs.Schema.{any_value, word, number, AttributeRow, required, numbers, ChildRow, child}
use Rattle.schema.specs.Schema.{always, chosen, Case, branch, any_order, Times, once, kind_of, kind_by, kind_chosen}
use Rattle.schema.specs.Schema.{kind_among, numbered, attribute_numbered}
use Rattle.schema.specs.Schema.{is_text, child_shaped, stands_so, needed_below, at_least_once}
use Rattle.schema.specs.Schema.{at_most_once}
use Rattle.cifti.specs.Words.{structures, units, most_length, most_voxel}
use Rattle.cifti.specs.Rows.{ElementKind, cifti, matrix, meta_data, brain_models, series, volume, transform}
use Rattle.cifti.specs.Rows.{surface, voxels, vertex_indices, voxel_indices, map_kinds, model_types, map_attributes, series_attributes}
use Rattle.cifti.specs.Rows.{model_attributes, rows}
use Rattle.maps.proofs.Laws.Good.{GoodAs, good_as, AllGood, none_left, one_good, number_here, good_children}
use Rattle.maps.specs.Good.{Good}
use Rattle.maps.proofs.Laws.Good.{row_met}
use Rattle.maps.specs.Kinds.{GoodModel, surface_model, voxel_model_lem}
pub use Rattle.schema.proofs.Laws.Good.{no_row, in_form_lem, in_words, is_word_lem, not_both}

-- ---- The children's rows.

abbrev pub root_rows : List (ChildRow ElementKind)
root_rows = child "Matrix" once (always matrix) ∷ []

abbrev pub matrix_rows : List (ChildRow ElementKind)
matrix_rows = child "MetaData" at_most_once (always meta_data)
    ∷ child "MatrixIndicesMap" at_least_once (chosen "IndicesMapToDataType" map_kinds) ∷ []

abbrev pub brain_rows : List (ChildRow ElementKind)
brain_rows =
    child "BrainModel" at_least_once (chosen "ModelType" model_types)
    ∷ child "Volume" (needed_below "VoxelIndicesIJK") (always volume)
    ∷ []

-- ---- The kind of a MatrixIndicesMap, of a BrainModel.

pub has_value : (a s : String) (e : Element) (v : Word) → value_in a (attributes_of e) ≡ Some v → has a s e ≡ is s v
unfolding has attr or_empty
has_value a s e v p = rw p

chosen_none : (l : List (Case ElementKind)) → kind_chosen l None ≡ None
unfolding kind_chosen
chosen_none l = refl

chosen_model : (v : Word) → kind_chosen model_types (Some v)
    ≡ cond (is "CIFTI_MODEL_TYPE_SURFACE" v) (Some surface) (cond (is "CIFTI_MODEL_TYPE_VOXELS" v) (Some voxels) None)
unfolding kind_chosen kind_among model_types
chosen_model v = refl

-- names that are apart
meta_map : is "MetaData" (ascii "MatrixIndicesMap") ≡ false
unfolding is same_bytes
meta_map = refl

model_volume : is "BrainModel" (ascii "Volume") ≡ false
unfolding is same_bytes
model_volume = refl

-- the word that chooses the kind of a map
pub record MapWord (e : Element) (k : ElementKind) : Type 0 where
  pub word : Word
  pub said : value_in "IndicesMapToDataType" (attributes_of e) ≡ Some word
  pub chooses : kind_chosen map_kinds (Some word) ≡ Some k

pub map_word : (e : Element) {k : ElementKind} → kind_of matrix_rows e ≡ Some k → is "MatrixIndicesMap" (name_of e) ≡ true → MapWord e k
unfolding kind_of kind_by
map_word e {k} q n = go (value_in "IndicesMapToDataType" (attributes_of e)) refl
    (rw (not_both "MatrixIndicesMap" "MetaData" (name_of e) n meta_map, n) at q)
  where
    go : (o : Option Word) → value_in "IndicesMapToDataType" (attributes_of e) ≡ o → kind_chosen map_kinds o ≡ Some k → MapWord e k
    go None p r = never_some (rw chosen_none at r)
    go (Some v) p r = record { word = v; said = p; chooses = r }

surface_voxels : is "CIFTI_MODEL_TYPE_VOXELS" (ascii "CIFTI_MODEL_TYPE_SURFACE") ≡ false
unfolding is same_bytes
surface_voxels = refl

pub good_model : (e : Element) → GoodAs brain_rows e → is "BrainModel" (name_of e) ≡ true → GoodModel e
unfolding kind_of kind_by
good_model e (good_as {k} q g) n = go (value_in "ModelType" (attributes_of e)) refl at
  where
    at : kind_chosen model_types (value_in "ModelType" (attributes_of e)) ≡ Some k
    at = rw n at q

    pick : (v : Word) → value_in "ModelType" (attributes_of e) ≡ Some v → (a b : Bool) → is "CIFTI_MODEL_TYPE_SURFACE" v ≡ a
        → is "CIFTI_MODEL_TYPE_VOXELS" v ≡ b
        → cond a (Some surface) (cond b (Some voxels) None) ≡ Some k → GoodModel e
    pick v p true b x y r =
        let z : k ≡ surface = cc in
        surface_model (subst (λ (j : ElementKind). Good j e) z g)
        (has_value "ModelType" _ e v p ∙ not_both "CIFTI_MODEL_TYPE_SURFACE" "CIFTI_MODEL_TYPE_VOXELS" v x surface_voxels)
    pick v p false true x y r = let z : k ≡ voxels = cc in
        voxel_model_lem (subst (λ (j : ElementKind). Good j e) z g) (has_value "ModelType" _ e v p ∙ y)
    pick v p false false x y r = never_some r

    go : (o : Option Word) → value_in "ModelType" (attributes_of e) ≡ o → kind_chosen model_types o ≡ Some k → GoodModel e
    go None p r = never_some (rw chosen_none at r)
    go (Some v) p r = pick v p (is "CIFTI_MODEL_TYPE_SURFACE" v) (is "CIFTI_MODEL_TYPE_VOXELS" v) refl refl (rw chosen_model at r)

pub good_volume : (e : Element) → GoodAs brain_rows e → is "Volume" (name_of e) ≡ true → Good volume e
unfolding kind_of kind_by
good_volume e (good_as {k} q g) n =
    let at : Some volume ≡ Some k = rw (not_both "Volume" "BrainModel" (name_of e) n model_volume, n) at q in
    let z : k ≡ volume = cc in
    subst (λ (j : ElementKind). Good j e) z g

-- ---- Numbers in form.

abbrev surface_attributes : List AttributeRow
surface_attributes = model_attributes ++ (required "SurfaceNumberOfVertices" (number (whole 1 1048576)) ∷ [])

pub record ModelFacts (e : Element) : Type 0 where
  pub offset : whole 0 1048576 (attr "IndexOffset" e) ≡ true
  pub count : whole 1 1048576 (attr "IndexCount" e) ≡ true
  pub structure : any (λ s. is s (attr "BrainStructure" e)) structures ≡ true

abbrev vertex_rows : List (ChildRow ElementKind)
vertex_rows = child "VertexIndices" once (always vertex_indices) ∷ []

abbrev voxel_rows : List (ChildRow ElementKind)
voxel_rows = child "VoxelIndicesIJK" once (always voxel_indices) ∷ []

rows_surface : rows surface ≡ branch (model_attributes ++ (required "SurfaceNumberOfVertices" (number (whole 1 1048576)) ∷ [])) any_order
    vertex_rows
unfolding rows
rows_surface = refl

rows_voxels : rows voxels ≡ branch model_attributes any_order voxel_rows
unfolding rows
rows_voxels = refl

surface_facts : {e : Element} → Good surface e → ModelFacts e
unfolding model_attributes
surface_facts g = record {
  offset = in_form_lem g _ _ _ rows_surface 0 (omega arith) "IndexOffset" (whole 0 1048576) refl;
  count = in_form_lem g _ _ _ rows_surface 1 (omega arith) "IndexCount" (whole 1 1048576) refl;
  structure = in_words g _ _ _ rows_surface 3 (omega arith) "BrainStructure" structures refl;
}

voxel_facts : {e : Element} → Good voxels e → ModelFacts e
unfolding model_attributes
voxel_facts g = record {
  offset = in_form_lem g _ _ _ rows_voxels 0 (omega arith) "IndexOffset" (whole 0 1048576) refl;
  count = in_form_lem g _ _ _ rows_voxels 1 (omega arith) "IndexCount" (whole 1 1048576) refl;
  structure = in_words g _ _ _ rows_voxels 3 (omega arith) "BrainStructure" structures refl;
}

pub model_facts : {e : Element} → GoodModel e → ModelFacts e
model_facts (surface_model g h) = surface_facts g
model_facts (voxel_model_lem g h) = voxel_facts g

-- ---- A row that is the only one, and stands once: there is one child, and it is good.

pub record OnlyChild (s : String) (k : ElementKind) (l : List Element) : Type 0 where
  pub one : Element
  pub alone : l ≡ one ∷ []
  pub name : is s (name_of one) ≡ true
  pub good : Good k one

one_kind : (s : String) (t : Times) (k : ElementKind) (e : Element) → GoodAs (child s t (always k) ∷ []) e → (is s (name_of e) ≡ true)
    × Good k e
unfolding kind_of kind_by
one_kind s t k e (good_as {k = j} q g) = go (is s (name_of e)) refl q
  where
    go : (b : Bool) → is s (name_of e) ≡ b → cond b (Some k) None ≡ Some j → (is s (name_of e) ≡ true) × Good k e
    go true p r = let z : j ≡ k = cc in (p, subst (λ (i : ElementKind). Good i e) z g)
    go false p r = never_some r

-- all are of the name: so many as there are
all_named : (s : String) (t : Times) (k : ElementKind) (l : List Element) → AllGood (child s t (always k) ∷ []) l
    → count (λ e. is s (name_of e)) l ≡ length l
unfolding count
all_named s t k [] none_left = refl
all_named s t k (e ∷ l) (one_good h m) = let (p, g) = one_kind s t k e h in rw (p, all_named s t k l m) (omega arith)

pub only_child : (s : String) (k : ElementKind) (l : List Element) → AllGood (child s once (always k) ∷ []) l
    → all (child_shaped l) (child s once (always k) ∷ []) ≡ true → OnlyChild s k l
unfolding all child_shaped stands_so
only_child s k l h m = go l h (let n = eqb-true (count (λ e. is s (name_of e)) l) 1 (and_left _ _ m) in sym (all_named s once k l h) ∙ n)
  where
    go : (l : List Element) → AllGood (child s once (always k) ∷ []) l → length l ≡ 1 → OnlyChild s k l
    go [] none_left n = absurd (omega arith)
    go (e ∷ []) (one_good h m) n = let (p, g) = one_kind s once k e h in record { one = e; alone = refl; name = p; good = g }
    go (e ∷ d ∷ l) m n = absurd (omega arith)

rows_cifti : rows cifti ≡ branch (required "Version" any_value ∷ []) any_order root_rows
unfolding rows
rows_cifti = refl

pub root_child : {e : Element} → Good cifti e → OnlyChild "Matrix" matrix (elements (contents_of e))
root_child g = only_child "Matrix" matrix _ (good_children g _ _ _ rows_cifti) (row_met g _ _ _ rows_cifti)

pub surface_child : {e : Element} → Good surface e → OnlyChild "VertexIndices" vertex_indices (elements (contents_of e))
surface_child g = only_child "VertexIndices" vertex_indices _ (good_children g _ _ _ rows_surface) (row_met g _ _ _ rows_surface)

pub voxels_child : {e : Element} → Good voxels e → OnlyChild "VoxelIndicesIJK" voxel_indices (elements (contents_of e))
voxels_child g = only_child "VoxelIndicesIJK" voxel_indices _ (good_children g _ _ _ rows_voxels) (row_met g _ _ _ rows_voxels)

pub vertex_list : {e : Element} → Good vertex_indices e → wholes 1048575 (text_of e) ≡ true
unfolding rows numbered is_text text_of
vertex_list {e} g = and_right (all (attribute_numbered (attributes_of e)) []) (is_text (numbers (wholes 1048575)) (text_of e)) (number_here g)

pub voxel_list : {e : Element} → Good voxel_indices e → wholes most_voxel (text_of e) ≡ true
unfolding rows numbered is_text text_of
voxel_list {e} g = and_right (all (attribute_numbered (attributes_of e)) []) (is_text (numbers (wholes most_voxel)) (text_of e)) (number_here g)

pub surface_size : {e : Element} → Good surface e → whole 1 1048576 (attr "SurfaceNumberOfVertices" e) ≡ true
unfolding model_attributes
surface_size g = in_form_lem g _ _ _ rows_surface 4 (omega arith) "SurfaceNumberOfVertices" (whole 1 1048576) refl

-- ---- Maps.

rows_matrix : rows matrix ≡ branch [] any_order matrix_rows
unfolding rows
rows_matrix = refl

pub matrix_children : {e : Element} → Good matrix e → AllGood matrix_rows (elements (contents_of e))
matrix_children g = good_children g _ _ _ rows_matrix

pub rows_brain : rows brain_models ≡ branch map_attributes any_order brain_rows
unfolding rows
rows_brain = refl

pub brain_children : {e : Element} → Good brain_models e → AllGood brain_rows (elements (contents_of e))
brain_children g = good_children g _ _ _ rows_brain

pub rows_series : rows series ≡ branch (map_attributes ++ series_attributes) any_order []
unfolding rows
rows_series = refl

rows_volume : rows volume ≡ branch (required "VolumeDimensions" (number (volume_dimensions most_length most_length most_length)) ∷ []) any_order
    (child "TransformationMatrixVoxelIndicesIJKtoXYZ" once (always transform) ∷ [])
unfolding rows
rows_volume = refl

pub volume_sizes : {e : Element} → Good volume e → volume_dimensions most_length most_length most_length (attr "VolumeDimensions" e) ≡ true
volume_sizes g = in_form_lem g _ _ _ rows_volume 0 (omega arith) "VolumeDimensions" (volume_dimensions most_length most_length most_length) refl

pub record SeriesFacts (e : Element) : Type 0 where
  pub points : whole 1 1048576 (attr "NumberOfSeriesPoints" e) ≡ true
  pub start : decimal (attr "SeriesStart" e) ≡ true
  pub step : decimal (attr "SeriesStep" e) ≡ true
  pub exponent_in_lem : exponent 30 (attr "SeriesExponent" e) ≡ true
  pub unit : any (λ s. is s (attr "SeriesUnit" e)) units ≡ true

pub series_facts : {e : Element} → Good series e → SeriesFacts e
unfolding map_attributes series_attributes
series_facts g = record {
  points = in_form_lem g _ _ _ rows_series 2 (omega arith) "NumberOfSeriesPoints" (whole 1 1048576) refl;
  start = in_form_lem g _ _ _ rows_series 3 (omega arith) "SeriesStart" decimal refl;
  step = in_form_lem g _ _ _ rows_series 4 (omega arith) "SeriesStep" decimal refl;
  exponent_in_lem = in_form_lem g _ _ _ rows_series 5 (omega arith) "SeriesExponent" (exponent 30) refl;
  unit = in_words g _ _ _ rows_series 6 (omega arith) "SeriesUnit" units refl;
}
