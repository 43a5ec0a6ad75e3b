-- What the rules do not see: the bytes between the tags as written, and the size of a text that is not too long.
use Rattle.std.specs.Prelude.{◌≡◌, List, [], ◌∷◌, ◌++◌, Bool, false, not, ℤ, Option, Some}
use Rattle.std.proofs.Math.Path.{refl, ap}
use Rattle.std.proofs.Common.{sym, ap₂, ◌∙◌, le-ltb}
use Prim.Native.Nat.{ℕ, zero, suc, ◌≤◌}
use Prim.Native.String.{String}
use Rattle.std.proofs.Math.ListN.{length}
use Rattle.lists.specs.Lists.{any, each, each_in, is_some, there}
use Rattle.lists.proofs.Laws.Lists.{any_same, any_each, each_same, each_in_same, each_each, each_in_each, length_each}
use Rattle.grammar.specs.Document.{Element}
use Rattle.grammar.specs.Look.{attr, has, children, text_of}
use Rattle.grammar.proofs.Laws.Plain.{plain, name_erased, attr_erased, has_erased, text_erased, children_erased}
use Rattle.numbers.specs.Numbers.{values, comma_values}
use Rattle.schema.specs.Schema.{shaped, numbered}
use Rattle.schema.proofs.Laws.Erased.{walk_erased, shaped_erased, numbered_erased}
use Rattle.cifti.specs.LabelTable.{labels_of, label_key, table_keys}
use Rattle.cifti.specs.Rows.{cifti, rows}
use Rattle.cifti.specs.Maps.{Map, listed_by, model_of, sizes_by, sizes_of, series_of, kind_of_map, dimensions_of, counted_name, map_of}
use Rattle.cifti.specs.Maps.{tables_in, map_elements, maps_of}
use Rattle.cifti.specs.Conditions.{◌when◌, text_too_long, no_document, root_wrong, kind_not_read, shape_wrong, number_wrong, of_maps}
use Rattle.cifti.specs.Conditions.{conditions_of_header, conditions_of_table, conditions_of_labels, conditions, first, refusal}
use Rattle.cifti.specs.Names.{no_name, name_refusal}
use Rattle.cifti.specs.Answer.{answer_by, records_by, maps_in, answer_to, records_after}
use Rattle.cifti.specs.Labels.{labels_refusals, keys_short, keys_refusal, keys_by, keys_given, keys_count, overwritten}
use Rattle.cifti.specs.Labels.{keys_afterwards, no_key, label_refusal}
use Rattle.cifti.proofs.Laws.Text.{Unseeing}

-- ---- The maps.

lists_erased : (s : String) (e : Element)
    → each_in (λ d. values (text_of d)) (children s (plain e)) ≡ each_in (λ d. values (text_of d)) (children s e)
lists_erased s e = ap (each_in (λ d. values (text_of d))) (children_erased s e) ∙ each_in_each plain (λ d. values (text_of d)) (children s e)
    ∙ each_in_same (λ d. ap values (text_erased d)) (children s e)

listed_erased : (e : Element) → listed_by (plain e) ≡ listed_by e
unfolding listed_by
listed_erased e = rw (
  has_erased "ModelType" "CIFTI_MODEL_TYPE_VOXELS" e,
  lists_erased "VoxelIndicesIJK" e,
  attr_erased "SurfaceNumberOfVertices" e,
  lists_erased "VertexIndices" e,
) refl

model_erased : (e : Element) → model_of (plain e) ≡ model_of e
unfolding model_of
model_erased e = rw (attr_erased "BrainStructure" e, attr_erased "IndexOffset" e, attr_erased "IndexCount" e, listed_erased e) refl

models_erased : (e : Element) → each model_of (children "BrainModel" (plain e)) ≡ each model_of (children "BrainModel" e)
models_erased e = ap (each model_of) (children_erased "BrainModel" e) ∙ each_each plain model_of (children "BrainModel" e)
    ∙ each_same model_erased (children "BrainModel" e)

sizes_erased : (e : Element) → sizes_of (plain e) ≡ sizes_of e
unfolding sizes_of
sizes_erased e =
    ap (λ l. sizes_by (each_in (λ v. comma_values (attr "VolumeDimensions" v)) l)) (children_erased "Volume" e)
    ∙ ap sizes_by (each_in_each plain (λ v. comma_values (attr "VolumeDimensions" v)) (children "Volume" e)
    ∙ each_in_same (λ v. ap comma_values (attr_erased "VolumeDimensions" v)) (children "Volume" e))

series_erased : (e : Element) → series_of (plain e) ≡ series_of e
unfolding series_of
series_erased e = rw (
  attr_erased "NumberOfSeriesPoints" e,
  attr_erased "SeriesStart" e,
  attr_erased "SeriesStep" e,
  attr_erased "SeriesExponent" e,
  attr_erased "SeriesUnit" e,
) refl

counted_erased : (s : String) (e : Element) → length (children s (plain e)) ≡ length (children s e)
counted_erased s e = ap length (children_erased s e) ∙ length_each plain (children s e)

-- children of children
below_erased : (s t : String) (e : Element)
    → each_in (children t) (children s (plain e)) ≡ each plain (each_in (children t) (children s e))
unfolding each each_in
below_erased s t e = ap (each_in (children t)) (children_erased s e) ∙ go (children s e)
  where
    append : (k l : List Element) → each plain (k ++ l) ≡ each plain k ++ each plain l
    append [] l = refl
    append (a ∷ k) l = ap (λ m. plain a ∷ m) (append k l)

    go : (l : List Element) → each_in (children t) (each plain l) ≡ each plain (each_in (children t) l)
    go [] = refl
    go (a ∷ l) = ap₂ (λ k m. k ++ m) (children_erased t a) (go l) ∙ sym (append (children t a) (each_in (children t) l))

key_erased : (e : Element) → label_key (plain e) ≡ label_key e
unfolding label_key
key_erased e = rw (attr_erased "Key" e) refl

pub keys_erased : (e : Element) → table_keys (plain e) ≡ table_keys e
unfolding table_keys labels_of
keys_erased e = ap (each label_key) (children_erased "Label" e) ∙ each_each plain label_key (children "Label" e)
    ∙ each_same key_erased (children "Label" e)

tables_erased : (e : Element) → each table_keys (tables_in (plain e)) ≡ each table_keys (tables_in e)
unfolding tables_in
tables_erased e = ap (each table_keys) (below_erased "NamedMap" "LabelTable" e)
    ∙ each_each plain table_keys (each_in (children "LabelTable") (children "NamedMap" e))
    ∙ each_same keys_erased (each_in (children "LabelTable") (children "NamedMap" e))

map_erased : (e : Element) → map_of (plain e) ≡ map_of e
unfolding map_of dimensions_of kind_of_map
map_erased e =
    rw (
      attr_erased "AppliesToMatrixDimension" e,
      attr_erased "IndicesMapToDataType" e,
      models_erased e,
      sizes_erased e,
      series_erased e,
      counted_erased (counted_name (kind_of_map e)) e,
      tables_erased e,
    ) refl

elements_erased : (e : Element) → map_elements (plain e) ≡ each plain (map_elements e)
unfolding map_elements
elements_erased e = below_erased "Matrix" "MatrixIndicesMap" e

pub maps_erased : (e : Element) → maps_of (plain e) ≡ maps_of e
unfolding maps_of
maps_erased e = ap (each map_of) (elements_erased e) ∙ each_each plain map_of (map_elements e) ∙ each_same map_erased (map_elements e)

-- ---- The conditions.

root_erased : (e : Element) → root_wrong (plain e) ≡ root_wrong e
unfolding root_wrong
root_erased e = rw (name_erased e, has_erased "Version" "2" e) refl

kinds_erased : (e : Element) → kind_not_read (plain e) ≡ kind_not_read e
unfolding kind_not_read
kinds_erased e = ap (any old) (elements_erased e) ∙ any_each plain old (map_elements e)
    ∙ any_same (has_erased "IndicesMapToDataType" "CIFTI_INDEX_TYPE_PARCELS") (map_elements e)
  where
    old : Element → Bool
    old m = has "IndicesMapToDataType" "CIFTI_INDEX_TYPE_PARCELS" m

shape_erased : (e : Element) → shape_wrong (plain e) ≡ shape_wrong e
unfolding shape_wrong
shape_erased e = ap not (walk_erased rows shaped shaped_erased e cifti)

number_erased : (e : Element) → number_wrong (plain e) ≡ number_wrong e
unfolding number_wrong
number_erased e = ap not (walk_erased rows numbered numbered_erased e cifti)

of_maps_lem : (p : List Map → Bool) (e : Element) → of_maps p (Some (plain e)) ≡ of_maps p (Some e)
unfolding of_maps there
of_maps_lem p e = ap p (maps_erased e)

pub small : (n : ℕ) → n ≤ 16777216 → text_too_long n ≡ false
unfolding text_too_long
small n h = le-ltb 16777216 n h

header_erased : (lengths : List ℕ) (size : ℕ) (e : Element)
    → conditions_of_header lengths size (Some (plain e)) ≡ conditions_of_header lengths size (Some e)
unfolding conditions_of_header no_document of_maps there is_some
header_erased lengths size e = rw (root_erased e, kinds_erased e, shape_erased e, number_erased e, maps_erased e) refl

header_size : (lengths : List ℕ) (m n : ℕ) (d : Option Element) → m ≤ 16777216 → n ≤ 16777216
    → conditions_of_header lengths m d ≡ conditions_of_header lengths n d
unfolding conditions_of_header
header_size lengths m n d h k = rw (small m h, small n k) refl

table_erased : (room work : ℕ) (e : Element) → conditions_of_table room work (Some (plain e)) ≡ conditions_of_table room work (Some e)
unfolding conditions_of_table of_maps there
table_erased room work e = rw (maps_erased e) refl

labels_erased : (e : Element) → conditions_of_labels (Some (plain e)) ≡ conditions_of_labels (Some e)
unfolding conditions_of_labels of_maps there
labels_erased e = rw (maps_erased e) refl

-- ---- The terms that the promises are made of.

module _ (lengths : List ℕ) (room work : ℕ) where
  refusal_bytes_lem : (n : ℕ) (e : Element) → refusal lengths n room work (Some (plain e)) ≡ refusal lengths n room work (Some e)
  unfolding refusal conditions
  refusal_bytes_lem n e = rw (header_erased lengths n e, table_erased room work e, labels_erased e) refl

  refusal_size : (m n : ℕ) → m ≤ 16777216 → n ≤ 16777216 → (d : Option Element)
      → refusal lengths m room work d ≡ refusal lengths n room work d
  unfolding refusal conditions
  refusal_size m n h k d = ap (λ a. first (a ++ (conditions_of_table room work d ++ conditions_of_labels d))) (header_size lengths m n d h k)

answer_bytes_lem : (number : ℕ) (e : Element) → answer_by number (Some (plain e)) ≡ answer_by number (Some e)
unfolding answer_by maps_in
answer_bytes_lem zero e = rw (maps_erased e) refl
answer_bytes_lem (suc n) e = refl

records_bytes : (number : ℕ) (e : Element) (records : List ℕ)
    → records_by number (Some (plain e)) records ≡ records_by number (Some e) records
unfolding records_by maps_in
records_bytes zero e records = rw (maps_erased e) refl
records_bytes (suc n) e records = refl

pub answer_unseeing : (lengths : List ℕ) (room work : ℕ) → Unseeing (answer_to lengths room work)
unfolding answer_to
answer_unseeing lengths room work = record {
  bytes = λ n e. rw (refusal_bytes_lem lengths room work n e) (answer_bytes_lem (refusal lengths n room work (Some e)) e);
  size = λ m n h k e. ap (λ r. answer_by r (Some e)) (refusal_size lengths room work m n h k (Some e));
}

pub records_unseeing : (lengths records : List ℕ) (work : ℕ) → Unseeing (records_after lengths records work)
unfolding records_after
records_unseeing lengths records work = record {
  bytes = λ n e. rw (refusal_bytes_lem lengths (length records) work n e)
      (records_bytes (refusal lengths n (length records) work (Some e)) e records);
  size = λ m n h k e. ap (λ r. records_by r (Some e) records) (refusal_size lengths (length records) work m n h k (Some e));
}

-- a map name's number; its part is the caller's own bytes
pub name_unseeing : (lengths : List ℕ) (d i : ℕ) → Unseeing (λ size. name_refusal lengths size d i)
unfolding name_refusal of_maps there
name_unseeing lengths d i = record {
  bytes = λ n e. ap₂ (λ a l. first (a ++ (18 when no_name d i l ∷ []))) (header_erased lengths n e) (maps_erased e);
  size = λ m n h k e. ap (λ a. first (a ++ (18 when no_name d i (maps_of e) ∷ []))) (header_size lengths m n (Some e) h k);
}

-- ---- Labels: a name's part is the caller's own bytes; all else is told by the document.

module _ (lengths : List ℕ) (d i : ℕ) where
  before_bytes : (n : ℕ) (e : Element) → labels_refusals lengths n d i (Some (plain e)) ≡ labels_refusals lengths n d i (Some e)
  unfolding labels_refusals of_maps there
  before_bytes n e = rw (header_erased lengths n e, labels_erased e, maps_erased e) refl

  before_size : (m n : ℕ) → m ≤ 16777216 → n ≤ 16777216 → (e : Option Element)
      → labels_refusals lengths m d i e ≡ labels_refusals lengths n d i e
  unfolding labels_refusals
  before_size m n h k e = rw (header_size lengths m n e h k) refl

  pub keys_unseeing : (room : ℕ) → Unseeing (λ size. keys_refusal lengths size d i room)
  unfolding keys_refusal of_maps there
  keys_unseeing room = record {
    bytes = λ n e. rw (before_bytes n e, maps_erased e) refl;
    size = λ m n h k e. ap (λ a. first (a ++ (17 when keys_short d i room (maps_of e) ∷ []))) (before_size m n h k (Some e));
  }

  pub label_unseeing : (key : ℤ) → Unseeing (λ size. label_refusal lengths size d i key)
  unfolding label_refusal of_maps there
  label_unseeing key = record {
    bytes = λ n e. rw (before_bytes n e, maps_erased e) refl;
    size = λ m n h k e. ap (λ a. first (a ++ (19 when no_key d i key (maps_of e) ∷ []))) (before_size m n h k (Some e));
  }

  keys_bytes : (number : ℕ) (e : Element) → keys_by number d i (Some (plain e)) ≡ keys_by number d i (Some e)
  unfolding keys_by maps_in
  keys_bytes zero e = rw (maps_erased e) refl
  keys_bytes (suc n) e = refl

  pub given_unseeing : (room : ℕ) → Unseeing (λ size. keys_given lengths size d i room)
  unfolding keys_given
  given_unseeing room = record {
    bytes = λ n e. rw ((keys_unseeing room).bytes n e) (keys_bytes (keys_refusal lengths n d i room (Some e)) e);
    size = λ m n h k e. ap (λ r. keys_by r d i (Some e)) ((keys_unseeing room).size m n h k e);
  }

  pub count_unseeing : (room : ℕ) → Unseeing (λ size. keys_count lengths size d i room)
  unfolding keys_count
  count_unseeing room = record {
    bytes = λ n e. ap length ((given_unseeing room).bytes n e);
    size = λ m n h k e. ap length ((given_unseeing room).size m n h k e);
  }

  pub after_unseeing : (keys : List ℤ) → Unseeing (keys_afterwards lengths d i keys)
  unfolding keys_afterwards
  after_unseeing keys = record {
    bytes = λ n e. ap (λ l. overwritten l keys) ((given_unseeing (length keys)).bytes n e);
    size = λ m n h k e. ap (λ l. overwritten l keys) ((given_unseeing (length keys)).size m n h k e);
  }
