-- DOCUMENTS WITH THEIR MODELS IN ANOTHER ORDER: their maps, the number of refusal, the answer and the table; map names and labels.
use Rattle.std.specs.Prelude.{◌≡◌, List, [], false, eqb, ℤ, length, Some}
use Rattle.std.proofs.Math.Path.{refl, ap}
use Rattle.std.proofs.Common.{◌∙◌}
use Prim.Native.Nat.{ℕ, zero, suc}
use Prim.Native.String.{String}
use Rattle.std.proofs.Math.ListN.{get_or}
use Rattle.lists.specs.Lists.{any, those, each, each_in, is_some, there}
use Rattle.lists.specs.Permuted.{Permuted}
use Rattle.lists.proofs.Laws.Permuted.{each_permuted, length_permuted, those_permuted}
use Rattle.lists.proofs.Laws.Refusals.{row_fails, rows_past}
use Rattle.grammar.specs.Document.{Element}
use Rattle.grammar.specs.Look.{is, name_of, contents_of, within_of, attr, has, children}
use Rattle.numbers.specs.Numbers.{comma_values}
use Rattle.cifti.specs.LabelTable.{table_keys, names_with}
use Rattle.cifti.specs.Maps.{model_of, sizes_by, sizes_of, series_of, kind_of_map, counted_name, dimensions_of, tables_in, map_of, map_elements}
use Rattle.cifti.specs.Maps.{maps_of}
use Rattle.cifti.specs.Conditions.{no_document, root_wrong, kind_not_read, ranges_wrong, of_maps, conditions_of_header, conditions_of_table}
use Rattle.cifti.specs.Conditions.{conditions_of_labels, conditions, refusal}
use Rattle.cifti.specs.Answer.{filled_with, maps_in, answer_by, records_by, answer_to, records_after}
use Rattle.cifti.specs.Names.{name_refusal, names_on, part_by, name_part}
use Rattle.cifti.specs.Labels.{labels_refusals, keys_short, keys_refusal, keys_by, keys_given, no_key}
use Rattle.cifti.specs.Labels.{label_refusal, tables_on, labels_on, label_by, label_part}
use Rattle.cifti.proofs.Laws.Smallest.{refusal_none}
use Rattle.order.specs.Resorted.{contents_changed, MapReordered, ModelsReordered}
use Rattle.order.proofs.Laws.Beside.{Beside, any_beside, those_beside, lists_beside, each_beside, each_in_beside}
use Rattle.order.proofs.Laws.Resorted.{name_same, attr_same, has_same, children_beside, elements_permuted, volumes_stay, names_stay}
use Rattle.order.proofs.Laws.Shape.{six, seven}
use Rattle.order.proofs.Laws.Twins.{Twin, eight, nine, ten, eleven, twelve, thirteen, fourteen, twenty_four, twenty_five}
use Rattle.order.proofs.Laws.Twins.{no_name_twins, no_table_twins, keys_twins, accepted_twins, stretches_twins}

-- ---- The maps, side by side.

map_elements_lem : {e f : Element} → ModelsReordered e f → Beside MapReordered (map_elements e) (map_elements f)
unfolding map_elements
map_elements_lem h = each_in_beside (children "MatrixIndicesMap") (λ e f r. children_beside "MatrixIndicesMap" r) (children_beside "Matrix" h)

module _ {e f : Element} (h : MapReordered e f) where
  dimensions_same : dimensions_of e ≡ dimensions_of f
  unfolding dimensions_of
  dimensions_same = ap comma_values (attr_same "AppliesToMatrixDimension" h)

  kind_of_same : kind_of_map e ≡ kind_of_map f
  unfolding kind_of_map
  kind_of_same = rw (attr_same "IndicesMapToDataType" h) refl

  sizes_same : sizes_of e ≡ sizes_of f
  unfolding sizes_of
  sizes_same = ap (λ l. sizes_by (each_in (λ v. comma_values (attr "VolumeDimensions" v)) l)) (volumes_stay h)

  series_same : series_of e ≡ series_of f
  unfolding series_of
  series_same = rw (
    attr_same "NumberOfSeriesPoints" h,
    attr_same "SeriesStart" h,
    attr_same "SeriesStep" h,
    attr_same "SeriesExponent" h,
    attr_same "SeriesUnit" h,
  ) refl

  tables_same : tables_in e ≡ tables_in f
  unfolding tables_in
  tables_same = ap (each_in (children "LabelTable")) (names_stay h)

children_permuted : (s : String) {e f : Element} → MapReordered e f → Permuted (children s e) (children s f)
unfolding children contents_of
children_permuted s (contents_changed r) = those_permuted (λ e. is s (name_of e)) (elements_permuted r)

map_twin : (e f : Element) → MapReordered e f → Twin (map_of e) (map_of f)
unfolding map_of
map_twin e f h = record {
  dimensions = dimensions_same h;
  kind = kind_of_same h;
  models = each_permuted model_of (children_permuted "BrainModel" h);
  volume = sizes_same h;
  series = series_same h;
  counted = rw (kind_of_same h) (length_permuted (children_permuted (counted_name (kind_of_map f)) h));
  tables = ap (each table_keys) (tables_same h);
}

pub maps_twins : {e f : Element} → ModelsReordered e f → Beside Twin (maps_of e) (maps_of f)
unfolding maps_of
maps_twins h = each_beside map_of map_twin (map_elements_lem h)

-- ---- THE SAME NUMBER, ANSWER AND TABLE.

four : {e f : Element} → ModelsReordered e f → root_wrong e ≡ root_wrong f
unfolding root_wrong
four h = rw (name_same h, has_same "Version" "2" h) refl

five : {e f : Element} → ModelsReordered e f → kind_not_read e ≡ kind_not_read f
unfolding kind_not_read
five h = any_beside (has "IndicesMapToDataType" "CIFTI_INDEX_TYPE_PARCELS")
    (λ e f r. has_same "IndicesMapToDataType" "CIFTI_INDEX_TYPE_PARCELS" r) (map_elements_lem h)

module _ {e f : Element} (h : ModelsReordered e f) where
  header_reordered : (lengths : List ℕ) (size : ℕ) → conditions_of_header lengths size (Some e) ≡ conditions_of_header lengths size (Some f)
  unfolding conditions_of_header no_document of_maps there is_some
  header_reordered lengths size =
      rw (four h, five h, six h, seven h, eight (maps_twins h) lengths, nine (maps_twins h) lengths) refl

  table_reordered : (room work : ℕ) → conditions_of_table room work (Some e) ≡ conditions_of_table room work (Some f)
  unfolding conditions_of_table of_maps there
  table_reordered room work =
      let t = maps_twins h in rw (ten t, eleven t, twelve t, thirteen t room work, fourteen t) refl

  labels_reordered : conditions_of_labels (Some e) ≡ conditions_of_labels (Some f)
  unfolding conditions_of_labels of_maps there
  labels_reordered = let t = maps_twins h in rw (twenty_four t, twenty_five t) refl

  pub refusal_reordered : (lengths : List ℕ) (size room work : ℕ)
      → refusal lengths size room work (Some e) ≡ refusal lengths size room work (Some f)
  unfolding refusal conditions
  refusal_reordered lengths size room work = rw (header_reordered lengths size, table_reordered room work, labels_reordered) refl

  answer_by_lem : (number : ℕ) → answer_by number (Some e) ≡ answer_by number (Some f)
  unfolding answer_by maps_in
  answer_by_lem zero = accepted_twins (maps_twins h)
  answer_by_lem (suc n) = refl

  pub answer_reordered : (lengths : List ℕ) (room work size : ℕ)
      → answer_to lengths room work size (Some e) ≡ answer_to lengths room work size (Some f)
  unfolding answer_to
  answer_reordered lengths room work size =
      rw (refusal_reordered lengths size room work) (answer_by_lem (refusal lengths size room work (Some f)))

  -- where nothing is refused, 11 is not: each index is in one range
  ranges_right : (lengths : List ℕ) (size room work : ℕ) → refusal lengths size room work (Some e) ≡ 0 → ranges_wrong (maps_of e) ≡ false
  unfolding conditions conditions_of_header conditions_of_table conditions_of_labels of_maps there
  ranges_right lengths size room work z = row_fails (rows_past 10 (refusal_none lengths size room work (Some e) z))

  records_by_lem : (lengths : List ℕ) (size room work n : ℕ) → refusal lengths size room work (Some e) ≡ n → (records : List ℕ)
      → records_by n (Some e) records ≡ records_by n (Some f) records
  unfolding records_by maps_in
  records_by_lem lengths size room work zero z records =
      ap (λ s. filled_with s records) (stretches_twins (maps_twins h) (ranges_right lengths size room work z))
  records_by_lem lengths size room work (suc n) z records = refl

  pub records_reordered : (lengths records : List ℕ) (work size : ℕ)
      → records_after lengths records work size (Some e) ≡ records_after lengths records work size (Some f)
  unfolding records_after
  records_reordered lengths records work size =
      records_by_lem lengths size (length records) work (refusal lengths size (length records) work (Some e)) refl records
      ∙ ap (λ n. records_by n (Some f) records) (refusal_reordered lengths size (length records) work)

  -- ---- Map names: 18, and the part.
  pub name_refusal_reordered : (lengths : List ℕ) (d i size : ℕ)
      → name_refusal lengths size d i (Some e) ≡ name_refusal lengths size d i (Some f)
  unfolding name_refusal of_maps there
  name_refusal_reordered lengths d i size = rw (header_reordered lengths size, no_name_twins (maps_twins h) d i) refl

  -- what is made of each map that the dimension has
  on_dimension : {B : Type 0} (made : Element → List B) → ((m n : Element) → MapReordered m n → made m ≡ made n) → (d : ℕ)
      → each_in made (those (λ m. any (eqb d) (dimensions_of m)) (map_elements e))
      ≡ each_in made (those (λ m. any (eqb d) (dimensions_of m)) (map_elements f))
  on_dimension made blind d = lists_beside made blind
      (those_beside (λ m. any (eqb d) (dimensions_of m)) (λ m n r. ap (any (eqb d)) (dimensions_same r)) (map_elements_lem h))

  part_by_lem : (number d i : ℕ) → part_by number d i (Some e) ≡ part_by number d i (Some f)
  unfolding part_by names_on
  part_by_lem zero d i = ap (λ l. get_or l i []) (on_dimension (λ m. each within_of (each_in (children "MapName") (children "NamedMap" m)))
      (λ m n r. ap (λ l. each within_of (each_in (children "MapName") l)) (names_stay r)) d)
  part_by_lem (suc n) d i = refl

  pub name_part_reordered : (lengths : List ℕ) (d i size : ℕ) → name_part lengths size d i (Some e) ≡ name_part lengths size d i (Some f)
  unfolding name_part
  name_part_reordered lengths d i size = rw (name_refusal_reordered lengths d i size) (part_by_lem (name_refusal lengths size d i (Some f)) d i)

  -- ---- Labels: 24, 25, 18 and then 17 or 19; the keys, and the part of a name.
  labels_before : (lengths : List ℕ) (d i size : ℕ) → labels_refusals lengths size d i (Some e) ≡ labels_refusals lengths size d i (Some f)
  unfolding labels_refusals of_maps there
  labels_before lengths d i size = rw (header_reordered lengths size, labels_reordered, no_table_twins (maps_twins h) d i) refl

  pub keys_refusal_reordered : (lengths : List ℕ) (d i room size : ℕ)
      → keys_refusal lengths size d i room (Some e) ≡ keys_refusal lengths size d i room (Some f)
  unfolding keys_refusal keys_short of_maps there
  keys_refusal_reordered lengths d i room size = rw (labels_before lengths d i size, keys_twins (maps_twins h) d i) refl

  keys_by_lem : (number d i : ℕ) → keys_by number d i (Some e) ≡ keys_by number d i (Some f)
  unfolding keys_by maps_in
  keys_by_lem zero d i = keys_twins (maps_twins h) d i
  keys_by_lem (suc n) d i = refl

  pub keys_given_reordered : (lengths : List ℕ) (d i room size : ℕ)
      → keys_given lengths size d i room (Some e) ≡ keys_given lengths size d i room (Some f)
  unfolding keys_given
  keys_given_reordered lengths d i room size =
      rw (keys_refusal_reordered lengths d i room size) (keys_by_lem (keys_refusal lengths size d i room (Some f)) d i)

  pub label_refusal_reordered : (lengths : List ℕ) (d i : ℕ) (key : ℤ) (size : ℕ)
      → label_refusal lengths size d i key (Some e) ≡ label_refusal lengths size d i key (Some f)
  unfolding label_refusal no_key of_maps there
  label_refusal_reordered lengths d i key size = rw (labels_before lengths d i size, keys_twins (maps_twins h) d i) refl

  label_by_lem : (number d i : ℕ) (key : ℤ) → label_by number d i key (Some e) ≡ label_by number d i key (Some f)
  unfolding label_by labels_on tables_on
  label_by_lem zero d i key = ap (λ l. get_or (get_or (each (names_with key) l) i []) 0 []) (on_dimension tables_in (λ m n r. tables_same r) d)
  label_by_lem (suc n) d i key = refl

  pub label_part_reordered : (lengths : List ℕ) (d i : ℕ) (key : ℤ) (size : ℕ)
      → label_part lengths size d i key (Some e) ≡ label_part lengths size d i key (Some f)
  unfolding label_part
  label_part_reordered lengths d i key size =
      rw (label_refusal_reordered lengths d i key size) (label_by_lem (label_refusal lengths size d i key (Some f)) d i key)
