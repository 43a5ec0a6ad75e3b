-- THE NUMBERS OF REFUSAL, 1 to 14, 24 and 25, over the lengths, the size of the text, its document (or that there is none), and the room
-- lent.
use Rattle.std.specs.Prelude.{List, [], ◌∷◌, ◌++◌, Bool, true, false, ◌&&◌, ◌||◌, not, ℕ, ◌*◌, eqb, ltb, length, get_or, Option}
use Rattle.lists.specs.Lists.{any, count, two_of, total, greatest, each_in, all_below, is_some, there}
pub use Rattle.lists.specs.Refusals.{Refusal, ◌when◌}
unfoldable pub use Rattle.lists.specs.Refusals.{first}
use Rattle.grammar.specs.Bytes.{between}
use Rattle.grammar.specs.Document.{Element}
use Rattle.grammar.specs.Look.{is, name_of, has}
use Rattle.numbers.specs.Numbers.{same_key}
use Rattle.schema.specs.Schema.{everywhere, shaped, numbered}
use Rattle.cifti.specs.Rows.{cifti, rows}
use Rattle.cifti.specs.Maps.{Voxel, Listed, vertices, voxels, Model, Map, map_elements, maps_of, brain_maps, length_of, vertex_numbers}
use Rattle.cifti.specs.Maps.{voxels_of, same_voxel, covers, labels_maps}

-- 1: lengths are not 2 or 3, or one is 0 or above 1,048,576
unfoldable pub lengths_wrong : List ℕ → Bool
lengths_wrong l = not (between 2 3 (length l)) || any (λ n. eqb n 0 || ltb 1048576 n) l

-- 2: text above 16,777,216 bytes
unfoldable pub text_too_long : ℕ → Bool
text_too_long n = ltb 16777216 n

-- 3: no document writes this text
unfoldable pub no_document : Option Element → Bool
no_document d = not (is_some d)

-- 4: root is not CIFTI with Version `2`
unfoldable pub root_wrong : Element → Bool
root_wrong e = not (is "CIFTI" (name_of e) && has "Version" "2" e)

-- 5: a MatrixIndicesMap in a Matrix in the root is of kind PARCELS
unfoldable pub kind_not_read : Element → Bool
kind_not_read e = any (has "IndicesMapToDataType" "CIFTI_INDEX_TYPE_PARCELS") (map_elements e)

-- 6: an element, attribute, child, named word or non-blank text is not as above
unfoldable pub shape_wrong : Element → Bool
shape_wrong e = not (everywhere rows shaped cifti e)

-- 7: a number's form, limit or fixed value, or the sixteen, is not as above
unfoldable pub number_wrong : Element → Bool
number_wrong e = not (everywhere rows numbered cifti e)

-- 8: some dimension is not listed exactly once, or a listed one does not exist
unfoldable pub listed_dimensions : List Map → List ℕ
listed_dimensions l = each_in (λ m. m.dimensions) l

unfoldable pub dimensions_wrong : (lengths : List ℕ) → List Map → Bool
dimensions_wrong lengths l =
    not (all_below (length lengths) (λ d. eqb (count (eqb d) (listed_dimensions l)) 1))
    || any (λ d. not (ltb d (length lengths))) (listed_dimensions l)

-- 9: a map's length (sum of IndexCount, series points, NamedMaps) is not that of a dimension it applies to
unfoldable pub length_wrong : (lengths : List ℕ) → List Map → Bool
length_wrong lengths l = any (λ m. any (λ d. not (eqb (length_of m) (get_or lengths d 0))) m.dimensions) l

-- 10: two models of a map share type and structure
unfoldable pub same_type : Listed → Listed → Bool
same_type (vertices s l) (vertices t k) = true
same_type (vertices s l) (voxels k) = false
same_type (voxels l) (vertices t k) = false
same_type (voxels l) (voxels k) = true

unfoldable pub alike : Model → Model → Bool
alike a b = same_type a.listed b.listed && eqb a.structure b.structure

unfoldable pub models_share : List Map → Bool
models_share l = any (λ m. two_of alike m.models) l

-- 11: a model does not list IndexCount numbers (voxels: three times that), or some index of the map is in no model's range or in two
unfoldable pub lists_count : ℕ → Listed → Bool
lists_count n (vertices s l) = eqb (length l) n
lists_count n (voxels l) = eqb (length l) (3 * n)

unfoldable pub uneven : Map → Bool
uneven m =
    any (λ b. not (lists_count b.count b.listed)) m.models
    || not (all_below (length_of m) (λ n. eqb (count (covers n) m.models) 1))

unfoldable pub ranges_wrong : List Map → Bool
ranges_wrong l = any uneven (brain_maps l)

-- 12: a vertex or voxel is outside its surface or volume
unfoldable pub outside : (volume : Voxel) → Voxel → Bool
outside sizes v = not (ltb v.i sizes.i && (ltb v.j sizes.j && ltb v.k sizes.k))

unfoldable pub beyond : (volume : Voxel) → Listed → Bool
beyond volume (vertices n l) = any (λ v. not (ltb v n)) l
beyond volume (voxels l) = any (outside volume) (voxels_of (voxels l))

unfoldable pub numbers_outside : List Map → Bool
numbers_outside l = any (λ m. any (λ b. beyond m.volume b.listed) m.models) l

-- 13: records lent are fewer than all stretches, or work space than the longest
unfoldable pub room_short : (room work : ℕ) → List Map → Bool
room_short room work l = ltb room (total length_of (brain_maps l)) || ltb work (greatest length_of (brain_maps l))

-- 14: a vertex twice in a model, or a voxel twice in a map, whichever structures name it
unfoldable pub repeats : List Model → Bool
repeats l =
    any (λ b. two_of eqb (vertex_numbers b.listed)) l
    || two_of same_voxel (each_in (λ b. voxels_of b.listed) l)

unfoldable pub location_twice : List Map → Bool
location_twice l = any (λ m. repeats m.models) l

-- 24: a key twice in one table of a labels map
unfoldable pub key_twice : List Map → Bool
key_twice l = any (λ m. any (two_of same_key) m.tables) (labels_maps l)

-- 25: the labels maps together list more than one dimension
unfoldable pub labels_twice : List Map → Bool
labels_twice l = ltb 1 (length (listed_dimensions (labels_maps l)))

-- ---- THE ORDER OF REFUSALS: rows of a number and whether its condition applies. Where there is no document, the conditions on one do
-- not arise.

unfoldable pub of_maps : (List Map → Bool) → Option Element → Bool
of_maps p d = there (λ e. p (maps_of e)) d

-- 1 to 9, which map names and labels check too
unfoldable pub conditions_of_header : (lengths : List ℕ) (size : ℕ) → Option Element → List Refusal
conditions_of_header lengths size d =
    1 when lengths_wrong lengths
    ∷ 2 when text_too_long size
    ∷ 3 when no_document d
    ∷ 4 when there root_wrong d
    ∷ 5 when there kind_not_read d
    ∷ 6 when there shape_wrong d
    ∷ 7 when there number_wrong d
    ∷ 8 when of_maps (dimensions_wrong lengths) d
    ∷ 9 when of_maps (length_wrong lengths) d
    ∷ []

unfoldable pub conditions_of_table : (room work : ℕ) → Option Element → List Refusal
conditions_of_table room work d =
    10 when of_maps models_share d
    ∷ 11 when of_maps ranges_wrong d
    ∷ 12 when of_maps numbers_outside d
    ∷ 13 when of_maps (room_short room work) d
    ∷ 14 when of_maps location_twice d
    ∷ []

-- 24 and 25, which labels check too
unfoldable pub conditions_of_labels : Option Element → List Refusal
conditions_of_labels d = 24 when of_maps key_twice d ∷ 25 when of_maps labels_twice d ∷ []

unfoldable pub conditions : (lengths : List ℕ) (size room work : ℕ) → Option Element → List Refusal
conditions lengths size room work d =
    conditions_of_header lengths size d ++ (conditions_of_table room work d ++ conditions_of_labels d)

-- The number is that of the first row that applies; 0 where none does.
unfoldable pub refusal : (lengths : List ℕ) (size room work : ℕ) → Option Element → ℕ
refusal lengths size room work d = first (conditions lengths size room work d)

unfoldable pub condition_words : Unit {0}
unfolding lengths_wrong text_too_long no_document root_wrong kind_not_read shape_wrong number_wrong listed_dimensions dimensions_wrong length_wrong
    same_type alike models_share lists_count uneven ranges_wrong outside beyond numbers_outside room_short repeats location_twice key_twice
    labels_twice of_maps conditions_of_header conditions_of_table conditions_of_labels conditions first refusal
condition_words = tt
