-- MAPS WITH THEIR MODELS IN ANOTHER ORDER: what conditions 8 to 14, 24 and 25, the answer, the table, map names and labels make of them.
use Rattle.std.specs.Prelude.{◌≡◌, List, [], ◌++◌, Bool, true, false, ◌&&◌, ◌||◌, cond, ℕ, zero, suc, ◌+◌, ◌-◌, ◌<◌}
use Rattle.std.proofs.Math.Path.{refl, ap, ap₂}
use Rattle.std.proofs.Common.{sym, ◌∙◌, arith}
use Rattle.std.proofs.Math.Bool.{not}
use Rattle.std.proofs.Math.Dec.{eqb}
use Rattle.std.proofs.Math.ListN.{get_or}
use Rattle.lists.specs.Lists.{any, count, two_of, each, each_in, all_below, tabulated}
use Rattle.lists.proofs.Laws.Booleans.{or_left, or_right}
use Rattle.lists.proofs.Laws.Numbers.{eqb_turned}
use Rattle.lists.specs.Permuted.{Permuted, none, same, swap, then}
use Rattle.lists.proofs.Laws.Permuted.{any_permuted, count_permuted, total_permuted, two_permuted}
use Rattle.lists.proofs.Laws.Permuted.{each_in_permuted}
use Rattle.lists.proofs.Laws.Quantifiers.{count_one_iff}
use Rattle.lists.proofs.Laws.Tables.{table_below}
use Rattle.numbers.specs.Numbers.{same_key}
use Rattle.records.specs.Record.{record_of}
use Rattle.cifti.specs.Maps.{Voxel, Listed, vertices, voxels, Model, Map, is_brain, is_labels, length_by, length_of, brain_maps, labels_maps}
use Rattle.cifti.specs.Maps.{covers, locations, vertex_numbers, voxels_of, same_voxel}
use Rattle.cifti.specs.Conditions.{listed_dimensions, dimensions_wrong, length_wrong, same_type, alike, models_share, lists_count, uneven}
use Rattle.cifti.specs.Conditions.{ranges_wrong, beyond, numbers_outside, room_short, repeats, location_twice, key_twice, labels_twice}
use Rattle.cifti.specs.Names.{holds_name, no_name}
use Rattle.cifti.specs.Labels.{holds_table, no_table, keys_on}
use Rattle.cifti.proofs.Laws.Meaning.{even_iff}
use Rattle.cifti.specs.Answer.{record_at, stretch, stretches, described, reach, dimension_at, accepted_with}
use Rattle.order.proofs.Laws.Beside.{Beside, no_more, kept_one, changed_one, any_beside, those_beside, total_beside, greatest_beside}
use Rattle.order.proofs.Laws.Beside.{lists_beside}

-- a map, and one that is the same but for the order of its models
pub record Twin (m n : Map) : Type 0 where
  pub dimensions : m.dimensions ≡ n.dimensions
  pub kind : m.kind ≡ n.kind
  pub models : Permuted m.models n.models
  pub volume : m.volume ≡ n.volume
  pub series : m.series ≡ n.series
  pub counted : m.counted ≡ n.counted
  pub tables : m.tables ≡ n.tables

-- ---- One map.

module _ {m n : Map} (t : Twin m n) where
  twin_length : length_of m ≡ length_of n
  unfolding length_of length_by
  twin_length = rw (t.kind, total_permuted (λ b. b.count) t.models, t.series, t.counted) refl

  twin_described : (at : ℕ) → described at m ≡ described at n
  unfolding described
  twin_described at = rw (twin_length, t.kind, t.series) refl

  twin_reach : reach m ≡ reach n
  unfolding reach
  twin_reach = rw (twin_length, t.kind) refl

-- ---- All maps.

module _ {k l : List Map} (t : Beside Twin k l) where
  brain_twins : Beside Twin (brain_maps k) (brain_maps l)
  unfolding brain_maps
  brain_twins = those_beside (λ m. is_brain m.kind) (λ m n s. ap is_brain s.kind) t

  labels_twins : Beside Twin (labels_maps k) (labels_maps l)
  unfolding labels_maps
  labels_twins = those_beside (λ m. is_labels m.kind) (λ m n s. ap is_labels s.kind) t

listed_twins : {k l : List Map} → Beside Twin k l → listed_dimensions k ≡ listed_dimensions l
unfolding listed_dimensions
listed_twins t = lists_beside (λ m. m.dimensions) (λ m n s. s.dimensions) t

-- ---- Conditions 8 to 14, 24 and 25.

type_turned : (k l : Listed) → same_type k l ≡ same_type l k
unfolding same_type
type_turned (vertices m k) (vertices n l) = refl
type_turned (vertices m k) (voxels l) = refl
type_turned (voxels k) (vertices n l) = refl
type_turned (voxels k) (voxels l) = refl

alike_turned : (a b : Model) → alike a b ≡ alike b a
unfolding alike
alike_turned a b = ap₂ (λ x y. x && y) (type_turned a.listed b.listed) (eqb_turned a.structure b.structure)

voxel_turned : (v w : Voxel) → same_voxel v w ≡ same_voxel w v
unfolding same_voxel
voxel_turned v w = rw (eqb_turned v.i w.i, eqb_turned v.j w.j, eqb_turned v.k w.k) refl

below_same : (n : ℕ) {p q : ℕ → Bool} → ((i : ℕ) → p i ≡ q i) → all_below n p ≡ all_below n q
unfolding all_below
below_same zero h = refl
below_same (suc n) h = ap₂ (λ a b. a && b) (h n) (below_same n h)

module _ {m n : Map} (t : Twin m n) where
  uneven_twin : uneven m ≡ uneven n
  unfolding uneven
  uneven_twin =
      let b :
      all_below (length_of n) (λ i. eqb (count (covers i) m.models) 1) ≡ all_below (length_of n) (λ i. eqb (count (covers i) n.models) 1)
      = below_same (length_of n) (λ i. ap (λ c. eqb c 1) (count_permuted (covers i) t.models)) in
      rw (any_permuted (λ b. not (lists_count b.count b.listed)) t.models, twin_length t, b) refl

  repeats_twin : repeats m.models ≡ repeats n.models
  unfolding repeats
  repeats_twin = ap₂ (λ x y. x || y)
      (any_permuted (λ b. two_of eqb (vertex_numbers b.listed)) t.models)
      (two_permuted same_voxel voxel_turned (each_in_permuted (λ b. voxels_of b.listed) t.models))

module _ {k l : List Map} (t : Beside Twin k l) where
  pub eight : (lengths : List ℕ) → dimensions_wrong lengths k ≡ dimensions_wrong lengths l
  unfolding dimensions_wrong
  eight lengths = rw (listed_twins t) refl

  pub nine : (lengths : List ℕ) → length_wrong lengths k ≡ length_wrong lengths l
  unfolding length_wrong
  nine lengths = any_beside (λ m. any (λ d. not (eqb (length_of m) (get_or lengths d 0))) m.dimensions)
      (λ m n (s : Twin m n). rw (twin_length s, s.dimensions) refl) t

  pub ten : models_share k ≡ models_share l
  unfolding models_share
  ten = any_beside (λ m. two_of alike m.models) (λ m n s. two_permuted alike alike_turned s.models) t

  pub eleven : ranges_wrong k ≡ ranges_wrong l
  unfolding ranges_wrong
  eleven = any_beside uneven (λ m n s. uneven_twin s) (brain_twins t)

  pub twelve : numbers_outside k ≡ numbers_outside l
  unfolding numbers_outside
  twelve = any_beside (λ m. any (λ b. beyond m.volume b.listed) m.models)
      (λ m n s. rw s.volume (any_permuted (λ b. beyond n.volume b.listed) s.models)) t

  pub thirteen : (room work : ℕ) → room_short room work k ≡ room_short room work l
  unfolding room_short
  thirteen room work = rw (
    total_beside length_of (λ m n s. twin_length s) (brain_twins t),
    greatest_beside length_of (λ m n s. twin_length s) (brain_twins t),
  ) refl

  pub fourteen : location_twice k ≡ location_twice l
  unfolding location_twice
  fourteen = any_beside (λ m. repeats m.models) (λ m n s. repeats_twin s) t

  pub twenty_four : key_twice k ≡ key_twice l
  unfolding key_twice
  twenty_four = any_beside (λ m. any (two_of same_key) m.tables) (λ m n s. rw s.tables refl) (labels_twins t)

  pub twenty_five : labels_twice k ≡ labels_twice l
  unfolding labels_twice
  twenty_five = rw (listed_twins (labels_twins t)) refl

  -- 18, of a map name and of a label table; the keys of a table
  pub no_name_twins : (d i : ℕ) → no_name d i k ≡ no_name d i l
  unfolding no_name holds_name
  no_name_twins d i = ap not (any_beside (λ m. any (eqb d) m.dimensions && holds_name i m)
      (λ m n s. rw (s.dimensions, s.kind, s.counted) refl) t)

  pub no_table_twins : (d i : ℕ) → no_table d i k ≡ no_table d i l
  unfolding no_table holds_table
  no_table_twins d i = ap not (any_beside (λ m. any (eqb d) m.dimensions && holds_table i m)
      (λ m n s. rw (s.dimensions, s.kind, s.counted) refl) t)

  pub keys_twins : (d i : ℕ) → keys_on d i k ≡ keys_on d i l
  unfolding keys_on
  keys_twins d i = ap (λ x. get_or x i []) (lists_beside (λ m. m.tables) (λ m n s. s.tables)
      (those_beside (λ m. any (eqb d) m.dimensions) (λ m n s. rw s.dimensions refl) t))

-- ---- The answer.

dimension_twins : {k l : List Map} → Beside Twin k l → (at d : ℕ) → dimension_at at k d ≡ dimension_at at l d
unfolding dimension_at
dimension_twins no_more at d = refl
dimension_twins (kept_one {a = m} h) at d = ap (cond (any (eqb d) m.dimensions) (described at m)) (dimension_twins h (at + reach m) d)
dimension_twins (changed_one {a = m} {b = n} t h) at d = rw (twin_described t at, twin_reach t, t.dimensions)
    (ap (cond (any (eqb d) n.dimensions) (described at n)) (dimension_twins h (at + reach n) d))

pub accepted_twins : {k l : List Map} → Beside Twin k l → accepted_with k ≡ accepted_with l
unfolding accepted_with
accepted_twins t = rw (dimension_twins t 0 0, dimension_twins t 0 1, dimension_twins t 0 2) refl

-- ---- The table, where each index is in one model's range: the order in which models are looked through is not seen.

record_permuted : {k l : List Model} (n : ℕ) → Permuted k l → count (covers n) k ≡ 1 → record_at k n ≡ record_at l n
unfolding record_at count
record_permuted n none h = refl
record_permuted n (same {a} {k} {l} p) h =
    go (covers n a) (get_or (each record_of (locations a)) (n - a.offset) 0) h (record_permuted n p)
  where
    go : (b : Bool) (u : ℕ) → cond b 1 0 + count (covers n) k ≡ 1 → (count (covers n) k ≡ 1 → record_at k n ≡ record_at l n)
        → cond b u (record_at k n) ≡ cond b u (record_at l n)
    go true u q f = refl
    go false u q f = f (omega arith)
record_permuted n (swap {a} {b} {l}) h =
    go (covers n a) (covers n b) (get_or (each record_of (locations a)) (n - a.offset) 0)
    (get_or (each record_of (locations b)) (n - b.offset) 0) h
  where
    go : (x y : Bool) (u v : ℕ) → cond x 1 0 + (cond y 1 0 + count (covers n) l) ≡ 1
        → cond x u (cond y v (record_at l n)) ≡ cond y v (cond x u (record_at l n))
    go true true u v q = absurd (omega arith)
    go true false u v q = refl
    go false true u v q = refl
    go false false u v q = refl
record_permuted n (then p q) h = record_permuted n p h ∙ record_permuted n q (sym (count_permuted (covers n) p) ∙ h)

-- a model that is asked for where there is none
no_model : Model
no_model = record { structure = 0; offset = 0; count = 0; listed = voxels [] }

even_counts : (m : Map) → uneven m ≡ false → (n : ℕ) → n < length_of m → count (covers n) m.models ≡ 1
even_counts m h n u = (count_one_iff no_model (covers n) m.models).1 (((even_iff no_model m).0 h).one n u)

stretch_twin : {m n : Map} → Twin m n → uneven m ≡ false → stretch m ≡ stretch n
unfolding stretch
stretch_twin {m} {n} t h =
    table_below (length_of m) (λ j u. record_permuted j t.models (even_counts m h j u))
    ∙ ap (λ x. tabulated x (record_at n.models)) (twin_length t)

all_stretches : {k l : List Map} → Beside Twin k l → any uneven k ≡ false → each_in stretch k ≡ each_in stretch l
unfolding any each_in
all_stretches no_more h = refl
all_stretches (kept_one {a = m} {k} t) h = ap (λ x. stretch m ++ x) (all_stretches t (or_right (uneven m) (any uneven k) h))
all_stretches (changed_one {a = m} {b = n} {k} t r) h =
    ap₂ (λ a b. a ++ b) (stretch_twin t (or_left (uneven m) (any uneven k) h)) (all_stretches r (or_right (uneven m) (any uneven k) h))

pub stretches_twins : {k l : List Map} → Beside Twin k l → ranges_wrong k ≡ false → stretches k ≡ stretches l
unfolding stretches ranges_wrong
stretches_twins t h = all_stretches (brain_twins t) h
