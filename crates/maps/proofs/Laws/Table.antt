-- What is proved of Table.
use Rattle.std.specs.Prelude.{◌≡◌, refl, List, [], ◌∷◌, true, false, cond, ℕ, zero, suc, ◌+◌, ◌-◌, ◌<◌, ◌≤◌, length, get_or}
use Rattle.std.proofs.Math.Path.{ap}
use Rattle.std.proofs.Common.{◌∙◌, le_of_suc-le-suc, arith}
use Rattle.lists.specs.Lists.{each, total, count}
use Rattle.lists.proofs.Laws.Quantifiers.{count_one_iff}
use Rattle.lists.proofs.Laws.Lists.{length_each}
use Rattle.records.specs.Record.{record_of}
use Rattle.records.specs.Fill.{wrote}
use Rattle.cifti.specs.Maps.{Model, Map, locations, locations_by, covers, length_of}
use Rattle.cifti.specs.Conditions.{uneven, lists_count}
use Rattle.cifti.specs.Answer.{record_at, stretch}
use Rattle.cifti.proofs.Laws.Cover.{ranges_within}
use Rattle.cifti.proofs.Laws.Meaning.{even_iff}
use Rattle.cifti.proofs.Laws.Repeats.{lists_count_lem}
use Rattle.maps.proofs.Laws.Chain.{Counting, none_counts, one_counts, OnceBelow}
use Rattle.maps.specs.Fill.{filled, entry_at, Fitting, none_fits, one_fits}
use Rattle.maps.proofs.Laws.Fill.{filled_law, table_same}
use Rattle.maps.specs.Table.{model_records}

record_entry : (l : List Model) (n : ℕ) → entry_at model_records l n ≡ record_at l n
unfolding entry_at record_at model_records
record_entry [] n = refl
record_entry (m ∷ l) n = ap (cond (covers n m) (get_or (each record_of (locations m)) (n - m.offset) 0)) (record_entry l n)

records_length : (m : Model) → lists_count m.count m.listed ≡ true → length (model_records m) ≡ m.count
unfolding model_records locations
records_length m h = length_each record_of (locations_by m.structure m.listed) ∙ lists_count_lem m.structure m.count m.listed h

count_each_one : (b : Model) (l : List Model) → Counting l → (i : ℕ) → i < length l → 1 ≤ (get_or l i b).count
count_each_one b [] none_counts i u = absurd (omega arith)
count_each_one b (m ∷ l) (one_counts h k) zero u = h
count_each_one b (m ∷ l) (one_counts h k) (suc i) u = count_each_one b l k i (le_of_suc-le-suc u)

-- models that fit, by places
all_fit : (f : Model → List ℕ) (b : Model) (size : ℕ) (l : List Model)
    → ((i : ℕ) → i < length l → length (f (get_or l i b)) ≡ (get_or l i b).count)
    → ((i : ℕ) → i < length l → (get_or l i b).offset + (get_or l i b).count ≤ size) → Fitting f size l
all_fit f b size [] h k = none_fits
all_fit f b size (m ∷ l) h k = one_fits (h 0 (omega arith)) (k 0 (omega arith))
    (all_fit f b size l (λ i u. h (suc i) (omega arith)) (λ i u. k (suc i) (omega arith)))

module _ (b : Model) (m : Map) (even : uneven m ≡ false) (counting : Counting m.models)
    (size : length_of m ≡ total (λ x. x.count) m.models) where
  once : OnceBelow m.models (total (λ x. x.count) m.models)
  once i u = (count_one_iff b (covers i) m.models).1 (((even_iff b m).0 even).one i (omega (arith, size)))

  pub fitting : Fitting model_records (length_of m) m.models
  fitting =
      let e = (even_iff b m).0 even in
      all_fit model_records b (length_of m) m.models (λ i u. records_length (get_or m.models i b) (e.lists i u))
      (λ i u. (let w = ranges_within b m.models once i u (count_each_one b m.models counting i u) in omega (arith, size)))

  -- THE LAW: the models' records, one model after the other, are the stretch
  pub table_law : (start : ℕ) (s : List ℕ) → start + length_of m ≤ length s
      → filled model_records start m.models s ≡ wrote start (stretch m) s
  unfolding stretch
  table_law start s fits =
      filled_law model_records start (length_of m) m.models s fitting fits (λ n u. once n (omega (arith, size)))
      ∙ ap (λ t. wrote start t s) (table_same (record_entry m.models) (length_of m))
