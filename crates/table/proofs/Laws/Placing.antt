-- What is proved of Placing.
use Rattle.std.specs.Prelude.{◌≡◌, refl, ℕ, suc, ◌+◌, ◌-◌, ◌<◌, ◌≤◌}
use Rattle.std.proofs.Math.Path.{sym, ap}
use Rattle.std.proofs.Common.{◌∙◌, add-one, arith, drop-cons, rules}
use mathlib.Core.List.{List, [], ◌∷◌}
use Rattle.std.proofs.Math.ListN.{length, get_or, drop}
use Rattle.std.proofs.Math.Seq.{drop-length}
use Rattle.lists.specs.Lists.{total}
use Rattle.records.specs.Fill.{wrote, length_wrote}
use Rattle.cifti.specs.Maps.{Model}
use Rattle.maps.specs.Fill.{filled}
use Rattle.maps.specs.Table.{model_records}
use Rattle.models.specs.Held.{held_model, models_at}
use Rattle.lists.proofs.Laws.Tables.{size_of_table, entry_of_table}
use Rattle.models.specs.declared.gather.Models.{Models}
use Rattle.table.specs.Model.{ModelFillable}
use Rattle.table.specs.Placing.{nth_model, Placing, ModelsPlaced}

module _ (text : List ℕ) (m : Models) where
  models_count : length (models_at text m) ≡ m.count
  unfolding models_at
  models_count = size_of_table (held_model text m) m.count

  models_at_lem : (b : Model) (i : ℕ) → i < m.count → get_or (models_at text m) i b ≡ nth_model text m i
  unfolding models_at held_model
  models_at_lem b i h = entry_of_table (held_model text m) b m.count i h

  ahead : (i : ℕ) → i < m.count → drop i (models_at text m) ≡ nth_model text m i ∷ drop (i + 1) (models_at text m)
  ahead i h =
      let u : i < length (models_at text m) = omega (arith, models_count) in
      drop-cons (models_at text m) i (nth_model text m i) u
      ∙ ap (λ x. x ∷ drop (suc i) (models_at text m)) (models_at_lem (nth_model text m i) i h)
      ∙ ap (λ n. nth_model text m i ∷ drop n (models_at text m)) (sym (add-one i))

  none_ahead : (i : ℕ) → m.count ≡ i → drop i (models_at text m) ≡ []
  none_ahead i e = ap (λ n. drop n (models_at text m)) (sym e ∙ sym models_count) ∙ drop-length (models_at text m)

-- those before the i-th are written
pub record PlacedTo (text : List ℕ) (m : Models) (before : List ℕ) (start n i : ℕ) (out : List ℕ) : Type 0 where
  pub placing : Placing text m (length before) start
  pub within : i ≤ m.count
  pub kept : length out ≡ length before
  pub same : filled model_records start (models_at text m) before ≡ filled model_records start (drop i (models_at text m)) out
  pub counted : n + total (λ b. b.count) (drop i (models_at text m)) ≡ total (λ b. b.count) (models_at text m)

pub placed_start : {text : List ℕ} {m : Models} {out : List ℕ} {start : ℕ} → Placing text m (length out) start
    → PlacedTo text m out start 0 0 out
placed_start {text} {m} h = record { placing = h; within = omega arith; kept = refl; same = refl; counted = omega arith }

module _ {text : List ℕ} {m : Models} {before : List ℕ} {start n i : ℕ} {out : List ℕ} (go : PlacedTo text m before start n i out) where
  pub placed_kept : length out ≡ length before
  placed_kept = go.kept

  pub placed_done : m.count ≤ i → ModelsPlaced text m before start n out
  unfolding filled total
  placed_done h =
      let e : drop i (models_at text m) ≡ [] = none_ahead text m i (omega (arith, go.within)) in
      record {
        written = sym (go.same ∙ ap (λ l. filled model_records start l out) e);
        counted = omega (arith, go.counted, ap (total (λ b. b.count)) e);
      }

  module _ (h : i < m.count) where
    pub placed_at : i < 64
    placed_at = omega (arith, go.placing.holding.sized.few)

    offset_is : get_or m.offset i 0 ≡ (nth_model text m i).offset
    offset_is = (go.placing.holding.holds i h).offset_is

    pub placed_offset : start + get_or m.offset i 0 ≤ length before
    placed_offset = omega (arith, offset_is, go.placing.place i h)

    sums : total (λ b. b.count) (drop i (models_at text m)) ≡ get_or m.length i 0 + total (λ b. b.count) (drop (i + 1) (models_at text m))
    unfolding total
    sums = ap (total (λ b. b.count)) (ahead text m i h)
        ∙ ap (λ k. k + total (λ b. b.count) (drop (i + 1) (models_at text m))) (sym (go.placing.holding.holds i h).length_is)

    pub placed_sum : n + get_or m.length i 0 ≤ length before
    placed_sum = omega (arith, sums, go.counted, go.placing.sum)

    pub placed_can : ModelFillable text (get_or m.at i 0) (get_or m.kind i 0) out (start + get_or m.offset i 0)
    placed_can = record {
      model = (go.placing.holding.holds i h).model;
      kind_is = (go.placing.holding.holds i h).kind_is;
      fits = go.placing.fits i h;
      room = omega (arith, offset_is, go.placing.place i h, go.kept);
    }

    pub placed_on : {after : List ℕ} → after ≡ wrote (start + get_or m.offset i 0) (model_records (nth_model text m i)) out
        → PlacedTo text m before start (n + get_or m.length i 0) (i + 1) after
    unfolding filled
    placed_on {after} e = record {
      placing = go.placing;
      within = omega arith;
      kept = ap length e ∙ length_wrote (start + get_or m.offset i 0) (model_records (nth_model text m i)) out
          (omega (arith, offset_is, go.placing.place i h, go.kept)) ∙ go.kept;
      same = go.same ∙ ap (λ l. filled model_records start l out) (ahead text m i h)
          ∙ ap (λ o. filled model_records start (drop (i + 1) (models_at text m)) (wrote (start + o) (model_records (nth_model text m i)) out))
          (sym offset_is)
          ∙ ap (filled model_records start (drop (i + 1) (models_at text m))) (sym e);
      counted = omega (arith, sums, go.counted);
    }

pub ruleset placing = (placed_start, placed_kept, placed_done, placed_at, placed_offset, placed_sum, placed_can, placed_on, rules)
