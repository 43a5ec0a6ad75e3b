-- What is proved of Held.
use Rattle.std.specs.Prelude.{◌≡◌, refl, List, Bool, ℕ, zero, suc, ◌<◌, ◌≤◌, eqb}
use Rattle.std.proofs.Common.{sym, ap₂, ◌∙◌, arith}
use Rattle.std.proofs.Math.Path.{ap}
use Rattle.std.proofs.Math.ListN.{length, get_or}
use Rattle.lists.specs.Lists.{tabulated, each, count, total, all_below}
use Rattle.lists.proofs.Laws.Lists.{count_each, total_each}
use Rattle.lists.specs.Ranges.{Range, holds, in_range, sum_of, tiling}
use Rattle.lists.proofs.Laws.Ranges.{counting_up}
use Rattle.grammar.specs.Look.{attr}
use Rattle.nodes.specs.Places.{the}
use Rattle.numbers.specs.Numbers.{value}
use Rattle.cifti.specs.Maps.{Model, model_of, map_of, length_of, covers}
use Rattle.maps.proofs.Laws.Chain.{Counting}
use Rattle.maps.proofs.Laws.Kinds.{model_facts}
use Rattle.models.proofs.Laws.Brain.{map_models, brain_sum, whole_within}
use Rattle.models.specs.Gathered.{gathered, Gathered}
use Rattle.lists.proofs.Laws.Tables.{each_take, each_table, table_below, size_of_table, entry_of_table}
use Rattle.models.specs.Ranges.{ranging, range_of, ranges_of, Ranged}
use Rattle.models.specs.declared.gather.Models.{Models}
use Rattle.models.specs.Held.{Holding, BrainHeld, held_model, models_at}

pub holding : {text : List ℕ} {map : ℕ} {m : Models} → Gathered text map m → Holding text m
holding g = record { sized = g.sized; holds = g.holds }

-- THE LAWS of the gathered models
module _ {text : List ℕ} {map : ℕ} {m : Models} (h : BrainHeld text map m) where
  pub held_models : (map_of (the text map)).models ≡ models_at text m
  unfolding gathered models_at held_model
  held_models =
      map_models (the text map)
      ∙ ap (each model_of) (sym h.held.all_of_them
      ∙ each_take (the text) m.at m.count (omega (arith, h.held.sized.few, h.held.sized.at_64)))
      ∙ each_table model_of (λ k. the text (get_or m.at k 0)) m.count

  pub held_count : length (map_of (the text map)).models ≡ m.count
  unfolding models_at
  held_count = ap length held_models ∙ size_of_table (held_model text m) m.count

  pub held_at : (b : Model) (i : ℕ) → i < m.count → get_or (map_of (the text map)).models i b ≡ model_of (the text (get_or m.at i 0))
  unfolding models_at held_model
  held_at b i u = ap (λ l. get_or l i b) held_models ∙ entry_of_table (held_model text m) b m.count i u

-- ---- The ranges.

pub held_ranged : {text : List ℕ} {m : Models} → Holding text m → Ranged m
unfolding model_of
held_ranged {text} {m} h = record {
  sized = h.sized;
  least = λ i u. (let x = h.holds i u in let w = (limits i u).0 in omega (arith, x.length_is));
  most = λ i u. (let x = h.holds i u in let w = (limits i u).1 in omega (arith, x.length_is));
}
  where
    limits : (i : ℕ) → i < m.count → (1 ≤ value (attr "IndexCount" (the text (get_or m.at i 0))))
        × (value (attr "IndexCount" (the text (get_or m.at i 0))) ≤ 1048576)
    limits i u = whole_within 1 1048576 (attr "IndexCount" (the text (get_or m.at i 0))) (model_facts (h.holds i u).model.good).count

-- the range of a model
plain : Model → Range
plain x = ranging x.offset x.count

plain_covers : (n : ℕ) (l : List Model) → count (in_range n) (each plain l) ≡ count (covers n) l
unfolding covers holds plain ranging
plain_covers n l = count_each plain (in_range n) l

plain_sum : (l : List Model) → sum_of (each plain l) ≡ total (λ x. x.count) l
unfolding sum_of plain ranging
plain_sum l = total_each plain (λ r. r.size) l

below_same : (n : ℕ) {p q : ℕ → Bool} → ((i : ℕ) → p i ≡ q i) → all_below n p ≡ all_below n q
unfolding all_below
below_same zero h = refl
below_same (suc n) h = rw (h n, below_same n h)

plain_tiling : (l : List Model) → tiling (each plain l) ≡ all_below (total (λ x. x.count) l) (λ n. eqb (count (covers n) l) 1)
unfolding tiling
plain_tiling l =
    ap (λ k. all_below k (λ n. eqb (count (in_range n) (each plain l)) 1)) (plain_sum l)
    ∙ below_same (total (λ x. x.count) l) (λ n. ap (λ c. eqb c 1) (plain_covers n l))

held_plain : {text : List ℕ} {m : Models} → Holding text m → ranges_of m ≡ each plain (models_at text m)
unfolding ranges_of models_at range_of plain held_model
held_plain {text} {m} h =
    table_below m.count (λ k u. (let x = h.holds k u in ap₂ ranging x.offset_is x.length_is))
    ∙ sym (each_table plain (λ i. model_of (the text (get_or m.at i 0))) m.count)

-- the sum of their counts is the map's length, and each counts one index at least
pub held_total : {text : List ℕ} {map : ℕ} {m : Models} → BrainHeld text map m
    → length_of (map_of (the text map)) ≡ total (λ x. x.count) (map_of (the text map)).models
held_total {text} {map} h = brain_sum (the text map) h.brain.is_brain_lem

pub held_counting : {text : List ℕ} {map : ℕ} {m : Models} → BrainHeld text map m → Counting (map_of (the text map)).models
unfolding models_at held_model tabulated
held_counting {text} {map} {m} h =
    rw (held_models h) (counting_up (λ (x : Model). x.count) (λ i. model_of (the text (get_or m.at i 0))) 0 m.count
    (λ k u v. (let x = h.held.holds k (omega arith) in let w = (held_ranged (holding h.held)).least k (omega arith) in
    omega (arith, x.length_is))))

pub held_tiling : {text : List ℕ} {map : ℕ} {m : Models} → BrainHeld text map m
    → tiling (ranges_of m) ≡ all_below (length_of (map_of (the text map))) (λ n. eqb (count (covers n) (map_of (the text map)).models) 1)
held_tiling {text} {map} {m} h =
    ap tiling (held_plain (holding h.held) ∙ ap (each plain) (sym (held_models h)))
    ∙ plain_tiling (map_of (the text map)).models
    ∙ ap (λ k. all_below k (λ n. eqb (count (covers n) (map_of (the text map)).models) 1)) (sym (held_total h))
