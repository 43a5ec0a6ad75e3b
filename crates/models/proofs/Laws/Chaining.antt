-- The turns of the chain: from 0, each range goes on where the last one ended.
use Rattle.std.specs.Prelude.{◌≡◌, refl, Bool, true, false, ℕ, zero, suc, ◌+◌, ◌*◌, ◌-◌, ◌<◌, ◌≤◌, ◌^◌, eqb, get_or, Some}
use Rattle.std.proofs.Math.Path.{sym}
use Rattle.std.proofs.Common.{◌∙◌, subst, arith, rules, eqb-true, lt-ltb, le-ltb}
use Rattle.std.proofs.lemmas.Bool.{eqb-false}
use Rattle.lists.specs.Lists.{count_up, tabulated, total}
use Rattle.lists.specs.Ranges.{Range, sum_of, tiling, begins_at, Chain, start, on}
use Rattle.lists.proofs.Laws.Ranges.{Counting, counting_up, chain_through, chain_past}
use Rattle.lists.proofs.Laws.Ranges.{chain_stops}
use Rattle.models.specs.Gathered.{Sized}
use Rattle.models.specs.Ranges.{range_of, ranges_of, range_if, Ranged}
use Rattle.models.proofs.Laws.Ranges.{range_size}
use Rattle.models.specs.declared.gather.Models.{Models}

pub ranges_count : {m : Models} → Ranged m → Counting (λ (r : Range). r.size) (ranges_of m)
unfolding ranges_of tabulated
ranges_count {m} r = counting_up (λ (r : Range). r.size) (range_of m) 0 m.count
    (λ k u v. (let e = range_size m k in let h = r.least k (omega arith) in omega arith))

total_up : (f : ℕ → Range) (i n : ℕ) → ((k : ℕ) → i ≤ k → k < i + n → (f k).size ≤ 1048576) → sum_of (count_up f i n) ≤ 1048576 * n
unfolding count_up sum_of total
total_up f i zero h = omega arith
total_up f i (suc n) h = let a = h i (omega arith) (omega arith) in let b =
    total_up f (suc i) n (λ k u v. h k (omega arith) (omega arith)) in omega arith

pub sum_small : {m : Models} → Ranged m → sum_of (ranges_of m) ≤ 67108864
unfolding ranges_of tabulated
sum_small {m} r = omega (
  arith,
  total_up (range_of m) 0 m.count
      (λ k u v. (let e = range_size m k in let h = r.most k (omega arith) in omega arith)),
  r.sized.few,
)

pub record Chaining (m : Models) (end index : ℕ) : Type 0 where
  pub ranged : Ranged m
  pub is_end : end ≡ sum_of (ranges_of m)
  pub chain : Chain (ranges_of m) index

pub chaining_start : {m : Models} {end : ℕ} → Ranged m → end ≡ sum_of (ranges_of m) → Chaining m end 0
chaining_start r e = record { ranged = r; is_end = e; chain = start }

module _ {m : Models} {end index : ℕ} (go : Chaining m end index) where
  pub chaining_sized : Sized m
  chaining_sized = go.ranged.sized

  pub chaining_done : end ≤ index → eqb index end ≡ tiling (ranges_of m)
  chaining_done h = by (eqb index end) refl
    where
      by : (b : Bool) → eqb index end ≡ b → b ≡ tiling (ranges_of m)
      by true e =
          let z : index ≡ sum_of (ranges_of m) = eqb-true index end e ∙ go.is_end in
          sym (chain_through (ranges_of m) (ranges_count go.ranged) (subst (λ (n : ℕ). Chain (ranges_of m) n) z go.chain))
      by false e =
          let z : index ≡ end → ⊥ = eqb-false index end e in
          sym (chain_past (ranges_of m) (ranges_count go.ranged) go.chain (let d = go.is_end in omega arith))

  module _ (h : index < end) {i : ℕ} (b : begins_at index (ranges_of m) ≡ range_if m i) where
    pub chaining_stops : m.count ≤ i → false ≡ tiling (ranges_of m)
    unfolding range_if
    chaining_stops u = sym (chain_stops (ranges_of m) (ranges_count go.ranged) go.chain (omega (arith, go.is_end))
        (b ∙ rw (le-ltb i m.count u)))

    module _ (u : i < m.count) where
      begun : begins_at index (ranges_of m) ≡ Some (range_of m i)
      unfolding range_if
      begun = b ∙ rw (lt-ltb i m.count u)

      pub chaining_place : i < 64
      chaining_place = omega (arith, go.ranged.sized.few)

      pub chaining_room : index + get_or m.length i 0 < 2 ^ 64
      chaining_room = omega (arith, go.ranged.most i u, go.is_end, sum_small go.ranged)

      pub chaining_less : end - (index + get_or m.length i 0) < end - index
      chaining_less = omega (arith, go.ranged.least i u)

      pub chaining_on : Chaining m end (index + get_or m.length i 0)
      chaining_on = record {
        ranged = go.ranged;
        is_end = go.is_end;
        chain = subst (λ (n : ℕ). Chain (ranges_of m) (index + n)) (range_size m i) (on go.chain begun);
      }

pub ruleset chaining = (
  chaining_start,
  chaining_sized,
  chaining_done,
  chaining_stops,
  chaining_place,
  chaining_room,
  chaining_less,
  chaining_on,
  rules,
)
