-- The turns of the loops over the arrays of the ranges.
use Rattle.std.specs.Prelude.{◌≡◌, refl, List, [], ◌∷◌, cond, ℕ, ◌+◌, ◌*◌, ◌-◌, ◌<◌, ◌≤◌, ◌^◌, eqb, get_or, Some, None}
use Rattle.std.proofs.Math.Path.{sym, ap}
use Rattle.std.proofs.Common.{◌∙◌, arith, rules}
use borrow.Author.Tests.{eq-eqb, ne_eqb, lt-ltb, le-ltb}
use Rattle.lists.specs.Lists.{count_up, total}
use Rattle.lists.specs.Ranges.{Range, sum_of, begins_at}
use Rattle.lists.proofs.Laws.Tables.{up_one, up_done, up_all}
use Rattle.models.specs.Gathered.{Sized}
use Rattle.models.specs.declared.gather.Models.{Models}
use Rattle.models.specs.Ranges.{ranging, range_of, ranges_of, Ranged, range_if}

-- ---- The turns of the loops over the arrays.

pub ahead : Models → ℕ → List Range
ahead m i = count_up (range_of m) i (m.count - i)

ahead_all : (m : Models) → ahead m 0 ≡ ranges_of m
unfolding ahead ranges_of
ahead_all m = up_all (range_of m) m.count

ahead_one : (m : Models) (i : ℕ) → i < m.count → ahead m i ≡ range_of m i ∷ ahead m (i + 1)
unfolding ahead
ahead_one m i h = up_one (range_of m) i m.count h

ahead_none : (m : Models) (i : ℕ) → m.count ≤ i → ahead m i ≡ []
unfolding ahead
ahead_none m i h = up_done (range_of m) i m.count h

-- the sum
sum_one : (x : Range) (l : List Range) → sum_of (x ∷ l) ≡ x.size + sum_of l
unfolding sum_of total
sum_one x l = refl

sum_none : sum_of [] ≡ 0
unfolding sum_of total
sum_none = refl

pub range_size : (m : Models) (i : ℕ) → (range_of m i).size ≡ get_or m.length i 0
unfolding range_of ranging
range_size m i = refl

range_offset : (m : Models) (i : ℕ) → (range_of m i).offset ≡ get_or m.offset i 0
unfolding range_of ranging
range_offset m i = refl

pub record Adding (m : Models) (n i : ℕ) : Type 0 where
  pub ranged : Ranged m
  pub within : i ≤ m.count
  pub bound : n ≤ 1048576 * i
  pub same_sum : n + sum_of (ahead m i) ≡ sum_of (ranges_of m)

pub adding_start : {m : Models} → Ranged m → Adding m 0 0
adding_start {m} r = record { ranged = r; within = omega arith; bound = omega arith; same_sum = omega (arith, ap sum_of (ahead_all m)) }

module _ {m : Models} {n i : ℕ} (go : Adding m n i) where
  pub adding_done : m.count ≤ i → n ≡ sum_of (ranges_of m)
  adding_done h = omega (arith, go.same_sum, ap sum_of (ahead_none m i h) ∙ sum_none)

  module _ (h : i < m.count) where
    pub adding_place : i < 64
    adding_place = omega (arith, go.ranged.sized.few)

    pub adding_room : n + get_or m.length i 0 < 2 ^ 64
    adding_room = omega (arith, go.ranged.most i h, go.bound, go.ranged.sized.few)

    pub adding_on : Adding m (n + get_or m.length i 0) (i + 1)
    adding_on =
        let s = ap sum_of (ahead_one m i h) ∙ sum_one (range_of m i) (ahead m (i + 1)) in
        record {
          ranged = go.ranged;
          within = omega arith;
          bound = omega (arith, go.ranged.most i h, go.bound);
          same_sum = omega (arith, go.same_sum, s, range_size m i);
        }

pub ruleset adding = (adding_start, adding_done, adding_place, adding_room, adding_on, rules)

-- where a range begins
begins_one : (c : ℕ) (x : Range) (l : List Range) → begins_at c (x ∷ l) ≡ cond (eqb x.offset c) (Some x) (begins_at c l)
unfolding begins_at
begins_one c x l = refl

begins_none : (c : ℕ) → begins_at c [] ≡ None
unfolding begins_at
begins_none c = refl

pub record Beginning (m : Models) (c i : ℕ) : Type 0 where
  pub sized : Sized m
  pub within : i ≤ m.count
  pub same_begin : begins_at c (ranges_of m) ≡ begins_at c (ahead m i)

pub beginning_start : {m : Models} (c : ℕ) → Sized m → Beginning m c 0
beginning_start {m} c s = record { sized = s; within = omega arith; same_begin = ap (begins_at c) (sym (ahead_all m)) }

module _ {m : Models} {c i : ℕ} (go : Beginning m c i) where
  pub beginning_done : m.count ≤ i → begins_at c (ranges_of m) ≡ range_if m i
  unfolding range_if
  beginning_done h = go.same_begin ∙ ap (begins_at c) (ahead_none m i h) ∙ begins_none c ∙ sym (rw (le-ltb i m.count h))

  module _ (h : i < m.count) where
    step : begins_at c (ranges_of m) ≡ cond (eqb (get_or m.offset i 0) c) (Some (range_of m i)) (begins_at c (ahead m (i + 1)))
    step = go.same_begin ∙ ap (begins_at c) (ahead_one m i h) ∙ begins_one c (range_of m i) (ahead m (i + 1))
        ∙ ap (λ o. cond (eqb o c) (Some (range_of m i)) (begins_at c (ahead m (i + 1)))) (range_offset m i)

    pub beginning_place : i < 64
    beginning_place = omega (arith, go.sized.few)

    pub beginning_here : get_or m.offset i 0 ≡ c → begins_at c (ranges_of m) ≡ range_if m i
    unfolding range_if
    beginning_here e = step ∙ rw (eq-eqb (get_or m.offset i 0) c e, lt-ltb i m.count h)

    pub beginning_on : (get_or m.offset i 0 ≡ c → ⊥) → Beginning m c (i + 1)
    beginning_on e = record {
      sized = go.sized;
      within = omega arith;
      same_begin = step ∙ rw (ne_eqb (get_or m.offset i 0) c e);
    }

pub ruleset beginning = (beginning_start, beginning_done, beginning_place, beginning_here, beginning_on, rules)
