-- The walks of two sheets that stand side by side, by their bytes and counts. Assumes nothing.
use Rattle.std.specs.Prelude.{◌≡◌, Bool, true, false, List, ℕ, ◌+◌, ◌-◌, ◌*◌, ◌≤◌, ◌<◌, eqb, set, take, drop}
use Rattle.std.proofs.Math.Path.{refl, sym, ap, subst}
use Rattle.std.proofs.Common.{◌∙◌, length-set}
use native.Mathlib.Omega.{arith}
use Rattle.std.proofs.Math.ListN.{length, get_or}
use borrow.Author.Tests.{lt-ltb, le-ltb}
use Rattle.lists.specs.Lists.{count}
use Rattle.records.specs.Width.{seven, width_said}
use Rattle.records.specs.Bytes.{number_written}
use Rattle.records.specs.Record.{carried}
use Rattle.records.specs.Sheet.{count_of, width_of, bare}
use Rattle.records.proofs.Laws.Sheet.{sheet_good, count_small}
use Rattle.records.proofs.Laws.Computed.{word_inside}
use Rattle.comparison.specs.Compare.{records_of, count_below, has_at, has_record, same_at, same}
use Rattle.comparison.specs.Matched.{matched}
use Rattle.comparison.specs.Tagged.{place_in}
use Rattle.comparison.proofs.Laws.Counts.{formed_most}
use Rattle.comparison.proofs.Laws.Held.{held_long, held_small, held_at}
use Rattle.comparison.proofs.Laws.Sums.{below_most, below_yes, below_no}
use Rattle.lists.proofs.Laws.Lists.{count_most}
use Rattle.comparison.proofs.Laws.Pairs.{Side, side_start, side_room, first_aside, second_aside, pair_taken, side_end}
use Rattle.matching.specs.declared.walking.Step.{Step}
use Rattle.matching.specs.declared.walking.Step.TheVariants.{Pair, First, Second}
use Rattle.matching.specs.Side.{HasIndex, StepAlong, Beside, Underway, Chosen, Walkable, SetAside}

-- ---- The record of an index.

module _ {s : List ℕ} {i : ℕ} (has-it : HasIndex s i) {b : ℕ} (said : b ≡ get_or s 0 0) where
  pub word_in : 4 + (width_said b).bytes * (i + 1) ≤ length s
  word_in = subst (λ (n : ℕ). 4 + (width_said n).bytes * (i + 1) ≤ length s) (sym said)
      (word_inside (width_of s).bytes (count_of s) i s has-it.inside (sheet_good (width_of s).bytes s has-it.formed).size)

  pub record_is : {r : ℕ} → r ≡ carried seven (width_said b) (bare (width_said b) (number_written (take (width_said b).bytes
      (drop (4 + (width_said b).bytes * i) s)))) → (r ≡ get_or (records_of s) i 0) × (r < 18014398509481984)
  record_is {r} e =
      let q : r ≡ get_or (records_of s) i 0 = e ∙ ap (λ (n : ℕ). carried seven (width_said n) (bare (width_said n) (number_written
      (take (width_said n).bytes (drop (4 + (width_said n).bytes * i) s))))) said ∙ held_at s i has-it.inside in
      let h = held_small s i in
      (q, omega arith)

pub first_byte : {s : List ℕ} {i : ℕ} → HasIndex s i → 0 < length s
first_byte {s} w = let l = (sheet_good (width_of s).bytes s w.formed).long in omega arith

pub place_turned : (t : Bool) (n j : ℕ) → j < n → t ≡ true → (n - (j + 1) ≡ place_in t n j) × (n - (j + 1) < n)
unfolding place_in
place_turned t n j h e = (rw e refl, omega arith)

pub place_straight : (t : Bool) (n j : ℕ) → j < n → t ≡ false → (j ≡ place_in t n j) × (j < n)
unfolding place_in
place_straight t n j h e = (rw e refl, h)

pub turned_within : {s : List ℕ} {n j k : ℕ} → StepAlong s n j → k < n → HasIndex s k
turned_within t h = let c = t.counts in record { formed = t.formed; inside = omega arith }

-- ---- At the same index.

module _ {s t : List ℕ} {n m : ℕ} (both : Beside s t n m) where
  pub few_first : n ≤ 1048576
  few_first = let c = both.ns in let h = formed_most s both.one in omega arith

  pub few_second : m ≤ 1048576
  few_second = let c = both.ms in let h = formed_most t both.two in omega arith

  pub some_first : 0 < n
  some_first = let c = both.ns in let h = (count_small (count_of s) (sheet_good (width_of s).bytes s both.one).count).0 in omega arith

  pub some_second : 0 < m
  some_second = let c = both.ms in let h = (count_small (count_of t) (sheet_good (width_of t).bytes t both.two).count).0 in
      omega arith

  pub within_first : {i : ℕ} → i < n → HasIndex s i
  within_first h = let c = both.ns in record { formed = both.one; inside = omega arith }

  pub within_second : {j : ℕ} → j < m → HasIndex t j
  within_second h = let c = both.ms in record { formed = both.two; inside = omega arith }

  pub turning_second : {j : ℕ} → j < m → StepAlong t m j
  turning_second h = record { formed = both.two; counts = both.ms; inside = h }

  long_first : length (records_of s) ≡ n
  long_first = held_long s ∙ sym both.ns

  long_second : length (records_of t) ≡ m
  long_second = held_long t ∙ sym both.ms

  pub same_there : {i x y : ℕ} → i < m → x ≡ get_or (records_of s) i 0 → y ≡ get_or (records_of t) i 0 → eqb x y ≡ same_at (records_of s)
      (records_of t) i
  unfolding same_at has_at
  same_there {i} {x} {y} h p q = let l = long_second in rw (p, q, lt-ltb i (length (records_of t)) (omega arith)) refl

  pub same_past : {i : ℕ} → m ≤ i → false ≡ same_at (records_of s) (records_of t) i
  unfolding same_at has_at
  same_past {i} h = let l = long_second in rw (le-ltb i (length (records_of t)) (omega arith)) refl

-- so many of the indices passed are the same
pub record Level (s t : List ℕ) (n k i : ℕ) : Type 0 where
  pub within : i ≤ n
  pub sum : k ≡ count_below i (same_at (records_of s) (records_of t))

pub level_start : (s t : List ℕ) (n : ℕ) → Level s t n 0 0
unfolding count_below
level_start s t n = record { within = omega arith; sum = refl }

module _ {s t : List ℕ} {n k i : ℕ} (go : Level s t n k i) where
  pub level_few : k ≤ i
  level_few = let e = below_most i (same_at (records_of s) (records_of t)) in let z = go.sum in omega arith

  pub level_yes : i < n → {b : Bool} → b ≡ same_at (records_of s) (records_of t) i → b ≡ true → Level s t n (k + 1) (i + 1)
  level_yes h is e = record {
    within = omega arith;
    sum = below_yes i (same_at (records_of s) (records_of t)) k go.sum (sym is ∙ e);
  }

  pub level_no : i < n → {b : Bool} → b ≡ same_at (records_of s) (records_of t) i → b ≡ false → Level s t n k (i + 1)
  level_no h is e = record {
    within = omega arith;
    sum = below_no i (same_at (records_of s) (records_of t)) k go.sum (sym is ∙ e);
  }

  pub level_end : {m : ℕ} → Beside s t n m → n ≤ i → k ≡ same (records_of s) (records_of t)
  level_end both h =
      let w = go.within in
      let l = long_first both in
      let e : i ≡ length (records_of s) = omega arith in
      go.sum ∙ ap (λ (j : ℕ). count_below j (same_at (records_of s) (records_of t))) e

-- ---- What a step may do.

module _ {s t : List ℕ} {n m : ℕ} (turned : Bool) (both : Beside s t n m) (i j : ℕ) where
  abbrev May : Step → Type 0
  May step = Chosen (records_of s) turned (records_of t) i j step

  place_same : place_in turned m j ≡ place_in turned (length (records_of t)) j
  place_same = ap (λ (k : ℕ). place_in turned k j) (sym (long_second both))

  pub step_first : i < n → May First
  unfolding Chosen
  step_first h = let l = long_first both in omega arith

  pub step_second : j < m → May Second
  unfolding Chosen
  step_second h = let l = long_second both in omega arith

  pub step_pair : {x y : ℕ} → i < n → j < m → x ≡ get_or (records_of s) i 0 → y ≡ get_or (records_of t) (place_in turned m j) 0 → x ≡ y → May Pair
  unfolding Chosen
  step_pair {x} {y} h k p q e =
      let l = long_first both in
      let r = long_second both in
      (omega arith, (omega arith, sym p ∙ e ∙ q ∙ ap (λ (k : ℕ). get_or (records_of t) k 0) place_same))

  module _ {step : Step} (may : May step) where
    as_pair : step ≡ Pair → (i < length (records_of s)) × ((j < length (records_of t)) × (get_or (records_of s) i 0 ≡ get_or (records_of t)
        (place_in turned (length (records_of t)) j) 0))
    unfolding Chosen
    as_pair e = subst May e may

    pub as_first : step ≡ First → i < n
    unfolding Chosen
    as_first e = let h : i < length (records_of s) = subst May e may in let l = long_first both in omega arith

    pub as_second : step ≡ Second → j < m
    unfolding Chosen
    as_second e = let h : j < length (records_of t) = subst May e may in let l = long_second both in omega arith

-- ---- The walk.

pub record Going (s t : List ℕ) (n m : ℕ) (turned : Bool) (room : ℕ) (work : List ℕ) (i j k pairs : ℕ) : Type 0 where
  pub beside : Beside s t n m
  pub long : length work ≡ room
  pub side : Side (records_of s) turned (records_of t) work i j k pairs

pub going_start : {s t work : List ℕ} {n m : ℕ} (turned : Bool) → Walkable s t n m (length work)
    → Going s t n m turned (length work) work 0 0 0 0
going_start {s} {t} {work} {n} {m} turned w =
    let both = w.beside in
    let l = long_first both in
    let r = long_second both in
    let f = w.fits in
    record { beside = both; long = refl; side = side_start (records_of s) turned (records_of t) work (omega arith) w.single }

module _ {s t : List ℕ} {n m : ℕ} {turned : Bool} {room : ℕ} {work : List ℕ} {i j k pairs : ℕ}
    (go : Going s t n m turned room work i j k pairs) where
  abbrev both : Beside s t n m
  both = go.beside

  pub going_first : i ≤ n
  going_first = let l = long_first both in let h = go.side.i_in_lem in omega arith

  pub going_second : j ≤ m
  going_second = let l = long_second both in let h = go.side.j_in_lem in omega arith

  pub going_few : k + (pairs + pairs) ≤ n + m
  going_few = let p = go.side.passed in let h = going_first in let g = going_second in omega arith

  pub going_on : i + j < n + m → Underway s t n m i j
  going_on h = record { beside = both; i_in_lem = going_first; j_in_lem = going_second; more = h }

  pub going_room : i + j < n + m → k < length work
  going_room h =
      let p = go.side.passed in
      let r = go.side.room in
      let l = long_first both in
      let q = long_second both in
      omega arith

  module _ {step : Step} (may : Chosen (records_of s) turned (records_of t) i j step) where
    pub going_pair : step ≡ Pair → Going s t n m turned room work (i + 1) (j + 1) k (pairs + 1)
    going_pair e = let h = as_pair turned both i j may e in record {
      beside = both;
      long = go.long;
      side = pair_taken (records_of s) turned (records_of t) go.side h.1.0 h.0 h.1.1;
    }

    pub going_one : {v : ℕ} → step ≡ First → v ≡ get_or (records_of s) i 0
        → Going s t n m turned room (set work k (v * 2)) (i + 1) j (k + 1) pairs
    going_one {v} e q =
        let l = long_first both in
        let h = as_first turned both i j may e in
        let z : v * 2 + 0 ≡ v * 2 = omega arith in
        record {
          beside = both;
          long = length-set work k (v * 2) ∙ go.long;
          side = subst (λ (x : ℕ). Side (records_of s) turned (records_of t) (set work k x) (i + 1) j (k + 1) pairs) z
              (first_aside (records_of s) turned (records_of t) go.side v (omega arith) q);
        }

    pub going_two : {v : ℕ} → step ≡ Second → v ≡ get_or (records_of t) (place_in turned m j) 0
        → Going s t n m turned room (set work k (v * 2 + 1)) i (j + 1) (k + 1) pairs
    going_two {v} e q =
        let l = long_second both in
        let h = as_second turned both i j may e in
        record {
          beside = both;
          long = length-set work k (v * 2 + 1) ∙ go.long;
          side = second_aside (records_of s) turned (records_of t) go.side (omega arith) v
              (q ∙ ap (λ (x : ℕ). get_or (records_of t) x 0) (place_same turned both i j));
        }

  pub going_end : n + m ≤ i + j → SetAside s t work pairs k
  going_end h =
      let l = long_first both in
      let q = long_second both in
      let f = going_first in
      let g = going_second in
      let r = side_room (records_of s) turned (records_of t) go.side in
      let o = go.side.room in
      record { inside = omega arith; sum = side_end (records_of s) turned (records_of t) go.side (omega arith) (omega arith) }

-- what they share: the pairs, and those set aside that match
pub shared : {s t after : List ℕ} {pairs aside r : ℕ} → SetAside s t after pairs aside → r ≡ matched (take aside after)
    → pairs + r ≡ count (has_record (records_of t)) (records_of s)
shared {s} {t} {after} {pairs} {aside} {r} apart e = let z = apart.sum in omega arith

pub shared_few : {s t after : List ℕ} {pairs aside r n m : ℕ} → Beside s t n m → SetAside s t after pairs aside
    → r ≡ matched (take aside after) → pairs + r ≤ n
shared_few {s} {t} {after} {pairs} {aside} {r} both apart e =
    let z = apart.sum in
    let l = long_first both in
    let f = count_most (has_record (records_of t)) (records_of s) in
    omega arith

pub walkable_by : {s t : List ℕ} {n m n' m' room : ℕ} → Walkable s t n m room → n' ≡ n → m' ≡ m → Walkable s t n' m' room
walkable_by w p q =
    let f = w.fits in
    let b = w.beside in
    record {
      beside = record { one = b.one; two = b.two; ns = p ∙ b.ns; ms = q ∙ b.ms };
      fits = omega arith;
      single = w.single;
    }
