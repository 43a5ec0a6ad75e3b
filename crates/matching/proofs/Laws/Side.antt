-- The walks side by side, as the code takes them. Assumes nothing.
use Rattle.std.specs.Prelude.{◌≡◌, Bool, false, List, ℕ, ◌+◌, ◌*◌, ◌≤◌, ◌<◌, eqb, min, set, take, drop}
use Rattle.std.proofs.Math.Path.{refl, sym, ap, subst}
use Rattle.std.proofs.Common.{◌∙◌, inl, inr, eq-eqb, ne_eqb, length-set}
use native.Mathlib.Omega.{arith}
use Rattle.std.proofs.Math.ListN.{length, get_or}
use borrow.Author.Tests.{lt-ltb, le-ltb}
use Rattle.lists.specs.Lists.{count, two_of}
use Rattle.records.specs.Width.{seven, width_said}
use Rattle.records.specs.Bytes.{number_written}
use Rattle.records.specs.Record.{carried}
use Rattle.records.specs.Sheet.{count_of, width_of, bare}
use Rattle.records.proofs.Laws.Sheet.{sheet_good, count_small}
use Rattle.records.proofs.Laws.Computed.{word_inside}
use Rattle.comparison.specs.Compare.{records_of, count_below, has_at, has_record, same_at, same}
use Rattle.comparison.specs.Matched.{matched}
use Rattle.comparison.specs.Tagged.{place_in}
use Rattle.comparison.proofs.Laws.Counts.{formed_most}
use Rattle.comparison.proofs.Laws.Held.{held_long, held_small, held_at}
use Rattle.comparison.proofs.Laws.Sums.{below_most, below_yes, below_no, below_past}
use Rattle.lists.proofs.Laws.Lists.{count_most}
use Rattle.lists.proofs.Laws.Numbers.{lt?}
use Rattle.comparison.proofs.Laws.Pairs.{Side, side_start, side_room, first_aside, second_aside, pair_taken, side_end}
use Rattle.matching.specs.declared.sheet.Sheet.{Sheet}
use Rattle.matching.specs.declared.walking.Step.{Step}
use Rattle.matching.specs.declared.walking.Step.TheVariants.{Pair, First, Second}
use Rattle.matching.specs.Side.{Chosen, SetAside}

-- ---- A sheet, and the record of an index.

abbrev listed : Sheet → List ℕ
listed s = records_of s.bytes.now

module _ (s : Sheet) where
  pub few : s.count ≤ 1048576
  few = let c = s.counts in let h = formed_most s.bytes.now s.formed in omega arith

  pub some : 0 < s.count
  some =
      let c = s.counts in
      let h = (count_small (count_of s.bytes.now) (sheet_good (width_of s.bytes.now).bytes s.bytes.now s.formed).count).0 in
      omega arith

  pub long : length (listed s) ≡ s.count
  long = held_long s.bytes.now ∙ sym s.counts

  pub first_byte : 0 < length s.bytes.now
  first_byte = let l = (sheet_good (width_of s.bytes.now).bytes s.bytes.now s.formed).long in omega arith

  module _ {i b : ℕ} (within : i < s.count) (said : b ≡ get_or s.bytes.now 0 0) where
    inside : i < count_of s.bytes.now
    inside = let c = s.counts in omega arith

    pub word_in : 4 + (width_said b).bytes * (i + 1) ≤ length s.bytes.now
    word_in = subst (λ (n : ℕ). 4 + (width_said n).bytes * (i + 1) ≤ length s.bytes.now) (sym said)
        (word_inside (width_of s.bytes.now).bytes (count_of s.bytes.now) i s.bytes.now inside
        (sheet_good (width_of s.bytes.now).bytes s.bytes.now s.formed).size)

    pub record_is : {r : ℕ} → r ≡ carried seven (width_said b) (bare (width_said b) (number_written (take (width_said b).bytes
        (drop (4 + (width_said b).bytes * i) s.bytes.now)))) → r ≡ get_or (listed s) i 0
    record_is e = e ∙ ap (λ (n : ℕ). carried seven (width_said n) (bare (width_said n) (number_written
        (take (width_said n).bytes (drop (4 + (width_said n).bytes * i) s.bytes.now))))) said ∙ held_at s.bytes.now i inside

pub record_small : (s : Sheet) (i : ℕ) {r : ℕ} → r ≡ get_or (listed s) i 0 → r < 18014398509481984
record_small s i e = let h = held_small s.bytes.now i in omega arith

-- ---- At the same index.

module _ (s t : Sheet) where
  abbrev pub Level : ℕ → ℕ → Type 0
  Level k i = k ≡ count_below i (same_at (listed s) (listed t))

  pub level_start : Level 0 0
  unfolding count_below
  level_start = refl

  pub level_few : {k i : ℕ} → Level k i → k ≤ i
  level_few {k} {i} e = let f = below_most i (same_at (listed s) (listed t)) in omega arith

  module _ {i x y : ℕ} (within : i < t.count) (p : x ≡ get_or (listed s) i 0) (q : y ≡ get_or (listed t) i 0) where
    here : same_at (listed s) (listed t) i ≡ eqb x y
    unfolding same_at has_at
    here = let l = long t in rw (p, q, lt-ltb i (length (listed t)) (omega arith)) refl

    pub level_yes : {k : ℕ} → Level k i → x ≡ y → Level (k + 1) (i + 1)
    level_yes {k} e h = below_yes i _ k e (here ∙ eq-eqb x y h)

    pub level_no : {k : ℕ} → Level k i → (x ≡ y → ⊥) → Level k (i + 1)
    level_no {k} e h = below_no i _ k e (here ∙ ne_eqb x y h)

  past : (i : ℕ) → t.count ≤ i → same_at (listed s) (listed t) i ≡ false
  unfolding same_at has_at
  past i h = let l = long t in rw (le-ltb i (length (listed t)) (omega arith)) refl

  pub level_end : {k n : ℕ} → n ≡ min s.count t.count → Level k n → k ≡ same (listed s) (listed t)
  level_end {k} {n} is e =
      let p = same_at (listed s) (listed t) in
      elim (lt? t.count s.count) [
        | inl more ↦ let z : n ≡ t.count = omega arith in e ∙ ap (λ (j : ℕ). count_below j p) z
            ∙ sym (below_past t.count s.count p past (omega arith)) ∙ ap (λ (j : ℕ). count_below j p) (sym (long s))
        | inr few ↦ let z : n ≡ s.count = omega arith in e ∙ ap (λ (j : ℕ). count_below j p) (z ∙ sym (long s))
      ]

-- ---- What a step may do.

module _ (s t : Sheet) (turned : Bool) (i j : ℕ) where
  abbrev May : Step → Type 0
  May step = Chosen (listed s) turned (listed t) i j step

  place_same : place_in turned t.count j ≡ place_in turned (length (listed t)) j
  place_same = ap (λ (k : ℕ). place_in turned k j) (sym (long t))

  pub step_first : i < s.count → May First
  unfolding Chosen
  step_first h = let l = long s in omega arith

  pub step_second : j < t.count → May Second
  unfolding Chosen
  step_second h = let l = long t in omega arith

  pub step_pair : {x y : ℕ} → i < s.count → j < t.count → x ≡ get_or (listed s) i 0
      → y ≡ get_or (listed t) (place_in turned t.count j) 0 → x ≡ y → May Pair
  unfolding Chosen
  step_pair {x} {y} h k p q e =
      let l = long s in
      let r = long t in
      (omega arith, (omega arith, sym p ∙ e ∙ q ∙ ap (λ (k : ℕ). get_or (listed t) k 0) place_same))

  pub as_first : May First → i < s.count
  unfolding Chosen
  as_first h = let l = long s in omega arith

  pub as_second : May Second → j < t.count
  unfolding Chosen
  as_second h = let l = long t in omega arith

-- ---- The walk.

pub record Going (s t : Sheet) (turned : Bool) (room : ℕ) (work : List ℕ) (i j k pairs : ℕ) : Type 0 where
  pub long : length work ≡ room
  pub side : Side (listed s) turned (listed t) work i j k pairs

pub going_start : (s t : Sheet) (turned : Bool) {work : List ℕ} → s.count + t.count ≤ length work
    → two_of eqb (listed s) ≡ false → Going s t turned (length work) work 0 0 0 0
going_start s t turned {work} fits single =
    let l = long s in
    let r = long t in
    record {
      long = refl;
      side = side_start (listed s) turned (listed t) work (omega arith) single;
    }

module _ {s t : Sheet} {turned : Bool} {room : ℕ} {work : List ℕ} {i j k pairs : ℕ}
    (go : Going s t turned room work i j k pairs) where
  pub going_first : i ≤ s.count
  going_first = let l = long s in let h = go.side.i_in_lem in omega arith

  pub going_second : j ≤ t.count
  going_second = let l = long t in let h = go.side.j_in_lem in omega arith

  pub going_pair : May s t turned i j Pair → Going s t turned room work (i + 1) (j + 1) k (pairs + 1)
  unfolding Chosen
  going_pair may = record {
    long = go.long;
    side = pair_taken (listed s) turned (listed t) go.side may.1.0 may.0 may.1.1;
  }

  pub going_one : May s t turned i j First → {v : ℕ} → v ≡ get_or (listed s) i 0
      → Going s t turned room (set work k (v * 2)) (i + 1) j (k + 1) pairs
  unfolding Chosen
  going_one may {v} q =
      let z : v * 2 + 0 ≡ v * 2 = omega arith in
      record {
        long = length-set work k (v * 2) ∙ go.long;
        side = subst (λ (x : ℕ). Side (listed s) turned (listed t) (set work k x) (i + 1) j (k + 1) pairs) z
            (first_aside (listed s) turned (listed t) go.side v may q);
      }

  pub going_two : May s t turned i j Second → {v : ℕ} → v ≡ get_or (listed t) (place_in turned t.count j) 0
      → Going s t turned room (set work k (v * 2 + 1)) i (j + 1) (k + 1) pairs
  unfolding Chosen
  going_two may {v} q = record {
    long = length-set work k (v * 2 + 1) ∙ go.long;
    side = second_aside (listed s) turned (listed t) go.side may v
        (q ∙ ap (λ (x : ℕ). get_or (listed t) x 0) (place_same s t turned i j));
  }

  pub going_end : s.count + t.count ≤ i + j → SetAside s.bytes.now t.bytes.now work pairs k
  going_end h =
      let l = long s in
      let q = long t in
      let f = going_first in
      let g = going_second in
      let r = side_room (listed s) turned (listed t) go.side in
      let o = go.side.room in
      record { inside = omega arith; sum = side_end (listed s) turned (listed t) go.side (omega arith) (omega arith) }

-- what they share: the pairs, and those set aside that match
module _ (s t : Sheet) {u v : Sheet} (p : u ≡ s) (q : v ≡ t) {after : List ℕ} {pairs aside r : ℕ}
    (apart : SetAside u.bytes.now v.bytes.now after pairs aside) (e : r ≡ matched (take aside after)) where
  pub shared : pairs + r ≡ count (has_record (listed t)) (listed s)
  shared =
      let z = apart.sum in
      let w : pairs + r ≡ count (has_record (listed v)) (listed u) = omega arith in
      w ∙ ap (λ (x : Sheet). count (has_record (listed x)) (listed u)) q
      ∙ ap (λ (x : Sheet). count (has_record (listed t)) (listed x)) p

  pub shared_few : pairs + r ≤ 1048576
  shared_few =
      let z = shared in
      let l = long s in
      let f = count_most (has_record (listed t)) (listed s) in
      let g = few s in
      omega arith
