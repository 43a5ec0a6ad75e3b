-- TWO SHEETS SIDE BY SIDE: how many locations are at the same index in both, moved, in the first only and in the second only; and the part
-- of the longer sheet that the shorter has no place for. Assumes nothing.
use Rattle.std.specs.Prelude.{◌≡◌, List, [], ◌∷◌, Bool, cond, not, ◌&&◌, ◌||◌, ℕ, zero, suc, ◌+◌, ◌*◌, eqb, ltb, length, get_or, drop, replicate}
use Rattle.lists.specs.Lists.{any, two_of}
use Rattle.lists.specs.Refusals.{◌when◌, first}
use Rattle.records.specs.Width.{seven}
use Rattle.records.specs.Outcome.{unless}
use Rattle.records.specs.Sheet.{count_of, words_in, all_good, good_sheet, width_of, held_in}
use Rattle.comparison.specs.declared.Compared.{Compared}
use Rattle.comparison.specs.declared.TailPlace.{TailPlace}

-- how many numbers below n pass
unfoldable pub count_below : ℕ → (ℕ → Bool) → ℕ
count_below zero p = 0
count_below (suc n) p = cond (p n) 1 0 + count_below n p

-- The locations of a sheet, as records of 54 bits: type, structure and numbers together. `held_same` says that equal records are equal
-- locations, whatever the widths.
abbrev pub records_of : List ℕ → List ℕ
records_of s = held_in seven (width_of s) s

-- b has x at the index i; b has x
unfoldable pub has_at : List ℕ → ℕ → ℕ → Bool
has_at b i x = ltb i (length b) && eqb x (get_or b i 0)

unfoldable pub has_record : List ℕ → ℕ → Bool
has_record b x = any (eqb x) b

-- what is said of the index i of a: b has its location there; b has it, but not there; b does not have it
unfoldable pub same_at : List ℕ → List ℕ → ℕ → Bool
same_at a b i = has_at b i (get_or a i 0)

unfoldable pub moved_at : List ℕ → List ℕ → ℕ → Bool
moved_at a b i = not (same_at a b i) && has_record b (get_or a i 0)

unfoldable pub only_at : List ℕ → List ℕ → ℕ → Bool
only_at a b i = not (has_record b (get_or a i 0))

-- over the indices of the first; and over those of the second
abbrev pub same : List ℕ → List ℕ → ℕ
same a b = count_below (length a) (same_at a b)

abbrev pub moved : List ℕ → List ℕ → ℕ
moved a b = count_below (length a) (moved_at a b)

abbrev pub first_only : List ℕ → List ℕ → ℕ
first_only a b = count_below (length a) (only_at a b)

abbrev pub second_only : List ℕ → List ℕ → ℕ
second_only a b = count_below (length b) (only_at b a)

-- a sheet of the layout that it says, and its words
abbrev pub well_formed : List ℕ → Bool
well_formed s = good_sheet (width_of s).bytes s

abbrev pub well_filled : List ℕ → Bool
well_filled s = all_good (width_of s) (words_in (width_of s).bytes s)

-- the paper's number, for a work space of so many places
unfoldable pub compare_refusal : List ℕ → List ℕ → ℕ → ℕ
compare_refusal s t room =
    first
    (15 when not (well_formed s)
    ∷ 16 when not (well_filled s)
    ∷ 15 when not (well_formed t)
    ∷ 16 when not (well_filled t)
    ∷ 13 when ltb room (count_of s + count_of t)
    ∷ 14 when (two_of eqb (records_of s) || two_of eqb (records_of t))
    ∷ [])

unfoldable pub compared : (number : ℕ) → List ℕ → List ℕ → Compared
compared n a b = record {
  number = n;
  same = unless n (same a b) 0;
  moved = unless n (moved a b) 0;
  first = unless n (first_only a b) 0;
  second = unless n (second_only a b) 0;
}

-- what `compare` promises: `before` and `after` are the work space
pub record Compares (s t before : List ℕ) (answer : Compared) (after : List ℕ) : Type 0 where
  pub answers : answer ≡ compared (compare_refusal s t (length before)) (records_of s) (records_of t)
  pub zero : after ≡ replicate (length before) 0

-- where the record of the index n begins, and the bytes of a sheet behind its first n records
abbrev pub record_place : ℕ → List ℕ → ℕ
record_place n s = 4 + (width_of s).bytes * n

unfoldable pub behind_records : ℕ → List ℕ → List ℕ
behind_records n s = drop (record_place n s) s

-- of the sheet with more records, those that the other has no place for; of equal counts nothing, of the first
unfoldable pub tail_of : List ℕ → List ℕ → List ℕ
tail_of s t = cond (ltb (count_of s) (count_of t)) (behind_records (count_of s) t) (behind_records (count_of t) s)

-- which sheet that is, 0 or 1, where the part starts there, and how long it is
unfoldable pub placed : (number : ℕ) → List ℕ → List ℕ → TailPlace
placed n s t = record {
  number = n;
  sheet = unless n (cond (ltb (count_of s) (count_of t)) 1 0) 0;
  start = unless n (cond (ltb (count_of s) (count_of t)) (record_place (count_of s) t) (record_place (count_of t) s)) 0;
  length = unless n (length (tail_of s t)) 0;
}

-- what `tail_place` promises
pub record TailPlaced (s t before : List ℕ) (answer : TailPlace) (after : List ℕ) : Type 0 where
  pub answers : answer ≡ placed (compare_refusal s t (length before)) s t
  pub zero : after ≡ replicate (length before) 0

-- what `tail` promises
pub record Tails (s t before part after : List ℕ) : Type 0 where
  pub answers : part ≡ unless (compare_refusal s t (length before)) (tail_of s t) []
  pub zero : after ≡ replicate (length before) 0

-- opens every definition above
unfoldable pub compare_words : Unit {0}
unfolding count_below has_at has_record same_at moved_at only_at compare_refusal compared behind_records tail_of placed
compare_words = tt
