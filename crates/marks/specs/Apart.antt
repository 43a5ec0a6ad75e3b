-- THINGS WHOSE PLACES WERE ALL NEW WHEN THEY WERE MARKED ARE APART: the law by which condition 14 is decided in one reading. `place` is
-- any function that gives equal things equal places; nothing more is asked of it.
use Rattle.std.specs.Prelude.{◌≡◌, List, [], ◌∷◌, ◌++◌, Bool, true, false, ℕ}
use Rattle.lists.specs.Lists.{two_of}
use Rattle.marks.specs.Marks.{marked, Stay}

-- none of them is marked yet
pub data Fresh {A : Type 0} (place : A → ℕ) (work : List ℕ) : List A → Type 0 where
  none_marked : Fresh place work []
  one_unmarked : {a : A} {l : List A} → marked work (place a) ≡ 0 → Fresh place work l → Fresh place work (a ∷ l)

-- no two of them are the same, and none is marked yet
pub record Apart {A : Type 0} (same : A → A → Bool) (place : A → ℕ) (work : List ℕ) (l : List A) : Type 0 where
  pub no_two : two_of same l ≡ false
  pub fresh : Fresh place work l

-- ---- List after list.

-- All are marked but those that are left: where all places so far were new, all are apart if those left are.
pub record Marking {A : Type 0} (same : A → A → Bool) (place : A → ℕ) (all left : List A) (new : Bool) (before now : List ℕ) :
    Type 0 where
  pub kept : Stay before now
  pub so_far : new ≡ true → (rest : List A) → Apart same place now (left ++ rest) → Apart same place before (all ++ rest)
