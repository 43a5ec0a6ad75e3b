-- FILLING BY RANGES: the numbers of each range are written at its offset, one range after the other. Where every index lies in exactly one
-- range, that is the table by index.
use Rattle.std.specs.Prelude.{◌≡◌, cond, take, drop}
use mathlib.Core.List.{List, [], ◌∷◌, ◌++◌}
use Prim.Native.Nat.{ℕ, ◌+◌, ◌-◌, ◌≤◌}
use Rattle.std.proofs.Math.ListN.{length, get_or}
use Rattle.lists.specs.Ranges.{holds}

-- a list written over another from a place
abbrev pub wrote : ℕ → List ℕ → List ℕ → List ℕ
wrote at vs s = take at s ++ vs ++ drop (at + length vs) s

-- ---- The ranges, one after the other.

module _ {A : Type 0} (offset size : A → ℕ) (f : A → List ℕ) where
  -- what a loop does: range after range, each at its offset
  unfoldable pub filled : ℕ → List A → List ℕ → List ℕ
  filled start [] s = s
  filled start (m ∷ l) s = filled start l (wrote (start + offset m) (f m) s)

  -- what stands at an index: the entry of the first whose range the index is in
  unfoldable pub entry_at : List A → ℕ → ℕ
  entry_at [] n = 0
  entry_at (m ∷ l) n = cond (holds offset size n m) (get_or (f m) (n - offset m) 0) (entry_at l n)

  -- each has as many numbers as its range holds indices, and stays below the whole
  pub data Fitting (whole : ℕ) : List A → Type 0 where
    none_fits : Fitting whole []
    one_fits : {m : A} {l : List A} → length (f m) ≡ size m → offset m + size m ≤ whole → Fitting whole l → Fitting whole (m ∷ l)
