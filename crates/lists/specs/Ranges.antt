-- RANGES OF INDICES: each begins at an offset and has a size. They tile where every index below the sum of the sizes lies in exactly one
-- of them; then none reaches past the sum.
-- A CHAIN DECIDES IT: from 0, go to the range that begins where the last one ended. The ranges tile if and only if that comes out at the
-- sum.
use Rattle.std.specs.Prelude.{◌≡◌, Bool, ◌&&◌, eqb, Option, Some, None}
use mathlib.Core.List.{List, [], ◌∷◌}
use Rattle.std.proofs.Math.Bool.{cond}
use Prim.Native.Nat.{ℕ, ◌+◌, ◌<◌}
use Rattle.std.proofs.Math.Dec.{leb, ltb}
use Rattle.lists.specs.Lists.{count, total, all_below}

-- ---- Things that each have a range.

module _ {A : Type 0} (offset size : A → ℕ) where
  -- the index lies in the range
  unfoldable pub holds : ℕ → A → Bool
  holds n a = leb (offset a) n && ltb n (offset a + size a)

  -- every index below n lies in exactly one range
  abbrev pub OnceBelow : List A → ℕ → Type 0
  OnceBelow l n = (i : ℕ) → i < n → count (holds i) l ≡ 1

-- ---- Ranges, and the chain.

pub record Range : Type 0 where
  pub offset : ℕ
  pub size : ℕ

abbrev pub in_range : ℕ → Range → Bool
in_range = holds (λ (r : Range). r.offset) (λ (r : Range). r.size)

-- how many indices they hold
unfoldable pub sum_of : List Range → ℕ
sum_of l = total (λ r. r.size) l

-- every index below the sum lies in exactly one range
unfoldable pub tiling : List Range → Bool
tiling l = all_below (sum_of l) (λ n. eqb (count (in_range n) l) 1)

-- the first range that begins at the index
unfoldable pub begins_at : ℕ → List Range → Option Range
begins_at c [] = None
begins_at c (r ∷ l) = cond (eqb r.offset c) (Some r) (begins_at c l)

-- an end of the chain
pub data Chain (l : List Range) : ℕ → Type 0 where
  start : Chain l 0
  on : {c : ℕ} {r : Range} → Chain l c → begins_at c l ≡ Some r → Chain l (c + r.size)
