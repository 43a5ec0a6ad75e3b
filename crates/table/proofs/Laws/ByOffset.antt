-- BY OFFSET: the same models, each of which begins no later than those behind it.
use Rattle.std.specs.Prelude.{◌≡◌, refl, List, [], ◌∷◌, Bool, true, false, cond, ◌&&◌, ℕ, ◌≤◌, leb}
use Rattle.std.proofs.Common.{sym, ◌∙◌, arith, leb-true, leb-false, le-leb}
use Rattle.lists.specs.Lists.{all}
use Rattle.lists.specs.Permuted.{Permuted, none, same, swap, then}
use Rattle.lists.proofs.Laws.Permuted.{permuted_refl, all_permuted}
use Rattle.lists.proofs.Laws.Booleans.{and_left, and_right, and_both}
use Rattle.cifti.specs.Maps.{Model}
use Rattle.table.specs.ByOffset.{no_later, placed_by_offset, by_offset}

placed_permuted : (m : Model) (l : List Model) → Permuted (m ∷ l) (placed_by_offset m l)
unfolding placed_by_offset
placed_permuted m [] = permuted_refl _
placed_permuted m (n ∷ l) = go (no_later m n) (placed_permuted m l)
  where
    go : (b : Bool) → Permuted (m ∷ l) (placed_by_offset m l) → Permuted (m ∷ n ∷ l) (cond b (m ∷ n ∷ l) (n ∷ placed_by_offset m l))
    go true h = permuted_refl _
    go false h = then swap (same h)

pub offset_permuted : (l : List Model) → Permuted l (by_offset l)
unfolding by_offset
offset_permuted [] = none
offset_permuted (m ∷ l) = then (same (offset_permuted l)) (placed_permuted m (by_offset l))

-- ---- In order.

unfoldable pub from : ℕ → Model → Bool
from at m = leb at m.offset

unfoldable pub in_order : List Model → Bool
in_order [] = true
in_order (m ∷ l) = all (from m.offset) l && in_order l

from_less : (a b : ℕ) → a ≤ b → (l : List Model) → all (from b) l ≡ true → all (from a) l ≡ true
unfolding all from
from_less a b u [] h = refl
from_less a b u (m ∷ l) h =
    let v = leb-true b m.offset (and_left (leb b m.offset) _ h) in
    and_both (le-leb a m.offset (omega arith)) (from_less a b u l (and_right (leb b m.offset) _ h))

placed_order : (m : Model) (l : List Model) → in_order l ≡ true → in_order (placed_by_offset m l) ≡ true
unfolding placed_by_offset no_later in_order all from
placed_order m [] h = refl
placed_order m (n ∷ l) h = go (no_later m n) refl (placed_order m l rest)
  where
    behind : all (from n.offset) l ≡ true
    behind = and_left (all (from n.offset) l) (in_order l) h

    rest : in_order l ≡ true
    rest = and_right (all (from n.offset) l) (in_order l) h

    go : (b : Bool) → no_later m n ≡ b → in_order (placed_by_offset m l) ≡ true
        → in_order (cond b (m ∷ n ∷ l) (n ∷ placed_by_offset m l)) ≡ true
    go true e f = and_both (and_both e (from_less m.offset n.offset (leb-true m.offset n.offset e) l behind)) h
    go false e f =
        let u = leb-false m.offset n.offset e in
        let a : all (from n.offset) (m ∷ l) ≡ true = and_both (le-leb n.offset m.offset (omega arith)) behind in
        and_both (sym (all_permuted (from n.offset) (placed_permuted m l)) ∙ a) f

pub offset_order : (l : List Model) → in_order (by_offset l) ≡ true
unfolding by_offset in_order
offset_order [] = refl
offset_order (m ∷ l) = placed_order m (by_offset l) (offset_order l)
