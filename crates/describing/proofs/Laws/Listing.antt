-- Whether a map lists a dimension, by how often it is counted.
use Rattle.std.specs.Prelude.{◌≡◌, refl, List, true, false, ℕ, min, eqb}
use Rattle.std.proofs.Common.{arith, eq-eqb}
use Rattle.lists.specs.Lists.{any, count}
use Rattle.lists.proofs.Laws.Lists.{none_counted}
use Rattle.maps.proofs.Laws.Listed.{any_some}

module _ (d : ℕ) (l : List ℕ) {c : ℕ} (p : c ≡ min 2 (count (eqb d) l)) where
  pub counted_some : (c ≡ 0 → ⊥) → count (eqb d) l ≡ 0 → ⊥
  counted_some n z = n (omega arith)

  pub listed_some : (c ≡ 0 → ⊥) → any (eqb d) l ≡ true
  listed_some n = any_some (eqb d) d l (eq-eqb d d refl) (counted_some n)

  pub listed_none : c ≡ 0 → any (eqb d) l ≡ false
  listed_none z = none_counted (eqb d) l (omega arith)

pub counted_none : (d : ℕ) (l : List ℕ) → count (eqb d) l ≡ 0 → any (eqb d) l ≡ false
counted_none d l h = none_counted (eqb d) l h
