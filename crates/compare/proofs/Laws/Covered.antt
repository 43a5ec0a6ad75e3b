-- A LIST COVERED: where as many records of a list without repeats are in another as the other has, the other has no repeats either.
-- Assumes nothing.
use Rattle.std.specs.Prelude.{◌≡◌, Bool, cond, not, ◌&&◌, ◌||◌, length}
use Rattle.std.proofs.Math.Path.{refl}
use Rattle.std.proofs.Common.{sym, ap, ◌∙◌, arith, eqb-true, eq-eqb}
use Rattle.std.proofs.Math.Bool.{true, false}
use mathlib.Core.List.{List, [], ◌∷◌}
use Prim.Native.Nat.{ℕ, suc, ◌+◌, ◌≤◌}
use Rattle.std.proofs.Math.Dec.{eqb}
use Rattle.lists.specs.Lists.{any, count, two_of}
use Rattle.lists.proofs.Laws.Lists.{count_same}
use Rattle.comparison.specs.Compare.{has_record}
use Rattle.comparison.proofs.Laws.Sums.{once, nothing}

-- one more record, that the list has already, or that it has not
again : (y : ℕ) (b : List ℕ) → has_record b y ≡ true → (x : ℕ) → has_record (y ∷ b) x ≡ has_record b x
unfolding has_record any
again y b h x = by (eqb x y) refl
  where
    by : (t : Bool) → eqb x y ≡ t → (eqb x y || any (eqb x) b) ≡ any (eqb x) b
    by true e = rw e (sym (ap (λ (n : ℕ). any (eqb n) b) (eqb-true x y e) ∙ h))
    by false e = rw e refl

at_most_one : (t : Bool) → cond {A = ℕ} t 1 0 ≤ 1
at_most_one true = omega arith
at_most_one false = omega arith

either_few : (y : ℕ) (b a : List ℕ) → count (has_record (y ∷ b)) a ≤ count (eqb y) a + count (has_record b) a
unfolding has_record any count
either_few y b [] = omega arith
either_few y b (x ∷ a) = by (eqb x y) refl (any (eqb x) b) refl (either_few y b a)
  where
    by : (t : Bool) → eqb x y ≡ t → (u : Bool) → any (eqb x) b ≡ u → count (has_record (y ∷ b)) a ≤ count (eqb y) a + count (has_record b) a
        → cond {A = ℕ} (eqb x y || any (eqb x) b) 1 0 + count (has_record (y ∷ b)) a
        ≤ cond (eqb y x) 1 0 + count (eqb y) a + (cond (any (eqb x) b) 1 0 + count (has_record b) a)
    by true e u f h =
        let z : cond {A = ℕ} (eqb y x) 1 0 ≡ 1 = rw (eq-eqb y x (sym (eqb-true x y e))) refl in
        rw e (omega arith)
    by false e true f h = rw (e, f) (omega arith)
    by false e false f h = rw (e, f) (omega arith)

module _ (a : List ℕ) (onceOnly : two_of eqb a ≡ false) where
  seen : (y : ℕ) → count (eqb y) a ≤ 1
  seen y = let e = once y a onceOnly in let f = at_most_one (has_record a y) in omega arith

  few : (b : List ℕ) → count (has_record b) a ≤ length b
  few [] = let e = nothing a in omega arith
  few (y ∷ b) = by (has_record b y) refl (few b)
    where
      by : (t : Bool) → has_record b y ≡ t → count (has_record b) a ≤ length b → count (has_record (y ∷ b)) a ≤ suc (length b)
      by true e h = let c : count (has_record (y ∷ b)) a ≡ count (has_record b) a = count_same (again y b e) a in omega arith
      by false e h = let c = either_few y b a in let s = seen y in omega arith

  pub covered : (b : List ℕ) → length b ≤ count (has_record b) a → two_of eqb b ≡ false
  unfolding two_of has_record
  covered [] h = refl
  covered (y ∷ b) h = by (has_record b y) refl h (covered b)
    where
      by : (t : Bool) → has_record b y ≡ t → suc (length b) ≤ count (has_record (y ∷ b)) a
          → (length b ≤ count (has_record b) a → two_of eqb b ≡ false)
          → (any (eqb y) b || two_of eqb b) ≡ false
      by true e k f = absurd (
          let c : count (has_record (y ∷ b)) a ≡ count (has_record b) a = count_same (again y b e) a in
          let g = few b in
          omega arith)
      by false e k f =
          let c = either_few y b a in
          let s = seen y in
          rw e (f (omega arith))

  -- so a test that is left out there answers the same
  pub left_out : (b : List ℕ) {m both : ℕ} → m ≡ length b → both ≡ count (has_record b) a → (not (eqb both m) && two_of eqb b) ≡ two_of eqb b
  left_out b {m} {both} ms is = by (eqb both m) refl
    where
      by : (t : Bool) → eqb both m ≡ t → (not (eqb both m) && two_of eqb b) ≡ two_of eqb b
      by true e = let q = eqb-true both m e in rw (e, covered b (omega arith)) refl
      by false e = rw e refl
