-- What is proved of Listed.
use Rattle.std.specs.Prelude.{◌≡◌, refl, List, [], ◌∷◌, cond, ◌||◌, ltb}
use Rattle.std.proofs.Common.{sym, ap, ◌∙◌, arith}
use Rattle.std.proofs.Math.Bool.{Bool, true, false, not}
use Prim.Native.Nat.{ℕ, ◌+◌, ◌-◌, ◌≤◌, ◌<◌, min}
use Rattle.std.proofs.Math.Decide.{dec_lt}
use Rattle.std.proofs.Math.Dec.{eqb}
use Rattle.std.proofs.Math.ListN.{length}
use borrow.Author.Tests.{eqb-true, eq-eqb, lt-ltb, le-ltb}
use Rattle.lists.proofs.Laws.Booleans.{or_true}
use Rattle.lists.specs.Lists.{any, count, all_below}
use Rattle.lists.proofs.Laws.Quantifiers.{all_below_iff}
use Rattle.cifti.specs.Maps.{Map}
use Rattle.cifti.specs.Conditions.{listed_dimensions, dimensions_wrong}
use Rattle.maps.proofs.Laws.Dimensions.{Small, no_small, one_small}
use Rattle.maps.specs.Listed.{wanted}

-- ---- any and count

-- some listed number passes: it is one that is counted
pub any_some : (p : ℕ → Bool) (d : ℕ) (l : List ℕ) → p d ≡ true → (count (eqb d) l ≡ 0 → ⊥) → any p l ≡ true
unfolding any count
any_some p d [] h k = absurd (k refl)
any_some p d (e ∷ l) h k = go (eqb d e) refl (p e) refl k (any_some p d l h)
  where
    go : (b : Bool) → eqb d e ≡ b → (t : Bool) → p e ≡ t → (cond b 1 0 + count (eqb d) l ≡ 0 → ⊥)
        → ((count (eqb d) l ≡ 0 → ⊥) → any p l ≡ true) → (t || any p l) ≡ true
    go true q t r k ih = let z : d ≡ e = eqb-true d e q in let y : t ≡ true = sym r ∙ ap p (sym z) ∙ h in rw y
    go false q t r k ih = rw (ih (λ z. k (omega arith))) (or_true t)

-- no number that is counted passes
pub any_none : (p : ℕ → Bool) (l : List ℕ) → Small l → ((d : ℕ) → d < 10 → (count (eqb d) l ≡ 0 → ⊥) → p d ≡ false) → any p l ≡ false
unfolding any count
any_none p [] no_small f = refl
any_none p (e ∷ l) (one_small u s) f =
    let here : p e ≡ false = f e u (λ z. let y : eqb e e ≡ true = eq-eqb e e refl in
    (let w : 1 + count (eqb e) l ≡ 0 = rw y at z in omega arith)) in
    let rest : any p l ≡ false = any_none p l s (λ d v k. f d v (λ z. k (omega arith))) in
    rw (here, rest)

-- ---- Condition 8.

module _ (lengths : List ℕ) (l : List Map) (small : Small (listed_dimensions l)) where
  -- a digit is not listed as often as it should be
  pub wrong_at : (d : ℕ) → d < 10 → (min 2 (count (eqb d) (listed_dimensions l)) ≡ wanted (length lengths) d → ⊥)
      → dimensions_wrong lengths l ≡ true
  unfolding dimensions_wrong wanted
  wrong_at d u k = go (dec_lt d (length lengths))
    where
      once : ℕ → Bool
      once e = eqb (count (eqb e) (listed_dimensions l)) 1

      all_once : all_below (length lengths) once ≡ true → d < length lengths → ⊥
      all_once h v =
          let e = eqb-true (count (eqb d) (listed_dimensions l)) 1 ((all_below_iff (length lengths) once).0 h d v) in
          k (rw (lt-ltb d (length lengths) v) (omega arith))

      go : Dec (d < length lengths) → (not (all_below (length lengths) once)
          || any (λ e. not (ltb e (length lengths))) (listed_dimensions l)) ≡ true
      go (yes v) = by (all_below (length lengths) once) refl
        where
          by : (b : Bool) → all_below (length lengths) once ≡ b
              → (not b || any (λ e. not (ltb e (length lengths))) (listed_dimensions l)) ≡ true
          by true e = absurd (all_once e v)
          by false e = refl
      go (no v) =
          let past : not (ltb d (length lengths)) ≡ true = rw (le-ltb d (length lengths) (omega arith)) in
          let some : any (λ e. not (ltb e (length lengths))) (listed_dimensions l) ≡ true =
          any_some (λ e. not (ltb e (length lengths))) d (listed_dimensions l) past
          (λ z. k (rw (le-ltb d (length lengths) (omega arith)) (omega arith))) in
          rw some (or_true (not (all_below (length lengths) once)))

  -- every digit is
  pub right_all : length lengths ≤ 10 → ((d : ℕ) → d < 10 → min 2 (count (eqb d) (listed_dimensions l)) ≡ wanted (length lengths) d)
      → dimensions_wrong lengths l ≡ false
  unfolding dimensions_wrong wanted
  right_all fits f =
      let once : all_below (length lengths) (λ d. eqb (count (eqb d) (listed_dimensions l)) 1) ≡ true =
      (all_below_iff (length lengths) (λ d. eqb (count (eqb d) (listed_dimensions l)) 1)).1 (λ d u.
      let e = rw (lt-ltb d (length lengths) u) at (f d (omega arith)) in eq-eqb (count (eqb d) (listed_dimensions l)) 1 (omega arith)) in
      let none : any (λ d. not (ltb d (length lengths))) (listed_dimensions l) ≡ false =
      any_none (λ d. not (ltb d (length lengths))) (listed_dimensions l) small (λ d u k. by d u k (dec_lt d (length lengths))) in
      rw (once, none)
    where
      by : (d : ℕ) → d < 10 → (count (eqb d) (listed_dimensions l) ≡ 0 → ⊥) → Dec (d < length lengths) → not (ltb d (length lengths)) ≡ false
      by d u k (yes v) = rw (lt-ltb d (length lengths) v)
      by d u k (no v) = absurd (k (let e = rw (le-ltb d (length lengths) (omega arith)) at (f d u) in omega arith))
