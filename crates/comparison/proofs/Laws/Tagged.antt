-- Of two lists of records with a bit for each list, as many even numbers have their successor as records of the one are in the other.
-- Assumes nothing.
use Rattle.std.specs.Prelude.{◌≡◌, Bool, false, ◌||◌, ℕ, ◌+◌, ◌%◌, leb}
use Rattle.std.proofs.Math.Path.{refl, ap}
use Rattle.std.proofs.Common.{◌∙◌}
use Rattle.std.proofs.Math.Bool.{true, cond}
use mathlib.Core.List.{List, [], ◌∷◌, ◌++◌, map}
use native.Mathlib.Omega.{arith}
use Rattle.std.proofs.Math.Dec.{eqb}
use borrow.Author.Tests.{eqb-true, eqb-false, eq-eqb, ne_eqb, le-leb}
use Rattle.lists.specs.Lists.{any, count}
use Rattle.lists.proofs.Laws.Lists.{count_append}
use Rattle.lists.specs.Reordered.{member}
use Rattle.comparison.specs.Matched.{paired, matched}
use Rattle.comparison.specs.Tagged.{tagged}
use Rattle.comparison.specs.Compare.{has_record}

none_odd : (x : ℕ) (a : List ℕ) → count (λ y. eqb y (tagged 0 x + 1)) (map (tagged 0) a) ≡ 0
unfolding count
none_odd x [] = refl
none_odd x (y ∷ a) = rw (ne_eqb (tagged 0 y) (tagged 0 x + 1) (λ h. omega arith)) (let e = none_odd x a in omega arith)

-- found among the odd, as often as in the list
found : (x : ℕ) (b : List ℕ) → leb 1 (count (λ y. eqb y (tagged 0 x + 1)) (map (tagged 1) b)) ≡ any (eqb x) b
unfolding count any
found x [] = refl
found x (y ∷ b) = go (eqb x y) refl (found x b)
  where
    n : ℕ
    n = count (λ z. eqb z (tagged 0 x + 1)) (map (tagged 1) b)

    go : (t : Bool) → eqb x y ≡ t → leb 1 n ≡ any (eqb x) b → leb 1 (cond (eqb (tagged 1 y) (tagged 0 x + 1)) 1 0 + n) ≡
        (eqb x y || any (eqb x) b)
    go true e r =
        let xy : x ≡ y = eqb-true x y e in
        let q : tagged 1 y ≡ tagged 0 x + 1 = omega arith in
        rw (e, eq-eqb (tagged 1 y) (tagged 0 x + 1) q) (le-leb 1 (1 + n) (omega arith))
    go false e r =
        let d = eqb-false x y e in
        let z : 0 + n ≡ n = omega arith in
        rw (e, ne_eqb (tagged 1 y) (tagged 0 x + 1) (λ q. d (omega arith))) (ap (leb 1) z ∙ r)

module _ (a b : List ℕ) where
  abbrev both : List ℕ
  both = map (tagged 0) a ++ map (tagged 1) b

  even_one : (x : ℕ) → paired both (tagged 0 x) ≡ has_record b x
  unfolding paired member has_record
  even_one x =
      let sum : count (λ y. eqb y (tagged 0 x + 1)) both ≡ count (λ y. eqb y (tagged 0 x + 1)) (map (tagged 1) b) =
      count_append (λ y. eqb y (tagged 0 x + 1)) (map (tagged 0) a) (map (tagged 1) b)
      ∙ ap (λ (n : ℕ). n + count (λ y. eqb y (tagged 0 x + 1)) (map (tagged 1) b)) (none_odd x a) ∙ omega arith in
      let even : eqb (tagged 0 x % 2) 0 ≡ true = eq-eqb (tagged 0 x % 2) 0 (omega arith) in
      rw (even, sum) (found x b)

  odd_one : (x : ℕ) → paired both (tagged 1 x) ≡ false
  unfolding paired
  odd_one x = rw (ne_eqb (tagged 1 x % 2) 0 (λ h. omega arith)) refl

  evens : (l : List ℕ) → count (paired both) (map (tagged 0) l) ≡ count (has_record b) l
  unfolding count
  evens [] = refl
  evens (x ∷ l) = rw (even_one x) (ap (λ (n : ℕ). cond (has_record b x) 1 0 + n) (evens l))

  odds : (l : List ℕ) → count (paired both) (map (tagged 1) l) ≡ 0
  unfolding count
  odds [] = refl
  odds (x ∷ l) = rw (odd_one x) (let e = odds l in omega arith)

  pub matched_both : matched (map (tagged 0) a ++ map (tagged 1) b) ≡ count (has_record b) a
  unfolding matched
  matched_both =
      let e = count_append (paired both) (map (tagged 0) a) (map (tagged 1) b) in
      let f = evens a in
      let g = odds b in
      omega arith
