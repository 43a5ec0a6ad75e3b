-- EXACTLY ONE LABEL HAS A KEY that the table has, and has not twice.
use Rattle.std.specs.Prelude.{◌≡◌, Bool, ◌||◌, cond, ◌≤◌, ℤ}
use mathlib.Core.List.{List, [], ◌∷◌}
use Rattle.std.proofs.Math.Bool.{true, false}
use Rattle.std.proofs.lemmas.Bool.{false≢true}
use native.Mathlib.Omega.{arith}
use Rattle.std.proofs.Math.ListN.{length}
use Rattle.lists.specs.Lists.{any, those, two_of, each}
use Rattle.grammar.specs.Document.{Element}
use Rattle.numbers.specs.Numbers.{same_key}
use Rattle.cifti.specs.LabelTable.{labels_of, label_key, table_keys, key_twice_in, labels_with}
use Rattle.cifti.proofs.Laws.LabelTable.{one_label}

module _ (k : ℤ) where
  abbrev with : List Element → List Element
  with l = those (λ d. same_key k (label_key d)) l

  at_least_one : (l : List Element) → any (same_key k) (each label_key l) ≡ true → 1 ≤ length (with l)
  unfolding any those each
  at_least_one [] h = absurd (false≢true h)
  at_least_one (d ∷ l) h = go (same_key k (label_key d)) h (at_least_one l)
    where
      go : (b : Bool) → (b || any (same_key k) (each label_key l)) ≡ true → (any (same_key k) (each label_key l) ≡ true → 1 ≤ length (with l))
          → 1 ≤ length (cond b (d ∷ with l) (with l))
      go true f on = omega arith
      go false f on = on f

  pub only_label : (t : Element) → two_of same_key (table_keys t) ≡ false → any (same_key k) (table_keys t) ≡ true
      → length (labels_with k t) ≡ 1
  unfolding key_twice_in table_keys labels_with
  only_label t h s = let u = one_label k t h in let v = at_least_one (labels_of t) s in omega (arith, u, v)
