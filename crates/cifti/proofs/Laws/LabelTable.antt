-- What is true of a table of labels: a key that stands twice, in quantifiers; without one, a key has at most one Label.
use Rattle.std.specs.Prelude.{◌≡◌, ◌↔◌, Bool, ◌||◌, cond, ℕ, ◌<◌, ◌≤◌, ℤ, pos, get_or}
use Rattle.std.proofs.Math.Path.{refl}
use Rattle.std.proofs.Common.{ap, ◌∙◌, true≢false}
use mathlib.Core.List.{List, [], ◌∷◌}
use Rattle.std.proofs.Math.Bool.{true, false}
use native.Mathlib.Omega.{arith}
use Rattle.std.proofs.Math.ListN.{length}
use Rattle.lists.specs.Lists.{any, those, two_of, each}
use Rattle.lists.proofs.Laws.Quantifiers.{two_of_iff}
use Rattle.grammar.specs.Document.{Element}
use Rattle.numbers.specs.Numbers.{same_key}
use Rattle.numbers.proofs.Laws.Keys.{same_key_lem, key_same}
use Rattle.cifti.specs.LabelTable.{labels_of, label_key, table_keys, key_twice_in, labels_with}

-- the key that the n-th Label writes, from 0
abbrev pub nth_key : ℕ → Element → ℤ
nth_key n e = get_or (table_keys e) n (pos 0)

-- two places of the table have one key
abbrev pub OneKeyTwice : Element → Type 0
OneKeyTwice e = (i : ℕ) × (j : ℕ) × (i < j) × (j < length (table_keys e)) × (nth_key i e ≡ nth_key j e)

pub key_twice_iff : (e : Element) → (key_twice_in e ≡ true) ↔ OneKeyTwice e
unfolding key_twice_in
key_twice_iff e = (to, from)
  where
    to : two_of same_key (table_keys e) ≡ true → OneKeyTwice e
    to h = let (i, j, t, u, v) = (two_of_iff (pos 0) same_key (table_keys e)).0 h in (i, j, t, u, same_key_lem _ _ v)

    from : OneKeyTwice e → two_of same_key (table_keys e) ≡ true
    from (i, j, t, u, v) = (two_of_iff (pos 0) same_key (table_keys e)).1 (i, j, t, u, key_same v)

-- WITHOUT A KEY TWICE, at most one Label has a key.
module _ (k : ℤ) where
  abbrev with : List Element → List Element
  with l = those (λ d. same_key k (label_key d)) l

  lone : (l : List Element) → any (same_key k) (each label_key l) ≡ false → length (with l) ≡ 0
  unfolding any those each
  lone [] h = refl
  lone (d ∷ l) h = go (same_key k (label_key d)) h (lone l)
    where
      go : (b : Bool) → (b || any (same_key k) (each label_key l)) ≡ false → (any (same_key k) (each label_key l) ≡ false → length (with l) ≡ 0)
          → length (cond b (d ∷ with l) (with l)) ≡ 0
      go true f on = absurd (true≢false f)
      go false f on = on f

  at_most_one : (l : List Element) → two_of same_key (each label_key l) ≡ false → length (with l) ≤ 1
  unfolding two_of those each
  at_most_one [] h = omega arith
  at_most_one (d ∷ l) h = go (same_key k (label_key d)) refl (any (same_key (label_key d)) (each label_key l)) refl h (at_most_one l)
    where
      go : (b : Bool) → same_key k (label_key d) ≡ b → (c : Bool) → any (same_key (label_key d)) (each label_key l) ≡ c
          → (c || two_of same_key (each label_key l)) ≡ false → (two_of same_key (each label_key l) ≡ false → length (with l) ≤ 1)
          → length (cond b (d ∷ with l) (with l)) ≤ 1
      go b e true a f on = absurd (true≢false f)
      go false e false a f on = on f
      go true e false a f on =
          let n : length (with l) ≡ 0 = lone l (ap (λ z. any (same_key z) (each label_key l)) (same_key_lem k (label_key d) e) ∙ a) in
          omega (arith, n)

pub one_label : (k : ℤ) (e : Element) → key_twice_in e ≡ false → length (labels_with k e) ≤ 1
unfolding key_twice_in table_keys labels_with
one_label k e h = at_most_one k (labels_of e) h
