-- LISTS THAT ARE THE SAME BUT FOR THE ORDER.
use mathlib.Core.List.{List, [], ◌∷◌}

pub data Permuted {A : Type 0} : List A → List A → Type 0 where
  none : Permuted [] []
  same : {a : A} {k l : List A} → Permuted k l → Permuted (a ∷ k) (a ∷ l)
  swap : {a b : A} {l : List A} → Permuted (a ∷ b ∷ l) (b ∷ a ∷ l)
  then : {k l m : List A} → Permuted k l → Permuted l m → Permuted k m
