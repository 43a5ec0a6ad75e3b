-- A word in letters, from its bytes: the schema names things by letters, a lent table has bytes.
use Rattle.std.specs.Prelude.{◌≡◌, refl, List, [], ◌∷◌}
use Rattle.std.proofs.Math.Path.{subst⁻¹}
use Prim.Native.Nat.{ℕ, Ordering, compare}
use Prim.Native.Char.{Char, char, IsLt}
use Prim.Native.String.{String, [] as []ˢ, ◌∷◌ as ◌∷ˢ◌}

abbrev both : Ordering → Ordering → Type 0
both Ordering.lt o = IsLt o
both Ordering.eq _ = ⊥
both Ordering.gt _ = ⊥

abbrev scalar : Ordering → Ordering → Ordering → Type 0
scalar Ordering.lt _ _ = Unit
scalar Ordering.eq o p = both o p
scalar Ordering.gt o p = both o p

unfoldable pub by_order : (n : ℕ) (o : Ordering) → compare n 55296 ≡ o → Char
by_order n Ordering.lt e = char n (subst⁻¹ (λ o. scalar o (compare 57343 n) (compare n 1114112)) e tt)
by_order n Ordering.eq e = char 0 tt
by_order n Ordering.gt e = char 0 tt

-- the character of a number; NUL where there is none
unfoldable pub character : ℕ → Char
unfolding by_order
character n = by_order n (compare n 55296) refl

unfoldable pub lettered : List ℕ → String
lettered [] = []ˢ
lettered (a ∷ w) = character a ∷ˢ lettered w

unfoldable pub lettering : Unit {0}
unfolding character lettered
lettering = tt
