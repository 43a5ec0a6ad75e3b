-- Numbers are the same or not, less or not. Assumes nothing.
use Rattle.std.specs.Prelude.{◌≡◌, refl, Bool, true, false, ◌⊎◌, ℕ, ◌≤◌, ◌<◌, eqb, ltb}
use Rattle.std.proofs.Common.{sym, inl, inr, eqb-true, eq-eqb, ne_eqb, ltb-true, ltb-false}
use Rattle.std.proofs.lemmas.Bool.{eqb-false}

by_test : (a b : ℕ) (t : Bool) → eqb a b ≡ t → (a ≡ b) ⊎ (a ≡ b → ⊥)
by_test a b true e = inl (eqb-true a b e)
by_test a b false e = inr (eqb-false a b e)

-- two numbers are the same, or not
pub eq? : (a b : ℕ) → (a ≡ b) ⊎ (a ≡ b → ⊥)
eq? a b = by_test a b (eqb a b) refl

by_order : (a b : ℕ) (t : Bool) → ltb a b ≡ t → (a < b) ⊎ (b ≤ a)
by_order a b true e = inl (ltb-true a b e)
by_order a b false e = inr (ltb-false a b e)

pub lt? : (a b : ℕ) → (a < b) ⊎ (b ≤ a)
lt? a b = by_order a b (ltb a b) refl

-- two tests that are true together
pub eqb_same : (a b c d : ℕ) → (a ≡ b → c ≡ d) → (c ≡ d → a ≡ b) → eqb a b ≡ eqb c d
eqb_same a b c d f g = go (eqb a b) refl
  where
    go : (t : Bool) → eqb a b ≡ t → t ≡ eqb c d
    go true e = sym (eq-eqb c d (f (eqb-true a b e)))
    go false e = sym (ne_eqb c d (λ z. eqb-false a b e (g z)))

pub eqb_turned : (x y : ℕ) → eqb x y ≡ eqb y x
eqb_turned x y = eqb_same x y y x sym sym
