-- Words that are keys and words that are not: a sign, digits, and what ends them.
use Rattle.std.specs.Prelude.{◌≡◌, Bool, ◌&&◌, ℕ}
use Rattle.std.proofs.Math.Path.{refl}
use mathlib.Core.List.{[], ◌∷◌, ◌++◌}
use Rattle.std.proofs.Math.Bool.{true, false}
use Rattle.std.proofs.Common.{arith, ne_eqb}
use Rattle.lists.specs.Lists.{all}
use Rattle.lists.proofs.Laws.Booleans.{and_left}
use Rattle.grammar.specs.Look.{Word}
use Rattle.numbers.specs.Numbers.{digit, digits, value, unsigned, with_sign, key, key_value, in_keys}
use Rattle.numbers.specs.Answers.{sign_if}
use Rattle.numbers.proofs.Laws.Cuts.{digit_in}
use Rattle.keys.specs.KeyLists.{spelled}

-- a word that does not begin with a minus
pub data Unsigned : Word → Type 0 where
  nothing : Unsigned []
  other : {a : ℕ} {w : Word} → (a ≡ 45 → ⊥) → Unsigned (a ∷ w)

pub digits_unsigned : (a : ℕ) (u v : Word) → all digit (a ∷ u) ≡ true → Unsigned ((a ∷ u) ++ v)
unfolding all
digits_unsigned a u v h =
    let d = digit_in a (and_left (digit a) _ h) in
    let n : a ≡ 45 → ⊥ = λ e. omega (arith, d.0) in
    other n

-- the form and the value by the sign that was read
module _ (t : Bool) (w : Word) (plain : t ≡ false → Unsigned w) where
  pub key_by_lem : key (spelled t w) ≡ (digits 1 10 w && in_keys (with_sign (sign_if t) (value w)))
  unfolding key key_value unsigned spelled sign_if
  key_by_lem = go t refl w plain
    where
      go : (s : Bool) → t ≡ s → (w : Word) → (s ≡ false → Unsigned w)
          → key (spelled s w) ≡ (digits 1 10 w && in_keys (with_sign (sign_if s) (value w)))
      go true e w h = refl
      go false e w h = by w (h refl)
        where
          by : (w : Word) → Unsigned w → key (spelled false w) ≡ (digits 1 10 w && in_keys (with_sign (sign_if false) (value w)))
          by [] nothing = refl
          by (a ∷ w) (other n) = rw (ne_eqb a 45 n) refl

  pub value_by : key_value (spelled t w) ≡ with_sign (sign_if t) (value w)
  unfolding key_value unsigned spelled sign_if
  value_by = go t w plain
    where
      go : (s : Bool) (w : Word) → (s ≡ false → Unsigned w) → key_value (spelled s w) ≡ with_sign (sign_if s) (value w)
      go true w h = refl
      go false w h = by w (h refl)
        where
          by : (w : Word) → Unsigned w → key_value (spelled false w) ≡ with_sign (sign_if false) (value w)
          by [] nothing = refl
          by (a ∷ w) (other n) = rw (ne_eqb a 45 n) refl

pub spelled_append : (t : Bool) (u v : Word) → spelled t (u ++ v) ≡ spelled t u ++ v
unfolding spelled
spelled_append true u v = refl
spelled_append false u v = refl
