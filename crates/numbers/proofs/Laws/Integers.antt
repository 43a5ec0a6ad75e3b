-- A written power less the places, by natural numbers and signs; a power beside 0 and 1.
use Rattle.std.specs.Prelude.{◌≡◌, refl, Bool, true, false, ℕ, zero, suc, ◌+◌, ◌-◌, ◌≤◌, ◌<◌, ℤ, pos, negsuc, neg_ℤ, nat_abs, ◌-ℤ◌, Option, Some, None}
use Rattle.std.proofs.Math.Path.{sym}
use Rattle.std.proofs.Common.{ap, ◌∙◌, arith, le-leb, lt-ltb, le-ltb, rules}
use Rattle.std.proofs.Math.IntN.{+ℤ_idl, +ℤ_idr}
use Rattle.std.proofs.lemmas.Bool.{lt-leb}
use Rattle.lists.proofs.Laws.Booleans.{clash}
use Rattle.numbers.specs.Numbers.{Sign, plus, minus, with_sign, in_power}
use Rattle.numbers.specs.Answers.{sign_if, power_in}

size_of : (s : Sign) (n : ℕ) → nat_abs (with_sign s n) ≡ n
unfolding with_sign
size_of plus n = refl
size_of minus zero = refl
size_of minus (suc n) = refl

pub power_within : (s : Sign) (n : ℕ) → n ≤ 45 → in_power 45 (with_sign s n) ≡ true
unfolding in_power
power_within s n h = rw (size_of s n) (le-leb n 45 h)

pub power_outside : (s : Sign) (n : ℕ) → 45 < n → in_power 45 (with_sign s n) ≡ false
unfolding in_power
power_outside s n h = rw (size_of s n) (lt-leb n 45 h)

-- no power written
pub less_nothing : (n : ℕ) → with_sign minus n ≡ pos 0 -ℤ pos n
unfolding with_sign
less_nothing n = sym (+ℤ_idl (neg_ℤ (pos n)))

less_minus : (n p : ℕ) → with_sign minus n -ℤ pos p ≡ with_sign minus (n + p)
unfolding with_sign
less_minus zero p = let e : 0 + p ≡ p = omega arith in rw e (+ℤ_idl (neg_ℤ (pos p)))
less_minus (suc n) zero = let e : suc n + 0 ≡ suc n = omega arith in rw e (+ℤ_idr (negsuc n))
less_minus (suc n) (suc p) = let e : suc n + suc p ≡ suc (suc (n + p)) = omega arith in rw e refl

less_below : (n p : ℕ) → n < p → with_sign plus n -ℤ pos p ≡ with_sign minus (p - n)
unfolding with_sign
less_below n zero h = absurd (omega arith)
less_below n (suc p) h =
    let e : suc p - n ≡ suc (suc p - suc n) = omega arith in
    rw (lt-ltb n (suc p) h, e) refl

less_above : (n p : ℕ) → p ≤ n → with_sign plus n -ℤ pos p ≡ with_sign plus (n - p)
unfolding with_sign
less_above n zero h = let e : n - 0 ≡ n = omega arith in rw e (+ℤ_idr (pos n))
less_above n (suc p) h = rw (le-ltb n (suc p) h) refl

-- what a program finds: the number without its sign, at most 45 or not
module _ (t : Bool) (n : ℕ) where
  pub in_limit : n ≤ 45 → {z : ℤ} → z ≡ with_sign (sign_if t) n → Some z ≡ power_in (with_sign (sign_if t) n)
  unfolding power_in
  in_limit h e = sym (rw (power_within (sign_if t) n h, e) refl)

  pub past_limit : 45 < n → None ≡ power_in (with_sign (sign_if t) n)
  unfolding power_in
  past_limit h = sym (rw (power_outside (sign_if t) n h) refl)

pub ruleset limiting = (in_limit, past_limit, rules)

module _ (n p : ℕ) {t : Bool} {r : Option ℤ} where
  pub less_of_minus : t ≡ true → r ≡ power_in (with_sign (sign_if true) (n + p)) → r ≡ power_in (with_sign (sign_if t) n -ℤ pos p)
  unfolding sign_if
  less_of_minus e h = h ∙ sym (rw e (ap power_in (less_minus n p)))

  pub less_of_below : t ≡ false → n < p → r ≡ power_in (with_sign (sign_if true) (p - n)) → r ≡ power_in (with_sign (sign_if t) n -ℤ pos p)
  unfolding sign_if
  less_of_below e l h = h ∙ sym (rw e (ap power_in (less_below n p l)))

  pub less_of_above : t ≡ false → p ≤ n → r ≡ power_in (with_sign (sign_if false) (n - p)) → r ≡ power_in (with_sign (sign_if t) n -ℤ pos p)
  unfolding sign_if
  less_of_above e l h = h ∙ sym (rw e (ap power_in (less_above n p l)))

pub ruleset lessening = (less_of_minus, less_of_below, less_of_above, rules)

-- an answer within the limit, told from none
pub power_is : (z : ℤ) {p : ℤ} {r : Option ℤ} → r ≡ power_in z → r ≡ Some p → (in_power 45 z ≡ true) × (p ≡ z)
unfolding power_in
power_is z {p} {r} e h = go (in_power 45 z) refl
  where
    go : (t : Bool) → in_power 45 z ≡ t → (in_power 45 z ≡ true) × (p ≡ z)
    go true q = let k : Some z ≡ Some p = sym (rw q refl) ∙ sym e ∙ h in (q, cc)
    go false q = let k : None ≡ Some p = sym (rw q refl) ∙ sym e ∙ h in clash (cc)

pub power_no : (z : ℤ) {r : Option ℤ} → r ≡ power_in z → r ≡ None → in_power 45 z ≡ false
unfolding power_in
power_no z {r} e h = go (in_power 45 z) refl
  where
    go : (t : Bool) → in_power 45 z ≡ t → in_power 45 z ≡ false
    go true q = let k : Some z ≡ None = sym (rw q refl) ∙ sym e ∙ h in clash (cc)
    go false q = q
