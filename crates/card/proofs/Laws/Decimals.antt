-- A decimal reads back as its number, and has no leading zero.
use Rattle.std.specs.Prelude.{◌≡◌, refl, [], ◌∷◌, ◌++◌, Bool, true, false, cond, ℕ, zero, suc, ◌+◌, ◌*◌, ◌-◌, ◌/◌, ◌%◌, ◌^◌, ◌≤◌, ◌<◌, ltb, length, get_or}
use Rattle.std.proofs.Common.{sym, ◌∙◌, pow-suc, arith, ltb-false, length-append}
use Rattle.std.proofs.Math.ListN.{get_or-append}
use Rattle.numbers.specs.Numbers.{number, value}
use Rattle.numbers.proofs.Laws.Cuts.{number_append}
use Rattle.card.specs.Written.{in_tens_up_to, in_tens}

value_in : (m n : ℕ) → n < 10 ^ m → number 0 (in_tens_up_to m n) ≡ n
unfolding in_tens_up_to number
value_in zero n h = omega arith
value_in (suc m) n h = go (ltb n 10) refl (value_in m (n / 10))
  where
    go : (b : Bool) → ltb n 10 ≡ b → (n / 10 < 10 ^ m → number 0 (in_tens_up_to m (n / 10)) ≡ n / 10)
        → number 0 (cond b ((48 + n) ∷ []) (in_tens_up_to m (n / 10) ++ ((48 + n % 10) ∷ []))) ≡ n
    go true e f = omega arith
    go false e f =
        let more : 10 ^ suc m ≡ 10 ^ m * 10 = pow-suc 10 m in
        let below : n / 10 < 10 ^ m = omega arith in
        let front : number 0 (in_tens_up_to m (n / 10)) ≡ n / 10 = f below in
        number_append 0 (in_tens_up_to m (n / 10)) ((48 + n % 10) ∷ []) ∙ omega (arith, front)

-- every number of 64 bits reads back
pub decimal_value_lem : (n : ℕ) → n < 10 ^ 20 → value (in_tens n) ≡ n
unfolding in_tens value
decimal_value_lem n h = value_in 20 n h

some_digit : (m n : ℕ) → n < 10 ^ m → 0 < length (in_tens_up_to m n) + (1 - m)
unfolding in_tens_up_to
some_digit zero n h = omega arith
some_digit (suc m) n h = go (ltb n 10)
  where
    go : (b : Bool) → 0 < length (cond b ((48 + n) ∷ []) (in_tens_up_to m (n / 10) ++ ((48 + n % 10) ∷ []))) + (1 - suc m)
    go true = omega arith
    go false = omega (arith, length-append (in_tens_up_to m (n / 10)) ((48 + n % 10) ∷ []))

first_digit : (m n : ℕ) → n < 10 ^ m → 0 < n → get_or (in_tens_up_to m n) 0 0 ≡ 48 → ⊥
unfolding in_tens_up_to
first_digit zero n h p = λ e. omega arith
first_digit (suc m) n h p = go (ltb n 10) refl (first_digit m (n / 10))
  where
    go : (b : Bool) → ltb n 10 ≡ b → (n / 10 < 10 ^ m → 0 < n / 10 → get_or (in_tens_up_to m (n / 10)) 0 0 ≡ 48 → ⊥)
        → get_or (cond b ((48 + n) ∷ []) (in_tens_up_to m (n / 10) ++ ((48 + n % 10) ∷ []))) 0 0 ≡ 48 → ⊥
    go true e f z = omega arith
    go false e f z =
        let many : 10 ≤ n = ltb-false n 10 e in
        let more : 10 ^ suc m ≡ 10 ^ m * 10 = pow-suc 10 m in
        let below : n / 10 < 10 ^ m = omega arith in
        let deep : 0 < m = deeper m below in
        let some : 0 < length (in_tens_up_to m (n / 10)) = omega (arith, some_digit m (n / 10) below) in
        f below (omega arith) (sym (get_or-append (in_tens_up_to m (n / 10)) ((48 + n % 10) ∷ []) 0 0 some) ∙ z)
      where
        deeper : (k : ℕ) → n / 10 < 10 ^ k → 0 < k
        deeper zero l = absurd (omega (arith, ltb-false n 10 e))
        deeper (suc k) l = omega arith

pub no_leading_zero : (n : ℕ) → 0 < n → n < 10 ^ 20 → get_or (in_tens n) 0 0 ≡ 48 → ⊥
unfolding in_tens
no_leading_zero n p h = first_digit 20 n h p
