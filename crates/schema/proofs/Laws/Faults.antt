-- Faults make a sum: `sooner` with 0.
use Rattle.std.specs.Prelude.{◌≡◌, refl, Bool, true, false, ◌&&◌, ℕ, zero, suc, ◌<◌, ◌≤◌}
use Rattle.std.proofs.Common.{ap, sym, ◌∙◌, arith, rules}
use borrow.Author.Tests.{lt-ltb, le-ltb, ne_eqb}
use Rattle.schema.specs.Faults.{fault, sooner}

pub fault_and : (s t n m : Bool) → fault (s && t) (n && m) ≡ sooner (fault s n) (fault t m)
unfolding fault sooner
fault_and true true true true = refl
fault_and true true true false = refl
fault_and true true false true = refl
fault_and true true false false = refl
fault_and true false true m = refl
fault_and true false false m = refl
fault_and false true n true = refl
fault_and false true n false = refl
fault_and false false n m = refl

pub none_sooner : (a : ℕ) → sooner 0 a ≡ a
unfolding sooner
none_sooner a = refl

pub sooner_none : (a : ℕ) → sooner a 0 ≡ a
unfolding sooner
sooner_none zero = refl
sooner_none (suc a) = rw (ne_eqb (suc a) 0 (λ e. omega arith))

pub six_sooner : (s n : Bool) → sooner 6 (fault s n) ≡ 6
unfolding fault sooner
six_sooner true true = refl
six_sooner true false = refl
six_sooner false n = refl

pub shape_fault : (s n : Bool) → fault s n ≡ 6 → s ≡ false
unfolding fault
shape_fault true true e = absurd (omega arith)
shape_fault true false e = absurd (omega arith)
shape_fault false n e = refl

pub fault_three : (s n s₁ n₁ s₂ n₂ : Bool)
    → sooner (sooner (fault s n) (fault s₁ n₁)) (fault s₂ n₂) ≡ sooner (fault s n) (sooner (fault s₁ n₁) (fault s₂ n₂))
fault_three s n s₁ n₁ s₂ n₂ =
    ap (λ a. sooner a (fault s₂ n₂)) (sym (fault_and s s₁ n n₁)) ∙ sym (fault_and (s && s₁) s₂ (n && n₁) n₂)
    ∙ both s n s₁ n₁
    ∙ fault_and s (s₁ && s₂) n (n₁ && n₂) ∙ ap (sooner (fault s n)) (fault_and s₁ s₂ n₁ n₂)
  where
    both : (s n s₁ n₁ : Bool) → fault ((s && s₁) && s₂) ((n && n₁) && n₂) ≡ fault (s && (s₁ && s₂)) (n && (n₁ && n₂))
    both true true s₁ n₁ = refl
    both true false s₁ n₁ = refl
    both false true s₁ n₁ = refl
    both false false s₁ n₁ = refl

-- a number that is a fault
pub record IsFault (a : ℕ) : Type 0 where
  pub shape : Bool
  pub numbers : Bool
  pub is : a ≡ fault shape numbers

pub is_fault : (s n : Bool) → IsFault (fault s n)
is_fault s n = record { shape = s; numbers = n; is = refl }

pub is_none : IsFault 0
unfolding fault
is_none = record { shape = true; numbers = true; is = refl }

pub is_six : IsFault 6
unfolding fault
is_six = record { shape = false; numbers = true; is = refl }

pub sooner_fault : {a b : ℕ} → IsFault a → IsFault b → IsFault (sooner a b)
sooner_fault f g = rw (f.is, g.is, ← fault_and f.shape g.shape f.numbers g.numbers) (is_fault _ _)

pub sooner_three : {a b c : ℕ} → IsFault a → IsFault b → IsFault c → sooner (sooner a b) c ≡ sooner a (sooner b c)
sooner_three f g h = rw (f.is, g.is, h.is) (fault_three f.shape f.numbers g.shape g.numbers h.shape h.numbers)

fault_turned : (s n t m : Bool) → sooner (fault s n) (fault t m) ≡ sooner (fault t m) (fault s n)
unfolding fault sooner
fault_turned true true true true = refl
fault_turned true true true false = refl
fault_turned true true false m = refl
fault_turned true false true true = refl
fault_turned true false true false = refl
fault_turned true false false m = refl
fault_turned false n true true = refl
fault_turned false n true false = refl
fault_turned false n false m = refl

pub sooner_turned : {a b : ℕ} → IsFault a → IsFault b → sooner a b ≡ sooner b a
sooner_turned f g = rw (f.is, g.is) (fault_turned f.shape f.numbers g.shape g.numbers)

pub six_first : {a : ℕ} → IsFault a → sooner 6 a ≡ 6
six_first f = rw f.is (six_sooner f.shape f.numbers)

-- the branches of the code's `sooner`
module _ (a b : ℕ) where
  pub sooner_second : a ≡ 0 → b ≡ sooner a b
  unfolding sooner
  sooner_second e = rw e

  module _ (p : a ≡ 0 → ⊥) where
    pub sooner_first : b ≡ 0 → a ≡ sooner a b
    unfolding sooner
    sooner_first e = rw (e, ne_eqb a 0 p)

    module _ (q : b ≡ 0 → ⊥) where
      pub sooner_less : b < a → b ≡ sooner a b
      unfolding sooner
      sooner_less h = rw (ne_eqb a 0 p, ne_eqb b 0 q, lt-ltb b a h)

      pub sooner_more : a ≤ b → a ≡ sooner a b
      unfolding sooner
      sooner_more h = rw (ne_eqb a 0 p, ne_eqb b 0 q, le-ltb b a h)

pub ruleset choosing = (sooner_second, sooner_first, sooner_less, sooner_more, rules)
