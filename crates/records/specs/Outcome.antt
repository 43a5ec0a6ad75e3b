-- OUTCOMES: 0 or the number of refusal, and a value that is 0 where refused. Assumes nothing.
use Rattle.std.specs.Prelude.{◌≡◌, refl, Bool, true, false, cond, List, [], ◌∷◌, ℕ, eqb}
use Rattle.std.proofs.Common.{ap, ◌∙◌}
use Rattle.lists.specs.Refusals.{Refusal, ◌when◌, first}
use Rattle.records.specs.declared.outcome.Outcome.{Outcome}

-- what is new where nothing is refused, else what was
abbrev pub unless : {A : Type 0} (number : ℕ) (new old : A) → A
unless n new old = cond (eqb n 0) new old

abbrev pub outcome : (number value : ℕ) → Outcome
outcome n v = record { number = n; value = unless n v 0 }

-- how the first row that applies is come by
pub data Gives : List Refusal → ℕ → Type 0 where
  ends : Gives [] 0
  applies : {n : ℕ} {b : Bool} {l : List Refusal} → b ≡ true → Gives (n when b ∷ l) n
  passes : {n m : ℕ} {b : Bool} {l : List Refusal} → b ≡ false → Gives l m → Gives (n when b ∷ l) m

pub gives_first : {l : List Refusal} {n : ℕ} → Gives l n → first l ≡ n
unfolding first
gives_first ends = refl
gives_first (applies {n} {b} {l} h) = ap (λ (t : Bool). first (n when t ∷ l)) h
gives_first (passes {n} {m} {b} {l} h g) = ap (λ (t : Bool). first (n when t ∷ l)) h ∙ gives_first g
