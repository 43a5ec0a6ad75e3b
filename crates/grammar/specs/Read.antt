-- A reader of lists of bytes: it fails, or has read a value off the front and left a rest. Nothing here knows of markup.
use Rattle.std.specs.Prelude.{List, [], ◌∷◌, length, take, ℕ, zero, suc, ◌-◌, Bool, true, false, not, eqb}

pub data Read (A : Type 0) : Type 0 where
  fail : Read A
  got : A → List ℕ → Read A

abbrev pub Reader : Type 0 → Type 0
Reader A = List ℕ → Read A

unfoldable pub bind : {A B : Type 0} → Read A → (A → List ℕ → Read B) → Read B
bind fail f = fail
bind (got a r) f = f a r

infixl 20 ◌>>=◌ ◌>>◌
abbrev pub ◌>>=◌ : {A B : Type 0} → Reader A → (A → Reader B) → Reader B
◌>>=◌ p f = λ s. bind (p s) f

abbrev pub ◌>>◌ : {A B : Type 0} → Reader A → Reader B → Reader B
◌>>◌ p q = λ s. bind (p s) (λ _ r. q r)

abbrev pub pure : {A : Type 0} → A → Reader A
pure a = λ s. got a s

-- nothing, if a test holds
unfoldable pub test : Bool → Reader (Unit {0})
test true s = got tt s
test false s = fail

-- the bytes `k`, and nothing else
unfoldable pub mark : List ℕ → Reader (Unit {0})
mark [] s = got tt s
mark (a ∷ k) [] = fail
mark (a ∷ k) (b ∷ s) = bind (test (eqb b a) s) (λ _ r. mark k r)

-- a byte that passes
unfoldable pub byte : (ℕ → Bool) → Reader ℕ
byte p [] = fail
byte p (a ∷ s) = bind (test (p a) s) (λ _ r. got a r)

-- the longest front whose bytes all pass
unfoldable pub span : (ℕ → Bool) → Reader (List ℕ)
span p [] = got [] []
span p (a ∷ s) = elim (p a) [ true ↦ bind (span p s) (λ w r. got (a ∷ w) r) | false ↦ got [] (a ∷ s) ]

-- a text that no such byte begins
unfoldable pub stops : (ℕ → Bool) → List ℕ → Bool
stops p [] = true
stops p (a ∷ s) = not (p a)

-- the first of two that does not fail
unfoldable pub alt : {A : Type 0} → Read A → Read A → Read A
alt fail n = n
alt (got a r) n = got a r

-- things in a row, up to a text at which `stop` says so; so many at most
unfoldable pub many_step : {A : Type 0} → Bool → Reader A → Reader (List A) → Reader (List A)
many_step true p more s = got [] s
many_step false p more s = bind (p s) (λ a r. bind (more r) (λ l r₁. got (a ∷ l) r₁))

unfoldable pub many : {A : Type 0} → (List ℕ → Bool) → Reader A → ℕ → Reader (List A)
many stop p zero s = fail
many stop p (suc n) s = many_step (stop s) p (many stop p n) s

unfoldable pub all_of : {A : Type 0} → (List ℕ → Bool) → Reader A → Reader (List A)
all_of stop p s = many stop p (suc (length s)) s

-- what is read, and the bytes that it was read from
unfoldable pub before : List ℕ → List ℕ → List ℕ
before s r = take (length s - length r) s

unfoldable pub seen : {A : Type 0} → Reader A → Reader (A × List ℕ)
seen p s = bind (p s) (λ a r. got (a, before s r) r)
