-- The classes of bytes lie apart: bounds on each, from which `omega` tells any two apart.
use Rattle.std.specs.Prelude.{◌≡◌, ℕ, ◌≤◌, true, false, ◌&&◌, eqb, leb}
use Rattle.std.proofs.Common.{arith, leb-true, eqb-true}
pub use Rattle.lists.proofs.Laws.Booleans.{and_left, and_right, or_elim, or_left, or_right, refute}
use Rattle.grammar.specs.Bytes.{between, blank, letter, name_start, name_byte, quote}
use Rattle.grammar.specs.Characters.{lead1, lead2, lead3, lead4, continues}
use Rattle.grammar.specs.Parser.{closing}

-- x is one of the numbers from lo to hi
abbrev pub Within : ℕ → ℕ → ℕ → Type 0
Within lo hi a = (lo ≤ a) × (a ≤ hi)

pub within : (lo hi a : ℕ) → between lo hi a ≡ true → Within lo hi a
within lo hi a e = (leb-true lo a (and_left (leb lo a) (leb a hi) e), leb-true a hi (and_right (leb lo a) (leb a hi) e))

pub blank_in : (a : ℕ) → blank a ≡ true → Within 9 32 a
unfolding blank
blank_in a e =
    or_elim (Within 9 32 a) (eqb a 32) _ e (λ h. let q = eqb-true a 32 h in omega arith) λ e₁.
    or_elim (Within 9 32 a) (eqb a 9) _ e₁ (λ h. let q = eqb-true a 9 h in omega arith) λ e₂.
    or_elim (Within 9 32 a) (eqb a 10) _ e₂ (λ h. let q = eqb-true a 10 h in omega arith) λ h.
    let q = eqb-true a 13 h in omega arith

-- a carriage return is a blank
pub no_return : (a : ℕ) → blank a ≡ false → eqb a 13 ≡ false
unfolding blank
no_return a e = or_right (eqb a 10) (eqb a 13) (or_right (eqb a 9) _ (or_right (eqb a 32) _ e))

pub letter_in : (a : ℕ) → letter a ≡ true → Within 65 122 a
unfolding letter
letter_in a e =
    or_elim (Within 65 122 a) (between 65 90 a) _ e (λ h. let q = within 65 90 a h in omega arith) λ h.
    let q = within 97 122 a h in omega arith

pub name_start_in : (a : ℕ) → name_start a ≡ true → Within 65 122 a
unfolding name_start
name_start_in a e = or_elim (Within 65 122 a) (letter a) _ e (letter_in a) λ h. let q = eqb-true a 95 h in omega arith

pub name_byte_in : (a : ℕ) → name_byte a ≡ true → Within 45 122 a
unfolding name_byte
name_byte_in a e =
    or_elim (Within 45 122 a) (letter a) _ e (λ h. let q = letter_in a h in omega arith) λ e₁.
    or_elim (Within 45 122 a) (between 48 57 a) _ e₁ (λ h. let q = within 48 57 a h in omega arith) λ e₂.
    or_elim (Within 45 122 a) (eqb a 95) _ e₂ (λ h. let q = eqb-true a 95 h in omega arith) λ e₃.
    or_elim (Within 45 122 a) (eqb a 45) _ e₃ (λ h. let q = eqb-true a 45 h in omega arith) λ e₄.
    or_elim (Within 45 122 a) (eqb a 46) _ e₄ (λ h. let q = eqb-true a 46 h in omega arith) λ h.
    let q = eqb-true a 58 h in omega arith

pub quote_in : (a : ℕ) → quote a ≡ true → Within 34 39 a × (a ≡ 38 → ⊥)
unfolding quote
quote_in a e =
    or_elim (Within 34 39 a × (a ≡ 38 → ⊥)) (eqb a 34) _ e (λ h. let q = eqb-true a 34 h in omega arith) λ h.
    let q = eqb-true a 39 h in omega arith

pub closing_in : (a : ℕ) → closing a ≡ true → Within 47 62 a
unfolding closing
closing_in a e = or_elim (Within 47 62 a) (eqb a 62) _ e (λ h. let q = eqb-true a 62 h in omega arith) λ h. let q = eqb-true a 47 h in
    omega arith

pub lead1_in : (a : ℕ) → lead1 a ≡ true → a ≤ 127
unfolding lead1
lead1_in a e = or_elim (a ≤ 127) (blank a) _ e (λ h. let q = blank_in a h in omega arith) λ h. let q = within 32 127 a h in omega arith

pub lead2_in : (a : ℕ) → lead2 a ≡ true → Within 194 223 a
unfolding lead2
lead2_in a e = within 194 223 a e

pub lead3_in : (a b : ℕ) → lead3 a b ≡ true → Within 224 239 a
unfolding lead3
lead3_in a b e =
    or_elim (Within 224 239 a) (eqb a 224 && between 160 191 b) _ e
    (λ h. let q = eqb-true a 224 (and_left (eqb a 224) _ h) in omega arith) λ e₁.
    or_elim (Within 224 239 a) (between 225 236 a && continues b) _ e₁
    (λ h. let q = within 225 236 a (and_left (between 225 236 a) _ h) in omega arith) λ e₂.
    or_elim (Within 224 239 a) (eqb a 237 && between 128 159 b) _ e₂
    (λ h. let q = eqb-true a 237 (and_left (eqb a 237) _ h) in omega arith) λ h.
    let q = within 238 239 a (and_left (between 238 239 a) _ h) in omega arith

pub lead4_in : (a b : ℕ) → lead4 a b ≡ true → Within 240 244 a
unfolding lead4
lead4_in a b e =
    or_elim (Within 240 244 a) (eqb a 240 && between 144 191 b) _ e
    (λ h. let q = eqb-true a 240 (and_left (eqb a 240) _ h) in omega arith) λ e₁.
    or_elim (Within 240 244 a) (between 241 243 a && continues b) _ e₁
    (λ h. let q = within 241 243 a (and_left (between 241 243 a) _ h) in omega arith) λ h.
    let q = eqb-true a 244 (and_left (eqb a 244) _ h) in omega arith
