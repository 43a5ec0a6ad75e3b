-- Bytes other than one below 128: the bytes of a character behind its first are all such.
use Rattle.std.specs.Prelude.{◌≡◌, List, ◌∷◌, ℕ, ◌<◌, Bool, true, false, not, ◌&&◌, eqb}
use Rattle.std.proofs.Common.{arith, ne_eqb}
use Rattle.lists.proofs.Laws.Booleans.{or_elim, and_right, not_so}
use Rattle.grammar.specs.Bytes.{between, Each, no_byte, a_byte}
use Rattle.grammar.specs.Characters.{Character, utf8_1, utf8_2, utf8_3, utf8_4, continues, lead3, lead4}
use Rattle.grammar.proofs.Laws.Facts.{within}

-- BYTES BEHIND THE FIRST OF A CHARACTER are 128 and more
pub continues_high : (a : ℕ) → continues a ≡ true → 127 < a
unfolding continues
continues_high a e = let x = within 128 191 a e in omega arith

pub lead3_high : (a b : ℕ) → lead3 a b ≡ true → 127 < b
unfolding lead3
lead3_high a b e =
    or_elim (127 < b) (eqb a 224 && between 160 191 b) _ e (λ h. let x = within 160 191 b (and_right (eqb a 224) _ h) in omega arith) λ e₁.
    or_elim (127 < b) (between 225 236 a && continues b) _ e₁ (λ h. continues_high b (and_right (between 225 236 a) _ h)) λ e₂.
    or_elim (127 < b) (eqb a 237 && between 128 159 b) _ e₂ (λ h. let x = within 128 159 b (and_right (eqb a 237) _ h) in omega arith) λ h.
    continues_high b (and_right (between 238 239 a) _ h)

pub lead4_high : (a b : ℕ) → lead4 a b ≡ true → 127 < b
unfolding lead4
lead4_high a b e =
    or_elim (127 < b) (eqb a 240 && between 144 191 b) _ e (λ h. let x = within 144 191 b (and_right (eqb a 240) _ h) in omega arith) λ e₁.
    or_elim (127 < b) (between 241 243 a && continues b) _ e₁ (λ h. continues_high b (and_right (between 241 243 a) _ h)) λ h.
    let x = within 128 143 b (and_right (eqb a 244) _ h) in omega arith

-- ANOTHER BYTE than `q`
unfoldable pub other : ℕ → ℕ → Bool
other q a = not (eqb a q)

pub is_other_lem : (q a : ℕ) → (a ≡ q → ⊥) → other q a ≡ true
unfolding other
is_other_lem q a f = rw (ne_eqb a q f)

-- a character whose first byte is another than a `q` below 128 holds no `q`
pub character_other : (q : ℕ) → q < 128 → {a : ℕ} {w : List ℕ} → Character a w → eqb a q ≡ false → Each (other q) (a ∷ w)
unfolding other
character_other q l {a} k e = a_byte (not_so e) (go k)
  where
    high : (b : ℕ) → 127 < b → not (eqb b q) ≡ true
    high b h = not_so (ne_eqb b q λ z. omega arith)

    go : {a : ℕ} {w : List ℕ} → Character a w → Each (λ b. not (eqb b q)) w
    go (utf8_1 _) = no_byte
    go (utf8_2 {b = b} _ h) = a_byte (high b (continues_high b h)) no_byte
    go (utf8_3 {a} {b} {c} h₁ h₂ _) = a_byte (high b (lead3_high a b h₁)) (a_byte (high c (continues_high c h₂)) no_byte)
    go (utf8_4 {a} {b} {c} {d} h₁ h₂ h₃) =
        a_byte (high b (lead4_high a b h₁)) (a_byte (high c (continues_high c h₂)) (a_byte (high d (continues_high d h₃)) no_byte))
