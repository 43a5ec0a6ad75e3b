-- One legal character, in UTF-8: `Character a w` says that the byte `a` and the bytes `w` behind it write one. The four forms and their
-- ranges are the syntax of RFC 3629, section 4. Left out are U+FFFE, U+FFFF, and what lies below 32 and is no blank.
use Rattle.std.specs.Prelude.{◌≡◌, List, [], ◌∷◌, ℕ, Bool, true, false, ◌&&◌, ◌||◌, eqb, leb}
use Rattle.grammar.specs.Bytes.{between, blank}

-- UTF8-1, without the controls that are no blanks
unfoldable pub lead1 : ℕ → Bool
lead1 a = blank a || between 32 127 a

-- UTF8-tail
unfoldable pub continues : ℕ → Bool
continues a = between 128 191 a

-- UTF8-2
unfoldable pub lead2 : ℕ → Bool
lead2 a = between 194 223 a

-- UTF8-3: the first two bytes
unfoldable pub lead3 : ℕ → ℕ → Bool
lead3 a b = (eqb a 224 && between 160 191 b)
    || ((between 225 236 a && continues b) || ((eqb a 237 && between 128 159 b) || (between 238 239 a && continues b)))

-- UTF8-4: the first two bytes
unfoldable pub lead4 : ℕ → ℕ → Bool
lead4 a b = (eqb a 240 && between 144 191 b) || ((between 241 243 a && continues b) || (eqb a 244 && between 128 143 b))

-- U+FFFE and U+FFFF: EF BF BE and EF BF BF
unfoldable pub noncharacter : ℕ → ℕ → ℕ → Bool
noncharacter a b c = eqb a 239 && (eqb b 191 && leb 190 c)

pub data Character : ℕ → List ℕ → Type 0 where
  utf8_1 : {a : ℕ} → lead1 a ≡ true → Character a []
  utf8_2 : {a b : ℕ} → lead2 a ≡ true → continues b ≡ true → Character a (b ∷ [])
  utf8_3 : {a b c : ℕ} → lead3 a b ≡ true → continues c ≡ true → noncharacter a b c ≡ false → Character a (b ∷ c ∷ [])
  utf8_4 : {a b c d : ℕ} → lead4 a b ≡ true → continues c ≡ true → continues d ≡ true → Character a (b ∷ c ∷ d ∷ [])
