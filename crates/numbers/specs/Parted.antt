-- What the reader of one number among commas finds: the number and the place behind its comma, or the last number, or that its part is no
-- such number.
use Rattle.std.specs.Prelude.{◌≡◌, List, [], ◌∷◌, Bool, true, false, ◌&&◌, cond, ℕ, ◌<◌, ℤ, Option, Some, None}
use Rattle.grammar.specs.Bytes.{between}
use Rattle.grammar.specs.Look.{Word}
use Rattle.numbers.specs.Numbers.{digits, value, parts, comma, Sign, plus, minus, unsigned, with_sign}
use Rattle.numbers.specs.Stream.{stream, left_in}
use Rattle.numbers.specs.declared.Source.{Source}
use Rattle.numbers.specs.declared.Part.{Part}
use Rattle.numbers.specs.declared.Part.TheVariants.{Comma, Last, No}

-- at most so many digits, in a range
unfoldable pub numeral : (most lo hi : ℕ) → Word → Bool
numeral most lo hi w = digits 1 most w && between lo hi (value w)

unfoldable pub alone_in : (most lo hi : ℕ) → Word → Option ℕ
alone_in most lo hi w = cond (numeral most lo hi w) (Some (value w)) None

-- a sign, if there is one, and at most so many digits, up to one limit or behind the sign up to another
unfoldable pub signed_from : (most hi : ℕ) → Sign → Word → Option ℤ
signed_from most hi s w = cond (numeral most 0 hi w) (Some (with_sign s (value w))) None

unfoldable pub limit_of : (plus minus : ℕ) → Sign → ℕ
limit_of p m plus = p
limit_of p m minus = m

unfoldable pub signed_in : (most plus minus : ℕ) → Word → Option ℤ
signed_in most p m w = let u = unsigned false w in signed_from most (limit_of p m u.sign) u.sign u.rest

pub data Parted (source : Source) (text : List ℕ) (most lo hi at : ℕ) : Part → Type 0 where
  part_comma : (x : Word) {j : ℕ} → numeral most lo hi x ≡ true → parts comma (stream source text at) ≡ x
      ∷ parts comma (stream source text j) → left_in source text j < left_in source text at
      → Parted source text most lo hi at (Comma (value x) j)
  part_last : (x : Word) → numeral most lo hi x ≡ true → parts comma (stream source text at) ≡ x ∷ []
      → Parted source text most lo hi at (Last (value x))
  part_no : (x : Word) (l : List Word) → numeral most lo hi x ≡ false → parts comma (stream source text at) ≡ x ∷ l
      → Parted source text most lo hi at No
