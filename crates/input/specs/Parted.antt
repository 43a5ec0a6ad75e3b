-- What the readers of the first line find at a place: the digits there, and the number up to the next comma or the end.
use Rattle.std.specs.Prelude.{◌≡◌, List, [], ◌∷◌, ◌++◌, true, false, cond, ℕ, ◌-◌, ◌≤◌, ◌<◌, length, drop}
use Rattle.lists.specs.Lists.{all}
use Rattle.grammar.specs.Look.{Word}
use Rattle.numbers.specs.Numbers.{digit, digits, value, parts, comma}
use Rattle.input.specs.declared.lengths.Run.{Run}
use Rattle.input.specs.declared.lengths.Part.{Part}
use Rattle.input.specs.declared.lengths.Part.TheVariants.{Comma, Last, No}

-- the digit that a word begins with; 10 where it begins with none
unfoldable pub digit_first : Word → ℕ
digit_first [] = 10
digit_first (b ∷ w) = cond (digit b) (b - 48) 10

pub record FirstDigit (w : Word) (at d : ℕ) : Type 0 where
  pub is : d ≡ digit_first (drop at w)
  pub small : d ≤ 10

-- digits in a row, at most seven, and no digit behind them where they are fewer
pub record Ran (w : Word) (at : ℕ) (r : Run) : Type 0 where
  pub read : Word
  pub splits : drop at w ≡ read ++ drop r.next w
  pub all_digits : all digit read ≡ true
  pub counted : length read ≡ r.count
  pub few : r.count ≤ 7
  pub valued : r.value ≡ value read
  pub stops : r.count < 7 → digit_first (drop r.next w) ≡ 10

pub data LineParted (w : Word) (at : ℕ) : Part → Type 0 where
  part_comma : (x : Word) {j : ℕ} → digits 1 7 x ≡ true → parts comma (drop at w) ≡ x ∷ parts comma (drop j w)
      → LineParted w at (Comma (value x) j)
  part_last : (x : Word) → digits 1 7 x ≡ true → parts comma (drop at w) ≡ x ∷ [] → LineParted w at (Last (value x))
  part_no : (x : Word) (l : List Word) → digits 1 7 x ≡ false → parts comma (drop at w) ≡ x ∷ l → LineParted w at No
