-- Numbers inside CDATA, where plain bytes write them.
use Rattle.std.specs.Prelude.{◌≡◌, List, ℕ, ◌+◌, ◌≤◌, length}
use Rattle.numbers.specs.Stream.{Plain}
use Rattle.numbers.specs.Answers.{next_number}
use Rattle.numbers.specs.declared.Run.{Run}

-- the place of byte i inside CDATA
abbrev pub in_data : List ℕ → ℕ → ℕ
in_data text i = length text + 1 + i

-- the next number from a byte inside CDATA on is the next from another
pub record Past (text : List ℕ) (at i : ℕ) : Type 0 where
  pub inside : i ≤ length text
  pub same : next_number text (in_data text at) ≡ next_number text (in_data text i)

-- blanks were passed, be it outside of CDATA or inside
pub record Blanks (text : List ℕ) (at i : ℕ) : Type 0 where
  pub outside : next_number text at ≡ next_number text i
  pub within : at ≤ length text → Past text at i

-- the plain digits at byte `at` are read from there, be it outside of CDATA or inside
pub record Digits (text : List ℕ) (at stop : ℕ) (run : Run) : Type 0 where
  pub outside : Plain text at stop run
  pub within : Plain text (in_data text at) (in_data text stop)
      (record { value = run.value; count = run.count; next = in_data text run.next })
