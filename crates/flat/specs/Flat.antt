-- ANSWERS AS NUMBERS, in the order of include/dzwonolin.h.
use Rattle.std.specs.Prelude.{List, [], ◌∷◌, ◌++◌, cond, ℕ, ◌-◌, leb, ℤ, pos, negsuc, length, get_or, replicate}
use Rattle.numbers.specs.declared.Decimal.{Decimal}
use Rattle.cifti.specs.Maps.{kind_number}
use Rattle.cifti.specs.Answer.{filled_with, unused}
use Rattle.cifti.specs.declared.answer.Series.{Series}
use Rattle.cifti.specs.declared.answer.Dimension.{Dimension}
use Rattle.cifti.specs.declared.answer.Answer.{Answer}

-- two's complement in 64 bits: -(n + 1) is 2^64 - (n + 1)
abbrev pub complement : ℤ → ℕ
complement (pos n) = n
complement (negsuc n) = 18446744073709551615 - n

abbrev pub decimal_numbers : Decimal → List ℕ
decimal_numbers d = complement d.amount ∷ complement d.power ∷ []

-- start, step, exponent and unit
abbrev pub series_numbers : Series → List ℕ
series_numbers s = decimal_numbers s.start ++ (decimal_numbers s.step ++ (complement s.exponent ∷ s.unit ∷ []))

-- sixteen numbers; seven of them, at the end, are for what is to come
abbrev pub dimension_numbers : Dimension → List ℕ
dimension_numbers d = kind_number d.kind ∷ d.length ∷ d.start.0 ∷ (series_numbers d.series ++ replicate 7 0)

-- four numbers; three of them, at the end, are for what is to come
abbrev pub head_numbers : Answer → List ℕ
head_numbers a = a.number ∷ replicate 3 0

-- the head, then sixteen for each of three dimensions
abbrev pub answer_numbers : Answer → List ℕ
answer_numbers a =
    head_numbers a
    ++ (dimension_numbers (get_or a.dimensions 0 unused)
    ++ (dimension_numbers (get_or a.dimensions 1 unused)
    ++ dimension_numbers (get_or a.dimensions 2 unused)))

-- what a lent slice holds after: the numbers at its start and the rest as it was, or all as it was where they do not fit
unfoldable pub laid_over : (numbers slice : List ℕ) → List ℕ
laid_over v s = cond (leb (length v) (length s)) (filled_with v s) s
