-- THE STRETCH of a dimension, of which a short list is made (W4).
use Rattle.std.specs.Prelude.{List, ℕ, get_or, take, drop}
use Rattle.cifti.specs.Answer.{unused}
use Rattle.cifti.specs.declared.answer.Answer.{Answer}

-- the records of the stretch that the answer tells of a dimension
unfoldable pub stretch_told : Answer → (records : List ℕ) (dimension : ℕ) → List ℕ
stretch_told answer records d =
    take (get_or answer.dimensions d unused).length (drop (get_or answer.dimensions d unused).start.0 records)
