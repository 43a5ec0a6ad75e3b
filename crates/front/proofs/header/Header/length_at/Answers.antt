use Rattle.std.proofs.Common.{rules, w64, ◌∙◌}
use Rattle.std.proofs.lemmas.Int.{to_z-of_z}
use Rattle.nifti.proofs.Laws.Reads.{length_told, length_past}
use Rattle.front.proofs.header.Header.length_at.Goals as goal

pub returns-then-i-length_count : goal.returns-then-i-length_count
returns-then-i-length_count c =
    length_told _ _ (to_z-of_z w64 c.max.result (search rules) ∙ c.max.ensures.value)
    (to_z-of_z w64 c.dim.result (search rules) ∙ c.dim.ensures) (search rules)

pub returns-else-i-length_count : goal.returns-else-i-length_count
returns-else-i-length_count c = search (length_past, rules)
