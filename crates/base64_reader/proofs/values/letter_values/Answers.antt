use mathlib.Core.Path.{refl}
use Rattle.lists.specs.Lists.{count_up, tabulated}
use Rattle.base64_text.specs.Base64.{worth}
use Rattle.base64_reader.specs.Groups.{values_lent}
use Rattle.base64_reader.proofs.values.letter_values.Goals as goal

pub invariant_of-result : goal.invariant_of-result
unfolding values_lent tabulated count_up worth
invariant_of-result c = record { are_values = refl }
