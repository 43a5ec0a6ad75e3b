use mathlib.Core.Path.{refl}
use Rattle.numbered_rows.proofs.Laws.Arrays.{gifti_checked}
use Rattle.vocabulary.proofs.gifti_checked.Goals as goal

pub returns : goal.returns
returns c = gifti_checked (c.asked.ensures.checked_so refl)

pub asked-requires : goal.asked-requires
asked-requires c = search
