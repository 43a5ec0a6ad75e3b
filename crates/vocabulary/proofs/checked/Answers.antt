use mathlib.Core.Path.{refl}
use Rattle.numbered_rows.proofs.Laws.Agree.{cifti_checked}
use Rattle.vocabulary.proofs.checked.Goals as goal

pub returns : goal.returns
returns c = cifti_checked (c.asked.ensures.checked_so refl)

pub asked-requires : goal.asked-requires
asked-requires c = search
