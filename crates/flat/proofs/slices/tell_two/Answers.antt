use Rattle.std.proofs.Common.{◌∙◌, [], ◌∷◌, arith}
use Rattle.std.proofs.lemmas.List.Edits.{sets-eq}
use Rattle.flat.proofs.Laws.Flat.{told_short, told_all}
use Rattle.flat.proofs.slices.tell_two.Goals as goal

pub returns-then-slice-lt2 : goal.returns-then-slice-lt2
returns-then-slice-lt2 c = told_short _ c.args.slice.now (omega arith)

pub returns : goal.returns
returns c = sets-eq (c.args.first ∷ c.args.second ∷ []) c.args.slice.now 0
    (omega arith) ∙ told_all _ c.args.slice.now (omega arith)
