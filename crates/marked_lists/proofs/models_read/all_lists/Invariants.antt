use Rattle.models.specs.Verdicts.{volume_from}
use Rattle.marked_lists.proofs.Laws.Models.{ModelsRead}
use Rattle.marked_lists.proofs.models_read.all_lists.Given as goal

abbrev pub invariant-loop-i : goal.invariant-loop-i
invariant-loop-i l =
    ModelsRead l.text l.models (volume_from l.sizes) l.grid l.initial.work l.out l.apart l.i l.work
