use Rattle.std.proofs.Common.{refl}
use Rattle.comparer.proofs.Laws.Output.{spelled_behind}
use Rattle.comparer.proofs.change_text.spell_behind.Goals as goal

pub returns : goal.returns
returns c = spelled_behind _ _ c.requires c.copy_from_slice.ensures.after refl _ _ c.record_line.ensures c.write_line.ensures.writes_out
