use Rattle.std.proofs.Common.{arith}
use Rattle.card.proofs.Laws.Write.{put_word}
use Rattle.card.proofs.write.put_word.Goals as goal

pub returns : goal.returns
returns c = put_word _ _ _ _ _ _ c.requires (omega arith) c.copy_from_slice.ensures.after
