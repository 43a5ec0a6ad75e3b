use Rattle.std.proofs.Common.{arith, ◌∙◌}
use Rattle.card.proofs.Laws.Write.{put_number}
use Rattle.card.proofs.write.put_number.Goals as goal

pub returns : goal.returns
returns c = put_number c.args.n (omega arith) (c.as_bytes.ensures.value ∙ c.format-word.ensures.text) c.put_word.ensures
