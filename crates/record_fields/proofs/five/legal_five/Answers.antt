use Rattle.records.proofs.Laws.Record.{five_sound}
use Rattle.record_fields.proofs.Laws.Sums.{legal_sum}
use Rattle.record_fields.proofs.five.legal_five.Goals as goal

pub returns : goal.returns
returns c = legal_sum five_sound c.args.r
