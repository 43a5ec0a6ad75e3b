use Rattle.records.proofs.Laws.Record.{seven_sound}
use Rattle.record_fields.proofs.Laws.Sums.{legal_sum}
use Rattle.record_fields.proofs.record.legal.Goals as goal

pub returns : goal.returns
returns c = legal_sum seven_sound c.args.r
