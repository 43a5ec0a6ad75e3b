use Rattle.compare.proofs.Laws.Held.{twice_told}
use Rattle.compare.proofs.refusal.location_twice.Goals as goal

pub returns : goal.returns
returns c = twice_told c.args.sheet.counts c.unpack.ensures c.requires c.repeats_in.ensures
