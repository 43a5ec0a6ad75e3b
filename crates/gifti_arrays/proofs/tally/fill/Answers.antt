use Rattle.gifti_arrays.proofs.Laws.Tally.{writing_so}
use Rattle.gifti_arrays.proofs.tally.fill.Goals as goal

pub returns : goal.returns
returns c =
    writing_so c.fill_from.ensures c.fill_from.auto.keys c.args.from
    c.keys_start-start.ensures
