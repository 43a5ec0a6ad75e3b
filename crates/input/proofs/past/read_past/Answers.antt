use Rattle.std.proofs.Common.{rules}
use Rattle.input.proofs.Laws.Came.{past_came}
use Rattle.input.proofs.past.read_past.Goals as goal

pub returns-clause-took : goal.returns-clause-took
returns-clause-took g c =
    let body = c.read_bytes-body in
    let past = c.read_bytes-past in
    past_came _ _ _ _ _ _ _ (search rules) body.ensures.arrived.0 past.ensures.arrived.0 (search rules)
    (body.ensures.took.in_order (search rules)) (past.ensures.took.in_order (search rules)) (past.ensures.took.all_left (search rules))
