use Rattle.number_lists.proofs.Laws.Letters.{itself}
use Rattle.number_lists.proofs.chars.letter.Goals as goal

pub returns-in-Some : goal.returns-in-Some
returns-in-Some c =
    let got = c.in-Some.ensures.lookup in
    itself _ _ got.3.0 (got.3.1 0) c.is_odd.ensures c.if-not-is_odd.true
