use Rattle.maps.proofs.Laws.Sums.{spelled, counted_told}
use Rattle.noting.proofs.kind.counts.Goals as goal

pub returns : goal.returns
returns c =
    let word = c.counted_name-word in
    let word_is = spelled c.args.kind word.result.letters word.result.count word.ensures in
    counted_told c.args.kind c.args.text.now c.args.at word_is c.name_is.ensures
