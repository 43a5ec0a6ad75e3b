use Rattle.comparison.proofs.Laws.Part.{place_first, place_second}
use Rattle.compare.proofs.answer.longer_part.Goals as goal

pub returns-then-first-second : goal.returns-then-first-second
returns-then-first-second c = place_second _ _ c.args.first.counts c.args.second.counts c.if-first-second.true
    c.record_start-start.ensures.is

pub returns-else-first-second : goal.returns-else-first-second
returns-else-first-second c = place_first _ _ c.args.first.counts c.args.second.counts c.if-first-second.false
    c.record_start-start-else-first-second.ensures.is
