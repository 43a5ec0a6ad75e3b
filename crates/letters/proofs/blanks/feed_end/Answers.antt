use Rattle.std.proofs.Common.{◌∙◌}
use Rattle.steps.proofs.Laws.Feeds.{feeding, feed_not}
use Rattle.letters.proofs.blanks.feed_end.Goals as goal

pub returns-in-Some-eq10 : goal.returns-in-Some-eq10
returns-in-Some-eq10 c = search feeding

pub returns-in-Some : goal.returns-in-Some
returns-in-Some c = let there = c.in-Some.ensures.lookup.3 in
    feed_not _ _ there.0 (λ e. c.in-Some.field-0-test.1 (there.1 0 ∙ e))

pub returns-in-None : goal.returns-in-None
returns-in-None c = search feeding
