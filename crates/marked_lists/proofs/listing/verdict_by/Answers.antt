use Rattle.models.proofs.Laws.Verdicts.{byTests}
use Rattle.marked_lists.proofs.listing.verdict_by.Goals as goal

pub returns-then-not-even : goal.returns-then-not-even
returns-then-not-even c = search byTests

pub returns-then-out : goal.returns-then-out
returns-then-out c = search byTests

pub returns : goal.returns
returns c = search byTests
