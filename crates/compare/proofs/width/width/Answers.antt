use Rattle.std.proofs.Common.{sym}
use Rattle.comparison.proofs.Laws.Counts.{says_five, says_seven}
use Rattle.compare.proofs.width.width.Goals as goal

pub returns-then-sheet-eq5-clause-is : goal.returns-then-sheet-eq5-clause-is
returns-then-sheet-eq5-clause-is c = sym (says_five _ c.if-sheet-eq5.true)

pub returns-else-sheet-eq5-clause-is : goal.returns-else-sheet-eq5-clause-is
returns-else-sheet-eq5-clause-is c = sym (says_seven _ c.if-sheet-eq5.false)
