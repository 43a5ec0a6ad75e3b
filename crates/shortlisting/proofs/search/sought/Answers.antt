use Rattle.shortlist.proofs.Laws.Entry.{seeking}
use Rattle.shortlisting.proofs.search.sought.Goals as goal

pub returns-then-is_outside : goal.returns-then-is_outside
returns-then-is_outside c = search seeking

pub returns-then-not-is_record : goal.returns-then-not-is_record
returns-then-not-is_record c = search seeking

pub returns-then-said-ne0 : goal.returns-then-said-ne0
returns-then-said-ne0 c = search seeking

pub returns : goal.returns
returns c = search seeking
