use Rattle.base64_reader.proofs.Laws.Groups.{four_more, four_last}
use Rattle.base64_reader.proofs.groups.group_of.Goals as goal

pub returns-in-None : goal.returns-in-None
returns-in-None c = four_last _ _ _ _ _ _ c.if-s-eq65.true c.next_letter.ensures
    c.in-None.is c.last_of.ensures

pub returns-in-Some : goal.returns-in-Some
returns-in-Some c = four_more _ _ _ _ _ _ c.if-s-eq65.true c.next_letter.ensures c.in-Some.is
