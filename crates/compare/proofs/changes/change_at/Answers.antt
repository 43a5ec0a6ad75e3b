use Rattle.std.proofs.Common.{◌∙◌}
use Rattle.compare.proofs.Laws.Change.{at_place, anywhere, says_same, says_moved_lem, says_first, says_none, says_both, says_second}
use Rattle.compare.proofs.changes.change_at.Goals as goal

pub returns-then-eq : goal.returns-then-eq
returns-then-eq c = says_same _ _ _ c.in-Some.x c.in-Some.ensures.lookup
    (c.eq.ensures ∙ at_place _ _ _ c.in-Some.x c.get-in-Some.ensures.lookup) c.if-eq.true

pub returns-then-contains : goal.returns-then-contains
returns-then-contains c = says_moved_lem _ _ _ c.in-Some.x c.in-Some.ensures.lookup
    (c.eq.ensures ∙ at_place _ _ _ c.in-Some.x c.get-in-Some.ensures.lookup) c.if-eq.false
    (c.contains.ensures.value ∙ anywhere _ _) c.if-contains.true

pub returns-else-contains : goal.returns-else-contains
returns-else-contains c = says_first _ _ _ c.in-Some.x c.in-Some.ensures.lookup
    (c.eq.ensures ∙ at_place _ _ _ c.in-Some.x c.get-in-Some.ensures.lookup) c.if-eq.false
    (c.contains.ensures.value ∙ anywhere _ _) c.if-contains.false

pub returns-then-contains-2 : goal.returns-then-contains-2
returns-then-contains-2 c = says_both _ _ _ c.in_default.ensures.lookup.3 c.in-Some-get.x c.in-Some-get.ensures.lookup
    (c.contains-in-Some-get.ensures.value ∙ anywhere _ _) c.if-contains-2.true

pub returns-else-contains-2 : goal.returns-else-contains-2
returns-else-contains-2 c = says_second _ _ _ c.in_default.ensures.lookup.3 c.in-Some-get.x c.in-Some-get.ensures.lookup
    (c.contains-in-Some-get.ensures.value ∙ anywhere _ _) c.if-contains-2.false

pub returns-in_default-get : goal.returns-in_default-get
returns-in_default-get c = says_none _ _ _ c.in_default.ensures.lookup.3 c.in_default-get.ensures.lookup.3
