use Rattle.std.proofs.Common.{ap, not, rules}
use Rattle.steps.proofs.Laws.Attributes.{list_start_lem, list_within, list_ends, list_many, list_bad, list_twice, list_more, list_less}
use Rattle.heads.proofs.attributes.some_attributes_end.Goals as goal

pub loop-starts-init : goal.loop-starts-init
loop-starts-init c = search (list_start_lem, rules)

pub returns-then-n-eq16 : goal.returns-then-n-eq16
returns-then-n-eq16 c = search (list_many, rules)

pub is_noted-requires : goal.is_noted-requires
is_noted-requires c = list_within _ _ _ _ _ _ c.loop-starts.invariant c.named_at.ensures c.in_ok-from.was

pub returns-then-is_noted : goal.returns-then-is_noted
returns-then-is_noted c =
    list_twice _ _ _ _ _ _ c.loop-starts.invariant c.tag_ends.ensures (ap not c.loop-starts-test.true) c.named_at.ensures c.in_ok-from.was
    c.is_noted.ensures c.if-is_noted.true

pub loop-starts-smaller : goal.loop-starts-smaller
loop-starts-smaller c = search (list_less, rules)

pub loop-starts-preserved : goal.loop-starts-preserved
loop-starts-preserved c = search (list_more, rules)

pub returns-in_err-from : goal.returns-in_err-from
returns-in_err-from c = rw c.from_residual.ensures
    (list_bad _ _ _ _ _ _ c.loop-starts.invariant c.tag_ends.ensures (ap not c.loop-starts-test.true) c.named_at.ensures c.in_err-from.was)

pub returns : goal.returns
returns c = search (list_ends, rules)
