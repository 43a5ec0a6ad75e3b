use Rattle.reader.proofs.Laws.Later.{latering, later_judged}
use Rattle.reader.proofs.later.later_refusal.Goals as goal

pub returns-then-judged-ne0 : goal.returns-then-judged-ne0
returns-then-judged-ne0 c = search later_judged

pub returns-then-room_short : goal.returns-then-room_short
returns-then-room_short c = search latering

pub location_twice-requires : goal.location_twice-requires
location_twice-requires c = search latering

pub returns-then-location_twice : goal.returns-then-location_twice
returns-then-location_twice c = search latering

pub returns-then-key_twice : goal.returns-then-key_twice
returns-then-key_twice c = search latering

pub returns-then-labels_twice : goal.returns-then-labels_twice
returns-then-labels_twice c = search latering

pub returns : goal.returns
returns c = search latering
