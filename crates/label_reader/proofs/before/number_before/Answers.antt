use Rattle.label_reader.proofs.Laws.Before.{before, before_key}
use Rattle.label_reader.proofs.before.number_before.Goals as goal

pub returns-then-n-ne0 : goal.returns-then-n-ne0
returns-then-n-ne0 c = search before

pub returns-then-key_twice : goal.returns-then-key_twice
returns-then-key_twice c =
    before_key c.surveyed-s.ensures c.if-n-ne0.false c.key_twice.ensures
    c.if-key_twice.true

pub returns-then-labels_twice : goal.returns-then-labels_twice
returns-then-labels_twice c = search before

pub returns : goal.returns
returns c = search before
