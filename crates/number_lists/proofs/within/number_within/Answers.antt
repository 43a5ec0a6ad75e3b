use Rattle.number_lists.proofs.Laws.Within.{taking, blanks_past, within_number}
use Rattle.number_lists.proofs.within.number_within.Goals as goal

pub overflow_add-result-then-blank_byte : goal.overflow_add-result-then-blank_byte
overflow_add-result-then-blank_byte c = search taking

pub returns-then-blank_byte : goal.returns-then-blank_byte
returns-then-blank_byte c =
    let past = blanks_past c.plain_blanks-i.ensures c.requires in
    within_number c.plain_digits-run.ensures c.blank_byte.ensures c.if-blank_byte.true past c.if-run-eq0.false
