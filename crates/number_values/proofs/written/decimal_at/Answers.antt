use Rattle.numbers.proofs.Laws.Signs.{reading_signs}
use Rattle.number_values.proofs.written.decimal_at.Goals as goal

pub sign_at-lead-requires : goal.sign_at-lead-requires
sign_at-lead-requires c = search reading_signs

pub pure_decimal-requires : goal.pure_decimal-requires
pure_decimal-requires c = search reading_signs

pub returns : goal.returns
returns c = search reading_signs
