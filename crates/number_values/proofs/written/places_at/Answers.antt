use Rattle.numbers.proofs.Laws.Decimal.{placing, point_room}
use Rattle.number_values.proofs.written.places_at.Goals as goal

pub overflow_sub-count : goal.overflow_sub-count
overflow_sub-count c = search placing

pub digits-run-requires : goal.digits-run-requires
digits-run-requires c = point_room c.requires

pub returns-then-run-eq0 : goal.returns-then-run-eq0
returns-then-run-eq0 c = search placing

pub char_at-c-requires : goal.char_at-c-requires
char_at-c-requires c = search placing

pub signed-requires : goal.signed-requires
signed-requires c = search placing

pub power_at-requires : goal.power_at-requires
power_at-requires c = search placing

pub returns : goal.returns
returns c = search placing
