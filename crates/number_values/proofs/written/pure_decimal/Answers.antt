use Rattle.numbers.proofs.Laws.Spelled.{purely, pure_other}
use native.Mathlib.Omega.{arith}
use borrow.Author.Rules.{rules}
use Rattle.number_values.proofs.written.pure_decimal.Goals as goal

pub digits-run-requires : goal.digits-run-requires
digits-run-requires c = search purely

pub returns-then-run-eq0 : goal.returns-then-run-eq0
returns-then-run-eq0 c = search purely

pub char_at-c-requires : goal.char_at-c-requires
char_at-c-requires c = search purely

pub places_at-requires : goal.places_at-requires
places_at-requires c = search purely

pub signed-requires : goal.signed-requires
signed-requires c = search purely

pub power_at-requires : goal.power_at-requires
power_at-requires c =
    (c.char_at-c.ensures, omega arith)

pub returns-in-Some : goal.returns-in-Some
returns-in-Some c = search purely

pub returns-in_default : goal.returns-in_default
returns-in_default c = search purely
