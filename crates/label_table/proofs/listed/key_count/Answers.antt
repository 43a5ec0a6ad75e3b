use native.Mathlib.Omega.{arith}
use Rattle.label_table.proofs.Laws.Labels.{counting, counting_room}
use Rattle.label_table.proofs.listed.key_count.Goals as goal

pub first_label-kid-requires : goal.first_label-kid-requires
first_label-kid-requires c = search counting

pub loop-kid-init : goal.loop-kid-init
loop-kid-init c = search counting

pub enum_known-kid : goal.enum_known-kid
enum_known-kid c = search counting

pub next_label-kid-requires : goal.next_label-kid-requires
next_label-kid-requires c = search counting

pub overflow_add-n : goal.overflow_add-n
overflow_add-n c = omega (
  arith,
  counting_room c.loop-kid.invariant c.in-Some.is c.next_label-kid.ensures,
)

pub loop-kid-smaller : goal.loop-kid-smaller
loop-kid-smaller c = search counting

pub loop-kid-preserved : goal.loop-kid-preserved
loop-kid-preserved c = search counting

pub enum_told-1 : goal.enum_told-1
enum_told-1 c = search counting

pub returns-in-None : goal.returns-in-None
returns-in-None c = search counting
