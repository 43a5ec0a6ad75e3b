-- The numbers of labels have no limits: those of the table need not be read.
use Rattle.std.specs.Prelude.{◌≡◌, refl, List, Bool, ℕ, ◌<◌}
use Rattle.std.proofs.Common.{arith, rules}
use Rattle.grammar.specs.Look.{Word}
use Rattle.schema.specs.Schema.{is_number}
use Rattle.schema.specs.Table.{form_at, form_cell}
use Rattle.schema.specs.Parts.{label_by_form}
use Rattle.schema.proofs.Laws.Values.{right_number, by_label}

pub right_label : (t l : List ℕ) (x : Word) (f : ℕ) {id : ℕ} → id ≡ form_cell t f 0 → 6 < id → {r : Bool} → r ≡ label_by_form id x
    → r ≡ is_number (form_at t l f) x
right_label t l x f {id} i h k =
    right_number t l x f i refl refl refl
    (by_label x id (form_cell t f 1) (form_cell t f 2) (form_cell t f 3) (λ e. omega arith) (λ e. omega arith) (λ e. omega arith)
    (λ e. omega arith) (λ e. omega arith) k)

pub ruleset numbering = (right_label, right_number, rules)
