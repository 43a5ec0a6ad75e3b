-- The walk over the keys of a table.
use Rattle.std.specs.Prelude.{◌≡◌, List, [], ◌∷◌, ℕ, suc, ◌<◌, length, Option, Some, None}
use Rattle.std.proofs.Math.Path.{ap}
use Rattle.std.proofs.Common.{arith}
use Rattle.lists.specs.Lists.{each}
use Rattle.label_table.specs.Labels.{first_label, next_label}
use Rattle.label_table.proofs.Laws.Labels.{row_first, row_done, row_next}
use Rattle.label_table.specs.Codes.{code_here, codes_at}
use Rattle.label_table.specs.Walks.{row, to_come}

module _ (text : List ℕ) {kid kid₁ : Option ℕ} {k : ℕ} (is_child : kid ≡ Some k) (e : kid₁ ≡ next_label text k) where
  pub walk_less : length (row text kid₁) < length (row text kid)
  walk_less = let z : length (row text kid) ≡ suc (length (row text kid₁)) = ap length (row_next text is_child e) in omega arith

  pub come_more : to_come text kid ≡ code_here text k ∷ to_come text kid₁
  unfolding each
  come_more = ap (each (code_here text)) (row_next text is_child e)

pub come_first : (text : List ℕ) (at : ℕ) {kid : Option ℕ} → kid ≡ first_label text at → to_come text kid ≡ codes_at text at
unfolding codes_at
come_first text at e = ap (each (code_here text)) (row_first text at e)

pub come_done : (text : List ℕ) {kid : Option ℕ} → kid ≡ None → to_come text kid ≡ []
unfolding each
come_done text e = ap (each (code_here text)) (row_done text e)
