-- The root of a document stands where all ends that may stand before it.
use Rattle.std.specs.Prelude.{List, ℕ, ◌-◌, length, Option, Some, None}
use Rattle.grammar.specs.Read.{Read, fail, got}
use Rattle.steps.specs.Prologue.{preamble_at}

-- ON BYTES: where the root would begin; any bytes
unfoldable pub root_by : {A : Type 0} → ℕ → Read A → Option ℕ
root_by n fail = None
root_by n (got u r) = Some (n - length r)

unfoldable pub root : List ℕ → Option ℕ
root text = root_by (length text) (preamble_at text)
