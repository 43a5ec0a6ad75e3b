-- The promise leaves one count, and one content of the slice lent.
use Rattle.std.specs.Prelude.{◌≡◌, List, ℕ}
use Rattle.std.proofs.Common.{sym, ◌∙◌}
use Rattle.card.specs.Written.{WritesOut}

pub writes_unique : {bytes out : List ℕ} {m n : ℕ} {s t : List ℕ} → WritesOut bytes out m s → WritesOut bytes out n t → (m ≡ n) × (s ≡ t)
writes_unique p q = (p.counted ∙ sym q.counted, p.filled ∙ sym q.filled)
