-- A reader again and again, up to where a test says so.
use Rattle.std.specs.Prelude.{List, Bool, ℕ}
use Rattle.grammar.specs.Read.{Reader, bind, all_of}

-- `p` again and again, up to where `stop` says so, and then `k`
unfoldable pub until : {A B : Type 0} → (List ℕ → Bool) → Reader A → Reader B → Reader B
until stop p k s = bind (all_of stop p s) (λ _ r. k r)
