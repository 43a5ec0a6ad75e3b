-- FILLING BY MODELS: each model's numbers are written at its offset, in text order. Where every index lies in exactly one range, that is
-- the table by index (`lists/specs/Filling`).
use Rattle.std.specs.Prelude.{◌≡◌, List, [], ◌∷◌, cond, ℕ, ◌+◌, ◌-◌, ◌≤◌, length, get_or}
use Rattle.cifti.specs.Maps.{Model, covers}
use Rattle.records.specs.Fill.{wrote}

module _ (f : Model → List ℕ) where
  -- what the code does: model after model, each at its offset
  unfoldable pub filled : ℕ → List Model → List ℕ → List ℕ
  filled start [] s = s
  filled start (m ∷ l) s = filled start l (wrote (start + m.offset) (f m) s)

  -- what stands at an index: the entry of the first model whose range the index is in
  unfoldable pub entry_at : List Model → ℕ → ℕ
  entry_at [] n = 0
  entry_at (m ∷ l) n = cond (covers n m) (get_or (f m) (n - m.offset) 0) (entry_at l n)

  -- each model lists as many as it counts, and stays below the size
  pub data Fitting (size : ℕ) : List Model → Type 0 where
    none_fits : Fitting size []
    one_fits : {m : Model} {l : List Model} → length (f m) ≡ m.count → m.offset + m.count ≤ size → Fitting size l → Fitting size (m ∷ l)
