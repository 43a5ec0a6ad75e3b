-- What is proved of Fill: where every index lies in exactly one range, the models written one after the other are the table by index.
use Rattle.std.specs.Prelude.{◌≡◌, cond, ℕ, ◌+◌, ◌-◌, ◌<◌, ◌≤◌, length, get_or}
use Rattle.std.proofs.Math.Path.{refl, ap}
use Rattle.std.proofs.Common.{◌∙◌}
use mathlib.Core.List.{List, [], ◌∷◌}
use Rattle.lists.specs.Lists.{tabulated, count}
use Rattle.lists.specs.Ranges.{holds}
use Rattle.lists.specs.Filling as Filling
use Rattle.lists.proofs.Laws.Filling as FillingLaws
pub use Rattle.lists.proofs.Laws.Filling.{wrote_in, wrote_before, wrote_past}
pub use Rattle.lists.proofs.Laws.Tables.{table_same}
use Rattle.cifti.specs.Maps.{Model, covers}
use Rattle.records.specs.Fill.{wrote}
use Rattle.maps.specs.Fill.{filled, entry_at, Fitting, none_fits, one_fits}

module _ (f : Model → List ℕ) where
  -- ---- The same, of ranges.

  filled_so : (start : ℕ) (l : List Model) (s : List ℕ)
      → filled f start l s ≡ Filling.filled (λ (m : Model). m.offset) (λ (m : Model). m.count) f start l s
  unfolding filled Filling.filled
  filled_so start [] s = refl
  filled_so start (m ∷ l) s = filled_so start l (wrote (start + m.offset) (f m) s)

  entry_so : (l : List Model) (n : ℕ) → Filling.entry_at (λ (m : Model). m.offset) (λ (m : Model). m.count) f l n ≡ entry_at f l n
  unfolding entry_at covers holds Filling.entry_at
  entry_so [] n = refl
  entry_so (m ∷ l) n = ap (cond (covers n m) (get_or (f m) (n - m.offset) 0)) (entry_so l n)

  fitting_so : {size : ℕ} {l : List Model} → Fitting f size l → Filling.Fitting (λ (m : Model). m.offset) (λ (m : Model). m.count) f size l
  fitting_so none_fits = Filling.none_fits
  fitting_so (one_fits h k more) = Filling.one_fits h k (fitting_so more)

  module _ (start size : ℕ) where
    -- THE LAW: all models written one after the other are the table by index
    pub filled_law : (l : List Model) (s : List ℕ) → Fitting f size l → start + size ≤ length s
        → ((n : ℕ) → n < size → count (covers n) l ≡ 1)
        → filled f start l s ≡ wrote start (tabulated size (entry_at f l)) s
    unfolding covers holds
    filled_law l s fit h once =
        filled_so start l s
        ∙ FillingLaws.filled_law (λ (m : Model). m.offset) (λ (m : Model). m.count) f start size l s (fitting_so fit) h once
        ∙ ap (λ t. wrote start t s) (table_same (entry_so l) size)
