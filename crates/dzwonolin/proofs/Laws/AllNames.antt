-- One number, and one content of each slice lent, of all names for C.
use Rattle.std.specs.Prelude.{◌≡◌, List, [], ◌∷◌, ℕ}
use Rattle.std.proofs.Common.{sym, ap, ◌∙◌}
use Rattle.records.specs.declared.outcome.Outcome.{Outcome}
use Rattle.flat.specs.Flat.{laid_over}
use Rattle.all_names.proofs.Laws.Unique.{map_names_unique}
use Rattle.dzwonolin.specs.AllNames.{MapNamesFlat}

module _ {text lengths : List ℕ} {d : ℕ} {places slice : List ℕ} {m n : ℕ} {s t a b : List ℕ} where
  pub map_names_flat_unique : MapNamesFlat text lengths d places slice m s a → MapNamesFlat text lengths d places slice n t b → (m ≡ n)
      × (s ≡ t) × (a ≡ b)
  map_names_flat_unique p q =
      let (e, f) = map_names_unique p.placed q.placed in (
        p.numbered ∙ ap (λ (k : Outcome). k.number) e ∙ sym q.numbered,
        f,
        p.flat ∙ ap (λ (k : Outcome). laid_over (k.value ∷ []) slice) e ∙ sym q.flat,
      )
