-- One number, and one content of each slice lent, of the functions of labels for C.
use Rattle.std.specs.Prelude.{◌≡◌, List, [], ◌∷◌, ℕ, ℤ}
use Rattle.std.proofs.Common.{sym, ap, ◌∙◌}
use Rattle.cifti.proofs.Laws.Labels.{keys_unique}
use Rattle.map_names.specs.declared.NamePlace.{NamePlace}
use Rattle.label_reader.proofs.Laws.Names.{label_place_unique}
use Rattle.flat.specs.Flat.{laid_over}
use Rattle.dzwonolin.specs.Labels.{KeysFlat, LabelsFlat}

module _ {text lengths : List ℕ} {d i : ℕ} {keys s t : List ℤ} {slice : List ℕ} {m n : ℕ} {a b : List ℕ} where
  pub keys_flat_unique : KeysFlat text lengths d i keys slice m s a → KeysFlat text lengths d i keys slice n t b
      → (m ≡ n) × (s ≡ t) × (a ≡ b)
  keys_flat_unique p q =
      let (e, c, f) = keys_unique p.keyed q.keyed in
      (e, f, p.flat ∙ ap (λ k. laid_over (k ∷ []) slice) c ∙ sym q.flat)

module _ {text lengths : List ℕ} {d i : ℕ} {key : ℤ} {slice : List ℕ} {m n : ℕ} {a b : List ℕ} where
  pub label_flat_unique : LabelsFlat text lengths d i key slice m a → LabelsFlat text lengths d i key slice n b → (m ≡ n) × (a ≡ b)
  label_flat_unique p q =
      let e = label_place_unique p.places q.places in (
        p.numbered ∙ ap (λ (x : NamePlace). x.number) e ∙ sym q.numbered,
        p.flat ∙ ap (λ (x : NamePlace). laid_over (x.start ∷ x.length ∷ []) slice) e ∙ sym q.flat,
      )
