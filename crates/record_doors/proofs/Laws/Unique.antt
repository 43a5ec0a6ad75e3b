-- ONE ANSWER, and one content of each lent slice, for every input.
use Rattle.std.specs.Prelude.{◌≡◌, List, [], ◌∷◌, ℕ}
use Rattle.std.proofs.Common.{sym, ap, ◌∙◌}
use Rattle.records.proofs.Laws.Unique.{find_unique, pack_unique, unpack_unique}
use Rattle.records.specs.declared.search.RecordFound.{RecordFound}
use Rattle.records.specs.declared.outcome.Outcome.{Outcome}
use Rattle.flat.specs.Flat.{laid_over}
use Rattle.record_doors.specs.Promises.{FindsFlat, PacksFlat, UnpacksFlat}

module _ {records slice : List ℕ} {x m n : ℕ} {a b : List ℕ} where
  pub find_flat_unique : FindsFlat records x slice m a → FindsFlat records x slice n b → (m ≡ n) × (a ≡ b)
  find_flat_unique p q =
      let e : p.answer ≡ q.answer = find_unique records x p.answer q.answer p.finds q.finds in (
        p.numbered ∙ ap (λ (f : RecordFound). f.number) e ∙ sym q.numbered,
        p.flat ∙ ap (λ (f : RecordFound). laid_over (f.place.0 ∷ []) slice) e ∙ sym q.flat,
      )

module _ {records sheet slice : List ℕ} {m n : ℕ} {s t a b : List ℕ} where
  pub pack_flat_unique : PacksFlat records sheet slice m s a → PacksFlat records sheet slice n t b → (m ≡ n) × (s ≡ t) × (a ≡ b)
  pack_flat_unique p q =
      let (e, f) = pack_unique records sheet p.answer q.answer s t p.packs q.packs in (
        p.numbered ∙ ap (λ (k : Outcome). k.number) e ∙ sym q.numbered,
        f,
        p.flat ∙ ap (λ (k : Outcome). laid_over (k.value ∷ []) slice) e ∙ sym q.flat,
      )

module _ {sheet records slice : List ℕ} {m n : ℕ} {r s a b : List ℕ} where
  pub unpack_flat_unique : UnpacksFlat sheet records slice m r a → UnpacksFlat sheet records slice n s b → (m ≡ n) × (r ≡ s) × (a ≡ b)
  unpack_flat_unique p q =
      let (e, f) = unpack_unique sheet records p.answer q.answer r s p.unpacks q.unpacks in (
        p.numbered ∙ ap (λ (k : Outcome). k.number) e ∙ sym q.numbered,
        f,
        p.flat ∙ ap (λ (k : Outcome). laid_over (k.value ∷ []) slice) e ∙ sym q.flat,
      )
