-- ONE ANSWER, and one content of each lent slice, for every input.
use Rattle.std.specs.Prelude.{◌≡◌, List, [], ◌∷◌, ℕ}
use Rattle.std.proofs.Common.{sym, ap, ◌∙◌}
use Rattle.cifti.proofs.Laws.Theorems.{reads_unique}
use Rattle.cifti.specs.declared.answer.Answer.{Answer}
use Rattle.map_names.proofs.Laws.Placed.{place_unique}
use Rattle.map_names.specs.declared.NamePlace.{NamePlace}
use Rattle.flat.specs.Flat.{answer_numbers, laid_over}
use Rattle.file_reader.proofs.Laws.Unique.{read_file_unique, file_place_unique}
use Rattle.dzwonolin.specs.Promises.{ReadsFlat, NamesFlat, ReadsFileFlat, FileNamesFlat}

module _ {text lengths records work slice : List ℕ} {m n : ℕ} {r s v w a b : List ℕ} where
  pub read_flat_unique : ReadsFlat text lengths records work slice m r v a → ReadsFlat text lengths records work slice n s w b → (m ≡ n)
      × (r ≡ s) × (v ≡ w) × (a ≡ b)
  read_flat_unique p q =
      let (e, f, g) = reads_unique p.reads q.reads in (
        p.numbered ∙ ap (λ (x : Answer). x.number) e ∙ sym q.numbered,
        f,
        g,
        p.flat
            ∙ ap (λ (x : Answer). laid_over (answer_numbers x) slice) e ∙ sym q.flat,
      )

module _ {text lengths : List ℕ} {d i : ℕ} {slice : List ℕ} {m n : ℕ} {a b : List ℕ} where
  pub name_flat_unique : NamesFlat text lengths d i slice m a → NamesFlat text lengths d i slice n b → (m ≡ n) × (a ≡ b)
  name_flat_unique p q =
      let e = place_unique p.places q.places in (
        p.numbered ∙ ap (λ (x : NamePlace). x.number) e ∙ sym q.numbered,
        p.flat
            ∙ ap (λ (x : NamePlace). laid_over (x.start ∷ x.length ∷ []) slice) e ∙ sym q.flat,
      )

-- ---- Of a file.

module _ {file records work slice : List ℕ} {m n : ℕ} {r s v w a b : List ℕ} where
  pub read_file_flat_unique : ReadsFileFlat file records work slice m r v a → ReadsFileFlat file records work slice n s w b → (m ≡ n)
      × (r ≡ s) × (v ≡ w) × (a ≡ b)
  read_file_flat_unique p q =
      let (e, f, g) = read_file_unique p.reads q.reads in (
        p.numbered ∙ ap (λ (x : Answer). x.number) e ∙ sym q.numbered,
        f,
        g,
        p.flat
            ∙ ap (λ (x : Answer). laid_over (answer_numbers x) slice) e ∙ sym q.flat,
      )

module _ {file : List ℕ} {d i : ℕ} {slice : List ℕ} {m n : ℕ} {a b : List ℕ} where
  pub file_name_flat_unique : FileNamesFlat file d i slice m a → FileNamesFlat file d i slice n b → (m ≡ n) × (a ≡ b)
  file_name_flat_unique p q =
      let e = file_place_unique p.places q.places in (
        p.numbered ∙ ap (λ (x : NamePlace). x.number) e ∙ sym q.numbered,
        p.flat
            ∙ ap (λ (x : NamePlace). laid_over (x.start ∷ x.length ∷ []) slice) e ∙ sym q.flat,
      )
