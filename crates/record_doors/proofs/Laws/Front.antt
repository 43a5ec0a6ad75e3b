-- One number, and one content of the slice lent, of the function that tells where the text of a file is.
use Rattle.std.specs.Prelude.{◌≡◌, List, ℕ}
use Rattle.std.proofs.Common.{sym, ap, ◌∙◌}
use Rattle.nifti.proofs.Laws.File.{front_unique}
use Rattle.nifti.specs.declared.Front.{Front}
use Rattle.flat.specs.Flat.{laid_over}
use Rattle.record_doors.specs.Front.{front_numbers, FrontsFlat}

module _ {file slice : List ℕ} {m n : ℕ} {a b : List ℕ} where
  pub front_flat_unique : FrontsFlat file slice m a → FrontsFlat file slice n b → (m ≡ n) × (a ≡ b)
  front_flat_unique p q =
      let e = front_unique p.fronts q.fronts in (
        p.numbered ∙ ap (λ (x : Front). x.number) e ∙ sym q.numbered,
        p.flat
            ∙ ap (λ (x : Front). laid_over (front_numbers x) slice) e ∙ sym q.flat,
      )
