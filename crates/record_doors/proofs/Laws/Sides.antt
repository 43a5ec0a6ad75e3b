-- One number, and one content of each slice lent, of the functions on two sheets for C.
use Rattle.std.specs.Prelude.{◌≡◌, List, ℕ}
use Rattle.std.proofs.Common.{sym, ap, ◌∙◌}
use Rattle.comparison.specs.declared.Compared.{Compared}
use Rattle.comparison.specs.declared.TailPlace.{TailPlace}
use Rattle.flat.specs.Flat.{laid_over}
use Rattle.record_doors.specs.Sides.{compared_numbers, place_numbers, ComparesFlat, TailsFlat}

module _ {s t work slice : List ℕ} {m n : ℕ} {v w a b : List ℕ} where
  pub compare_flat_unique : ComparesFlat s t work slice m v a → ComparesFlat s t work slice n w b → (m ≡ n) × (v ≡ w) × (a ≡ b)
  compare_flat_unique p q =
      let e : p.answer ≡ q.answer = p.compares.answers ∙ sym q.compares.answers in (
        p.numbered ∙ ap (λ (x : Compared). x.number) e ∙ sym q.numbered,
        p.compares.zero ∙ sym q.compares.zero,
        p.flat ∙ ap (λ (x : Compared). laid_over (compared_numbers x) slice) e ∙ sym q.flat,
      )

  pub tail_flat_unique : TailsFlat s t work slice m v a → TailsFlat s t work slice n w b → (m ≡ n) × (v ≡ w) × (a ≡ b)
  tail_flat_unique p q =
      let e : p.answer ≡ q.answer = p.places.answers ∙ sym q.places.answers in (
        p.numbered ∙ ap (λ (x : TailPlace). x.number) e ∙ sym q.numbered,
        p.places.zero ∙ sym q.places.zero,
        p.flat ∙ ap (λ (x : TailPlace). laid_over (place_numbers x) slice) e ∙ sym q.flat,
      )
