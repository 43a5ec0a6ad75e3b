-- ONLY ONE ANSWER of `opened`.
use Rattle.std.specs.Prelude.{◌≡◌, refl, List, [], ◌∷◌, Bool, true, false, ℕ, ◌≤◌}
use Rattle.std.proofs.Common.{sym, ap, ◌∙◌, arith}
use Rattle.std.proofs.Math.Decide.{ℕ_discrete}
use Rattle.cifti.specs.Conditions as C
use Rattle.cifti.specs.Conditions.{◌when◌}
use Rattle.opening.specs.Opening.{Opens, Passed, header_number}
use Rattle.opening.proofs.Laws.Opening.{header_document, not_long}
use Rattle.opening.specs.declared.header.Opening.{Opening}

later_two : (x y : Bool) → C.first (8 when x ∷ 9 when y ∷ []) ≤ 7 → C.first (8 when x ∷ 9 when y ∷ []) ≡ 0
unfolding C.first
later_two true y h = absurd (omega arith)
later_two false true h = absurd (omega arith)
later_two false false h = refl

-- where 1 to 7 do not apply, the first of 1 to 9 is none of them
passed_none : {text lengths : List ℕ} {m : ℕ} → Passed text lengths m → header_number text lengths ≤ 7 → header_number text lengths ≡ 0
passed_none {text} {lengths} p h =
    let e = rw (p.right_root, p.read_kinds, p.shape, p.numbers) at
    (header_document text lengths p.fine (not_long text p.short) p.document p.parsed) in
    e ∙ later_two _ _ (rw e at h)

abbrev opening_of : ℕ → ℕ → Opening
opening_of n m = record { number = n; matrix = m }

same_opening : (a b : Opening) → a.number ≡ b.number → a.matrix ≡ b.matrix → a ≡ b
same_opening a b p q = ap (λ n. opening_of n a.matrix) p ∙ ap (opening_of b.number) q

opens_number : {text lengths : List ℕ} {a b : Opening} → Opens text lengths a → Opens text lengths b → a.number ≡ b.number
opens_number {text} {lengths} {a} {b} x y = go (ℕ_discrete a.number 0) (ℕ_discrete b.number 0)
  where
    go : Dec (a.number ≡ 0) → Dec (b.number ≡ 0) → a.number ≡ b.number
    go (yes p) (yes q) = p ∙ sym q
    go (no p) (no q) = x.refused p ∙ sym (y.refused q)
    go (yes p) (no q) = absurd (q (y.refused q ∙ passed_none (x.passed p) (rw (y.refused q) at y.among)))
    go (no p) (yes q) = absurd (p (x.refused p ∙ passed_none (y.passed q) (rw (x.refused p) at x.among)))

pub opens_unique : {text lengths : List ℕ} {a b : Opening} → Opens text lengths a → Opens text lengths b → a ≡ b
opens_unique {text} {lengths} {a} {b} x y = same_opening a b n (go (ℕ_discrete a.number 0))
  where
    n : a.number ≡ b.number
    n = opens_number x y

    go : Dec (a.number ≡ 0) → a.matrix ≡ b.matrix
    go (yes p) = x.there_it_is p ∙ sym (y.there_it_is (sym n ∙ p))
    go (no p) = x.nowhere p ∙ sym (y.nowhere (λ z. p (n ∙ z)))
