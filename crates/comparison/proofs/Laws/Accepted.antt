-- What is known of two sheets that are not refused. Assumes nothing.
use Rattle.std.specs.Prelude.{◌≡◌, refl, Bool, true, false, not, ◌||◌, List, [], ◌∷◌, ℕ, ◌+◌, eqb, ltb}
use Rattle.std.proofs.Common.{sym, ◌∙◌, arith, ltb-false}
use Rattle.lists.specs.Lists.{two_of}
use Rattle.lists.specs.Refusals.{◌when◌, first}
use Rattle.lists.proofs.Laws.Booleans.{or_left, or_right}
use Rattle.records.specs.Sheet.{count_of}
use Rattle.comparison.specs.Compare.{records_of, well_formed, well_filled, compare_refusal}
use Rattle.comparison.specs.Accepted.{sheet_refusal, Accepted}

-- a sheet that is not refused
pub fine : (s : List ℕ) → sheet_refusal s ≡ 0 → (well_formed s ≡ true) × (well_filled s ≡ true)
unfolding sheet_refusal first
fine s h = go (well_formed s) (well_filled s) h
  where
    go : (a b : Bool) → first (15 when not a ∷ 16 when not b ∷ []) ≡ 0 → (a ≡ true) × (b ≡ true)
    go true true h = (refl, refl)
    go true false h = absurd (let z : ◌≡◌ {A = ℕ} 16 0 = h in omega arith)
    go false b h = absurd (let z : ◌≡◌ {A = ℕ} 15 0 = h in omega arith)

-- six rows of which none applies
none : (a b c d e f : Bool) → first (15 when not a ∷ 16 when not b ∷ 15 when not c ∷ 16 when not d ∷ 13 when e ∷ 14 when f ∷ []) ≡ 0
    → (first (15 when not a ∷ 16 when not b ∷ []) ≡ 0) × ((first (15 when not c ∷ 16 when not d ∷ []) ≡ 0) × ((e ≡ false) × (f ≡ false)))
unfolding first
none false b c d e f h = absurd (let z : ◌≡◌ {A = ℕ} 15 0 = h in omega arith)
none true false c d e f h = absurd (let z : ◌≡◌ {A = ℕ} 16 0 = h in omega arith)
none true true false d e f h = absurd (let z : ◌≡◌ {A = ℕ} 15 0 = h in omega arith)
none true true true false e f h = absurd (let z : ◌≡◌ {A = ℕ} 16 0 = h in omega arith)
none true true true true true f h = absurd (let z : ◌≡◌ {A = ℕ} 13 0 = h in omega arith)
none true true true true false true h = absurd (let z : ◌≡◌ {A = ℕ} 14 0 = h in omega arith)
none true true true true false false h = (refl, (refl, (refl, refl)))

pub accepted : (s t : List ℕ) (room : ℕ) {n : ℕ} → n ≡ compare_refusal s t room → n ≡ 0 → Accepted s t room
unfolding compare_refusal sheet_refusal
accepted s t room e z =
    let two = two_of eqb (records_of s) in
    let too = two_of eqb (records_of t) in
    let g = none (well_formed s) (well_filled s) (well_formed t) (well_filled t) (ltb room (count_of s + count_of t)) (two || too) (sym e
    ∙ z) in
    record {
      one = g.0;
      two = g.1.0;
      fits = ltb-false room (count_of s + count_of t) g.1.1.0;
      first_once = or_left two too g.1.1.1;
      second_once = or_right two too g.1.1.1;
    }
