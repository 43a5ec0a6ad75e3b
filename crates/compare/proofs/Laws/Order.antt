-- The order of refusals: 15 and 16 of both sheets, then 13 and 14 of the first, then 14 of the second. Assumes nothing.
use Rattle.std.specs.Prelude.{◌≡◌, refl, Bool, true, false, not, ◌||◌, List, [], ◌∷◌, ℕ, ◌+◌, ◌≤◌, ◌<◌, ltb, length}
use Rattle.std.proofs.Math.Path.{sym}
use Rattle.std.proofs.Common.{ap, ◌∙◌, arith}
use borrow.Author.Tests.{lt-ltb, le-ltb, ltb-false}
use Rattle.std.proofs.Math.Dec.{eqb}
use Rattle.lists.specs.Lists.{two_of}
use Rattle.lists.specs.Refusals.{Refusal, ◌when◌, first}
use Rattle.records.specs.Outcome.{ends, applies, passes, gives_first}
use Rattle.records.specs.Sheet.{count_of, width_of, Unpacks, unpack_refusal}
use Rattle.records.specs.declared.outcome.Outcome.{Outcome}
use Rattle.comparison.specs.Compare.{records_of, well_formed, well_filled, compare_refusal}
use Rattle.comparison.specs.Accepted.{sheet_refusal}
use Rattle.compare.specs.Refused.{sheets_refusal, front_refusal, sheet_repeat_refusal, SheetFits, Begun}
use Rattle.compare.proofs.Laws.Rows.{kept, past}

kept_four : (a b c d : Bool) (l : List Refusal) → (first (15 when not a ∷ 16 when not b ∷ 15 when not c ∷ 16 when not d ∷ []) ≡ 0 → ⊥)
    → first (15 when not a ∷ 16 when not b ∷ 15 when not c ∷ 16 when not d ∷ []) ≡ first
    (15 when not a ∷ 16 when not b ∷ 15 when not c ∷ 16 when not d ∷ l)
unfolding first
kept_four false b c d l h = refl
kept_four true false c d l h = refl
kept_four true true false d l h = refl
kept_four true true true false l h = refl
kept_four true true true true l h = absurd (h refl)

none_four : (a b c d : Bool) → first (15 when not a ∷ 16 when not b ∷ 15 when not c ∷ 16 when not d ∷ []) ≡ 0
    → (first (15 when not a ∷ 16 when not b ∷ []) ≡ 0) × (first (15 when not c ∷ 16 when not d ∷ []) ≡ 0)
unfolding first
none_four false b c d h = absurd (let z : ◌≡◌ {A = ℕ} 15 0 = h in omega arith)
none_four true false c d h = absurd (let z : ◌≡◌ {A = ℕ} 16 0 = h in omega arith)
none_four true true false d h = absurd (let z : ◌≡◌ {A = ℕ} 15 0 = h in omega arith)
none_four true true true false h = absurd (let z : ◌≡◌ {A = ℕ} 16 0 = h in omega arith)
none_four true true true true h = (refl, refl)

-- the first two rows of unpacking
seventeen : (a b c : Bool) → first (15 when a ∷ 16 when b ∷ 17 when c ∷ []) ≡ 17 → 0 ≡ first (15 when a ∷ 16 when b ∷ [])
unfolding first
seventeen true b c h = absurd (let z : ◌≡◌ {A = ℕ} 15 17 = h in omega arith)
seventeen false true c h = absurd (let z : ◌≡◌ {A = ℕ} 16 17 = h in omega arith)
seventeen false false c h = refl

other : (a b c : Bool) → (first (15 when a ∷ 16 when b ∷ 17 when c ∷ []) ≡ 17 → ⊥)
    → first (15 when a ∷ 16 when b ∷ 17 when c ∷ []) ≡ first (15 when a ∷ 16 when b ∷ [])
unfolding first
other true b c h = refl
other false true c h = refl
other false false true h = absurd (h refl)
other false false false h = refl

module _ {s before : List ℕ} {o : Outcome} {after : List ℕ} (u : Unpacks s before o after) where
  said : o.number ≡ unpack_refusal (width_of s) s (length before)
  said = ap (λ (a : Outcome). a.number) u.answers

  pub judged_room : o.number ≡ 17 → 0 ≡ sheet_refusal s
  unfolding unpack_refusal sheet_refusal
  judged_room h = seventeen (not (well_formed s)) (not (well_filled s)) (ltb (length before) (count_of s)) (sym said ∙ h)

  pub judged_number : (o.number ≡ 17 → ⊥) → o.number ≡ sheet_refusal s
  unfolding unpack_refusal sheet_refusal
  judged_number h = said ∙ other (not (well_formed s)) (not (well_filled s)) (ltb (length before) (count_of s)) (λ e. h (said ∙ e))

-- ---- Of both sheets.

module _ (s t : List ℕ) {a : ℕ} (one : a ≡ sheet_refusal s) where
  pub first_refused : (a ≡ 0 → ⊥) → a ≡ sheets_refusal s t
  unfolding sheet_refusal sheets_refusal
  first_refused h = one ∙ kept (not (well_formed s)) (not (well_filled s)) _ (λ e. h (one ∙ e))

  pub second_refused : {b : ℕ} → a ≡ 0 → b ≡ sheet_refusal t → b ≡ sheets_refusal s t
  unfolding sheet_refusal sheets_refusal
  second_refused none two = two ∙ sym (past (not (well_formed s)) (not (well_filled s)) _ (sym one ∙ none))

module _ (s t : List ℕ) {a : ℕ} (both : a ≡ sheets_refusal s t) where
  pub sheets_refused : (room : ℕ) → (a ≡ 0 → ⊥) → a ≡ front_refusal s t room
  unfolding sheets_refusal front_refusal
  sheets_refused room h = both ∙ kept_four (well_formed s) (well_filled s) (well_formed t) (well_filled t) _ (λ e. h (both ∙ e))

  pub sheets_fine : a ≡ 0 → (sheet_refusal s ≡ 0) × (sheet_refusal t ≡ 0)
  unfolding sheets_refusal sheet_refusal
  sheets_fine z = none_four (well_formed s) (well_filled s) (well_formed t) (well_filled t) (sym both ∙ z)

  module _ (z : a ≡ 0) (room : ℕ) {n m : ℕ} (counts : n ≡ count_of s) (countt : m ≡ count_of t) where
    rest : front_refusal s t room ≡ first (13 when ltb room (count_of s + count_of t) ∷ 14 when two_of eqb (records_of s) ∷ [])
    unfolding sheet_refusal front_refusal
    rest = let f = sheets_fine z in past (not (well_formed s)) (not (well_filled s)) _ f.0
        ∙ past (not (well_formed t)) (not (well_filled t)) _ f.1

    pub no_room : room < n + m → 13 ≡ front_refusal s t room
    no_room h = sym (rest ∙ gives_first (applies (lt-ltb room (count_of s + count_of t) (omega arith))))

    module _ (fits : n + m ≤ room) where
      pub fits_first : SheetFits s room
      fits_first = record { fine = (sheets_fine z).0; fits = omega arith }

      enough : ltb room (count_of s + count_of t) ≡ false
      enough = le-ltb room (count_of s + count_of t) (omega arith)

      module _ {c : Bool} (twice : c ≡ two_of eqb (records_of s)) where
        pub front_twice : c ≡ true → 14 ≡ front_refusal s t room
        front_twice h = sym (rest ∙ gives_first (passes enough (applies (sym twice ∙ h))))

        pub front_none : c ≡ false → 0 ≡ front_refusal s t room
        front_none h = sym (rest ∙ gives_first (passes enough (passes (sym twice ∙ h) ends)))

-- ---- Behind these rows.

abbrev six : (a b c d e f : Bool) → List Refusal
six a b c d e f = 15 when not a ∷ 16 when not b ∷ 15 when not c ∷ 16 when not d ∷ 13 when e ∷ 14 when f ∷ []

six_kept : (a b c d e f g : Bool) → (first (six a b c d e f) ≡ 0 → ⊥) → first (six a b c d e f) ≡ first (six a b c d e (f || g))
unfolding first
six_kept false b c d e f g h = refl
six_kept true false c d e f g h = refl
six_kept true true false d e f g h = refl
six_kept true true true false e f g h = refl
six_kept true true true true true f g h = refl
six_kept true true true true false true g h = refl
six_kept true true true true false false g h = absurd (h refl)

pub record Passed (a b c d e f : Bool) : Type 0 where
  pub one : first (15 when not a ∷ 16 when not b ∷ []) ≡ 0
  pub two : first (15 when not c ∷ 16 when not d ∷ []) ≡ 0
  pub fits : e ≡ false
  pub once : f ≡ false
  pub behind : (g : Bool) → first (six a b c d e (f || g)) ≡ first (14 when g ∷ [])

six_none : (a b c d e f : Bool) → first (six a b c d e f) ≡ 0 → Passed a b c d e f
unfolding first
six_none false b c d e f h = absurd (let z : ◌≡◌ {A = ℕ} 15 0 = h in omega arith)
six_none true false c d e f h = absurd (let z : ◌≡◌ {A = ℕ} 16 0 = h in omega arith)
six_none true true false d e f h = absurd (let z : ◌≡◌ {A = ℕ} 15 0 = h in omega arith)
six_none true true true false e f h = absurd (let z : ◌≡◌ {A = ℕ} 16 0 = h in omega arith)
six_none true true true true true f h = absurd (let z : ◌≡◌ {A = ℕ} 13 0 = h in omega arith)
six_none true true true true false true h = absurd (let z : ◌≡◌ {A = ℕ} 14 0 = h in omega arith)
six_none true true true true false false h = record { one = refl; two = refl; fits = refl; once = refl; behind = λ g. refl }

module _ (s t : List ℕ) (room : ℕ) {n : ℕ} (front : n ≡ front_refusal s t room) where
  abbrev short : Bool
  short = ltb room (count_of s + count_of t)

  pub front_refused : (n ≡ 0 → ⊥) → n ≡ compare_refusal s t room
  unfolding front_refusal compare_refusal
  front_refused h = front ∙ six_kept (well_formed s) (well_filled s) (well_formed t) (well_filled t) short (two_of eqb (records_of s))
      (two_of eqb (records_of t)) (λ e. h (front ∙ e))

  module _ (z : n ≡ 0) where
    passed : Passed (well_formed s) (well_filled s) (well_formed t) (well_filled t) short (two_of eqb (records_of s))
    unfolding front_refusal
    passed = six_none (well_formed s) (well_filled s) (well_formed t) (well_filled t) short (two_of eqb (records_of s)) (sym front ∙ z)

    pub begun : Begun s t room
    unfolding sheet_refusal
    begun = let p = passed in record {
      one = p.one;
      two = p.two;
      fits = ltb-false room (count_of s + count_of t) p.fits;
      first_once = p.once;
    }

    pub behind_front : compare_refusal s t room ≡ sheet_repeat_refusal t
    unfolding compare_refusal sheet_repeat_refusal
    behind_front = passed.behind (two_of eqb (records_of t))

    pub fits_second : SheetFits t room
    fits_second = let b = begun in let f = b.fits in record { fine = b.two; fits = omega arith }

    module _ {c : Bool} (twice : c ≡ two_of eqb (records_of t)) where
      pub second_twice : c ≡ true → 14 ≡ compare_refusal s t room
      unfolding sheet_repeat_refusal
      second_twice h = sym (behind_front ∙ gives_first (applies (sym twice ∙ h)))

      pub none_refused : c ≡ false → 0 ≡ compare_refusal s t room
      unfolding sheet_repeat_refusal
      none_refused h = sym (behind_front ∙ gives_first (passes (sym twice ∙ h) ends))
