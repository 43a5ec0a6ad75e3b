-- The paper's number of two sheets, by the rows in the order in which the code asks for them. Assumes nothing.
use Rattle.std.specs.Prelude.{◌≡◌, refl, Bool, true, false, not, ◌||◌, List, [], ◌∷◌, ℕ, ◌+◌, ◌≤◌, ◌<◌, ltb, length}
use Rattle.std.proofs.Math.Path.{sym}
use Rattle.std.proofs.Common.{ap, ◌∙◌, arith}
use borrow.Author.Tests.{lt-ltb, le-ltb}
use Rattle.std.proofs.Math.Dec.{eqb}
use Rattle.lists.specs.Lists.{two_of}
use Rattle.lists.specs.Refusals.{Refusal, ◌when◌, first}
use Rattle.lists.proofs.Laws.Booleans.{or_first, or_second, or_neither}
use Rattle.records.specs.Outcome.{ends, applies, passes, gives_first}
use Rattle.records.specs.Sheet.{count_of, width_of, Unpacks, unpack_refusal}
use Rattle.records.specs.declared.outcome.Outcome.{Outcome}
use Rattle.comparison.specs.Compare.{records_of, well_formed, well_filled, compare_refusal}
use Rattle.comparison.specs.Accepted.{sheet_refusal}
use Rattle.comparison.proofs.Laws.Accepted.{fine}
use Rattle.comparison.proofs.Laws.Counts.{formed_most}
use Rattle.matching.specs.declared.sheet.Sheet.{Sheet}
use Rattle.compare.specs.declared.refusal.Refusal as why
use Rattle.compare.specs.declared.refusal.Refusal.TheVariants.{NoSheet, BadRecord, NoRoom, Repeated}
use Rattle.compare.specs.Refused.{number_of, Begun}

-- a refusal has a number
pub refused : (r : why.Refusal) → number_of r ≡ 0 → ⊥
refused NoSheet h = omega arith
refused BadRecord h = omega arith
refused NoRoom h = omega arith
refused Repeated h = omega arith

-- ---- One sheet, by the number of unpacking.

fifteen : (a b c : Bool) → first (15 when a ∷ 16 when b ∷ 17 when c ∷ []) ≡ 15 → 15 ≡ first (15 when a ∷ 16 when b ∷ [])
unfolding first
fifteen true b c h = refl
fifteen false true c h = absurd (let z : ◌≡◌ {A = ℕ} 16 15 = h in omega arith)
fifteen false false true h = absurd (let z : ◌≡◌ {A = ℕ} 17 15 = h in omega arith)
fifteen false false false h = absurd (let z : ◌≡◌ {A = ℕ} 0 15 = h in omega arith)

sixteen : (a b c : Bool) → first (15 when a ∷ 16 when b ∷ 17 when c ∷ []) ≡ 16 → 16 ≡ first (15 when a ∷ 16 when b ∷ [])
unfolding first
sixteen true b c h = absurd (let z : ◌≡◌ {A = ℕ} 15 16 = h in omega arith)
sixteen false true c h = refl
sixteen false false true h = absurd (let z : ◌≡◌ {A = ℕ} 17 16 = h in omega arith)
sixteen false false false h = absurd (let z : ◌≡◌ {A = ℕ} 0 16 = h in omega arith)

neither : (a b c : Bool) → (first (15 when a ∷ 16 when b ∷ 17 when c ∷ []) ≡ 15 → ⊥)
    → (first (15 when a ∷ 16 when b ∷ 17 when c ∷ []) ≡ 16 → ⊥) → first (15 when a ∷ 16 when b ∷ []) ≡ 0
unfolding first
neither true b c h k = absurd (h refl)
neither false true c h k = absurd (k refl)
neither false false c h k = refl

module _ {s before : List ℕ} {o : Outcome} {after : List ℕ} (u : Unpacks s before o after) where
  abbrev short : Bool
  short = ltb (length before) (count_of s)

  said : o.number ≡ unpack_refusal (width_of s) s (length before)
  said = ap (λ (a : Outcome). a.number) u.answers

  pub judged_form : o.number ≡ 15 → 15 ≡ sheet_refusal s
  unfolding unpack_refusal sheet_refusal
  judged_form h = fifteen (not (well_formed s)) (not (well_filled s)) short (sym said ∙ h)

  pub judged_words : o.number ≡ 16 → 16 ≡ sheet_refusal s
  unfolding unpack_refusal sheet_refusal
  judged_words h = sixteen (not (well_formed s)) (not (well_filled s)) short (sym said ∙ h)

  pub judged_fine : (o.number ≡ 15 → ⊥) → (o.number ≡ 16 → ⊥) → sheet_refusal s ≡ 0
  unfolding unpack_refusal sheet_refusal
  judged_fine h k = neither (not (well_formed s)) (not (well_filled s)) short (λ e. h (said ∙ e)) (λ e. k (said ∙ e))

-- ---- Both sheets.

pub kept : (a b : Bool) (l : List Refusal) → (first (15 when a ∷ 16 when b ∷ []) ≡ 0 → ⊥) → first (15 when a ∷ 16 when b ∷ []) ≡ first
    (15 when a ∷ 16 when b ∷ l)
unfolding first
kept true b l h = refl
kept false true l h = refl
kept false false l h = absurd (h refl)

pub past : (a b : Bool) (l : List Refusal) → first (15 when a ∷ 16 when b ∷ []) ≡ 0 → first (15 when a ∷ 16 when b ∷ l) ≡ first l
unfolding first
past true b l h = absurd (let z : ◌≡◌ {A = ℕ} 15 0 = h in omega arith)
past false true l h = absurd (let z : ◌≡◌ {A = ℕ} 16 0 = h in omega arith)
past false false l h = refl

module _ (s t : List ℕ) (room : ℕ) where
  pub first_refused : (r : why.Refusal) → number_of r ≡ sheet_refusal s → number_of r ≡ compare_refusal s t room
  unfolding sheet_refusal compare_refusal
  first_refused r e = e ∙ kept (not (well_formed s)) (not (well_filled s)) _ (λ z. refused r (e ∙ z))

  module _ (one : sheet_refusal s ≡ 0) where
    pub second_refused : (r : why.Refusal) → number_of r ≡ sheet_refusal t → number_of r ≡ compare_refusal s t room
    unfolding sheet_refusal compare_refusal
    second_refused r e = e ∙ kept (not (well_formed t)) (not (well_filled t)) _ (λ z. refused r (e ∙ z))
        ∙ sym (past (not (well_formed s)) (not (well_filled s)) _ one)

    module _ (two : sheet_refusal t ≡ 0) where
      rest : compare_refusal s t room ≡ first (13 when ltb room (count_of s + count_of t)
          ∷ 14 when (two_of eqb (records_of s) || two_of eqb (records_of t)) ∷ [])
      unfolding sheet_refusal compare_refusal
      rest = past (not (well_formed s)) (not (well_filled s)) _ one ∙ past (not (well_formed t)) (not (well_filled t)) _ two

      pub no_room : room < count_of s + count_of t → 13 ≡ compare_refusal s t room
      no_room h = sym (rest ∙ gives_first (applies (lt-ltb room (count_of s + count_of t) h)))

      module _ (fits : count_of s + count_of t ≤ room) where
        enough : ltb room (count_of s + count_of t) ≡ false
        enough = le-ltb room (count_of s + count_of t) fits

        pub first_twice : two_of eqb (records_of s) ≡ true → 14 ≡ compare_refusal s t room
        first_twice h = sym (rest ∙ gives_first (passes enough (applies (or_first _ (two_of eqb (records_of t)) h))))

        pub second_twice : two_of eqb (records_of t) ≡ true → 14 ≡ compare_refusal s t room
        second_twice h = sym (rest ∙ gives_first (passes enough (applies (or_second (two_of eqb (records_of s)) h))))

        pub none_refused : two_of eqb (records_of s) ≡ false → two_of eqb (records_of t) ≡ false → compare_refusal s t room ≡ 0
        none_refused h k = rest ∙ gives_first (passes enough (passes (or_neither h k) ends))

-- ---- By the sheets, once they are no longer judged.

module _ (x y : Sheet) {s t : List ℕ} (p : x.bytes.now ≡ s) (q : y.bytes.now ≡ t) (one : sheet_refusal s ≡ 0)
    (two : sheet_refusal t ≡ 0) where
  counts : x.count + y.count ≡ count_of s + count_of t
  counts = let n = x.counts ∙ ap count_of p in let m = y.counts ∙ ap count_of q in omega arith

  pub few_records : x.count + y.count ≤ 2097152
  few_records = let c = counts in let f = formed_most s (fine s one).0 in let g = formed_most t (fine t two).0 in omega arith

  pub room_lacks : {room : ℕ} → room < x.count + y.count → 13 ≡ compare_refusal s t room
  room_lacks {room} h = let c = counts in no_room s t room one two (omega arith)

  module _ {room : ℕ} (fits : x.count + y.count ≤ room) {c : Bool} (is : c ≡ two_of eqb (records_of x.bytes.now)) where
    enough_records : count_of s + count_of t ≤ room
    enough_records = let e = counts in omega arith

    there : c ≡ two_of eqb (records_of s)
    there = is ∙ ap (λ (l : List ℕ). two_of eqb (records_of l)) p

    pub repeated_first : c ≡ true → 14 ≡ compare_refusal s t room
    repeated_first h = first_twice s t room one two enough_records (sym there ∙ h)

    pub begun_is : c ≡ false → Begun s t room
    begun_is h = record { one = one; two = two; fits = enough_records; first_once = sym there ∙ h }
