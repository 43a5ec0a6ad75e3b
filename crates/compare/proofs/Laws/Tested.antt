-- What is said of an index, and the end of the first sheet, by tests on numbers. Assumes nothing.
use Rattle.std.specs.Prelude.{◌≡◌, Bool, true, false, not, List, [], ◌∷◌, ℕ, ◌+◌, ◌-◌, ◌*◌, ◌≤◌, ◌<◌, eqb, get_or}
use Rattle.std.proofs.Math.Path.{refl, sym, ap}
use Rattle.std.proofs.Common.{◌∙◌, arith}
use Rattle.std.proofs.Math.ListN.{length}
use borrow.Author.Tests.{lt-ltb, le-ltb, eq-eqb, ne_eqb}
use Rattle.lists.specs.Lists.{any}
use Rattle.lists.specs.Refusals.{◌when◌, first}
use Rattle.records.specs.Find.{Finds, find_refusal}
use Rattle.records.specs.Width.{width_said}
use Rattle.records.specs.Sheet.{count_of}
use Rattle.records.proofs.Laws.Computed.{count_three}
use Rattle.records.specs.declared.search.RecordFound.{RecordFound}
use Rattle.comparison.specs.Compare.{has_record, has_at, same_at}
use Rattle.compare.specs.declared.changes.Change.TheVariants.{Same, Moved, First, Second}
use Rattle.compare.specs.Change.{of_first, of_second, change_at, end_said, first_end}

pub at_inside : (l : List ℕ) (i x : ℕ) → i < length l → eqb x (get_or l i 0) ≡ has_at l i x
unfolding has_at
at_inside l i x h = rw (lt-ltb i (length l) h) refl

pub at_outside : (l : List ℕ) (i x : ℕ) → length l ≤ i → false ≡ has_at l i x
unfolding has_at
at_outside l i x h = rw (le-ltb i (length l) h) refl

pub found_has : (l : List ℕ) (x : ℕ) (f : RecordFound) → Finds l x f → eqb f.number 0 ≡ has_record l x
unfolding find_refusal has_record first
found_has l x f h = ap (λ (n : ℕ). eqb n 0) h.numbered ∙ go (any (eqb x) l)
  where
    go : (t : Bool) → eqb (first (19 when not t ∷ [])) 0 ≡ t
    go true = refl
    go false = refl

module _ (a b : List ℕ) (i : ℕ) where
  module _ (inside : i < length a) where
    front : change_at a b i ≡ of_first a b i
    unfolding change_at
    front = rw (lt-ltb i (length a) inside) refl

    pub says_same : {t : Bool} → t ≡ has_at b i (get_or a i 0) → t ≡ true → Same ≡ change_at a b i
    unfolding of_first same_at
    says_same e h = sym (front ∙ rw (sym e ∙ h) refl)

    pub says_moved_lem : {t u : Bool} → t ≡ has_at b i (get_or a i 0) → t ≡ false → u ≡ has_record b (get_or a i 0) → u ≡ true
        → Moved ≡ change_at a b i
    unfolding of_first same_at
    says_moved_lem e h f k = sym (front ∙ rw (sym e ∙ h, sym f ∙ k) refl)

    pub says_first : {t u : Bool} → t ≡ has_at b i (get_or a i 0) → t ≡ false → u ≡ has_record b (get_or a i 0) → u ≡ false
        → First ≡ change_at a b i
    unfolding of_first same_at
    says_first e h f k = sym (front ∙ rw (sym e ∙ h, sym f ∙ k) refl)

  module _ (outside : length a ≤ i) where
    rear : change_at a b i ≡ of_second a b (i - length a)
    unfolding change_at
    rear = rw (le-ltb i (length a) outside) refl

    module _ (within : i - length a < length b) {t : Bool} (e : t ≡ has_record a (get_or b (i - length a) 0)) where
      pub says_both : t ≡ true → Same ≡ change_at a b i
      unfolding of_second
      says_both h = sym (rear ∙ rw (lt-ltb (i - length a) (length b) within, sym e ∙ h) refl)

      pub says_second : t ≡ false → Second ≡ change_at a b i
      unfolding of_second
      says_second h = sym (rear ∙ rw (lt-ltb (i - length a) (length b) within, sym e ∙ h) refl)

-- ---- The end of the first sheet.

module _ (s : List ℕ) (n end : ℕ) (long : 4 ≤ length s) (count : n ≡ get_or s 1 0 * 65536 + get_or s 2 0 * 256 + get_or s 3 0) where
  counted : n ≡ count_of s
  counted = count ∙ sym (count_three s long)

  pub end_five : end ≡ 4 + 5 * n → get_or s 0 0 ≡ 5 → end ≡ end_said s
  unfolding end_said width_said
  end_five e h = e ∙ ap (λ (k : ℕ). 4 + 5 * k) counted ∙ rw (eq-eqb (get_or s 0 0) 5 h) refl

  pub end_seven : end ≡ 4 + 7 * n → (get_or s 0 0 ≡ 5 → ⊥) → end ≡ end_said s
  unfolding end_said width_said
  end_seven e h = e ∙ ap (λ (k : ℕ). 4 + 7 * k) counted ∙ rw (ne_eqb (get_or s 0 0) 5 h) refl

module _ (s : List ℕ) (end : ℕ) (long : 4 ≤ length s) (said : end ≡ end_said s) where
  pub end_past : length s < end → length s ≡ first_end s
  unfolding first_end
  end_past h = rw (le-ltb (length s) 4 long, lt-ltb (length s) (end_said s) (omega arith)) refl

  pub end_there : end ≤ length s → end ≡ first_end s
  unfolding first_end
  end_there h = rw (le-ltb (length s) 4 long, le-ltb (length s) (end_said s) (omega arith)) said
