-- What is said of an index, and the end of the first sheet, by the tests of the code. Assumes nothing.
use Rattle.std.specs.Prelude.{◌≡◌, Bool, true, false, ◌||◌, List, [], ◌∷◌, ℕ, ◌+◌, ◌-◌, ◌*◌, ◌≤◌, ◌<◌, eqb, min, get_or}
use Rattle.std.proofs.Math.Path.{refl, sym, ap}
use Rattle.std.proofs.Common.{◌∙◌, arith, inl, inr, Bor, Option, Some, None}
use Rattle.std.specs.Option.{option_eq}
use Rattle.std.specs.List.{list_any}
use Rattle.std.specs.Slice.{IsItemAt}
use Rattle.std.proofs.Math.ListN.{length}
use borrow.Author.Tests.{lt-ltb, le-ltb}
use Rattle.lists.specs.Lists.{any}
use Rattle.lists.proofs.Laws.Numbers.{eqb_turned, lt?}
use Rattle.records.specs.Sheet.{width_of}
use Rattle.records.proofs.Laws.Computed.{count_three}
use Rattle.comparison.specs.Compare.{has_record, has_at, same_at}
use Rattle.compare.specs.declared.changes.Change.TheVariants.{Same, Moved, First, Second}
use Rattle.compare.specs.Change.{of_first, of_second, change_at, end_said, first_end}

-- the list has the record at the place, by the library's words
pub at_place : (l : List ℕ) (i : ℕ) (o : Option (Bor ℕ)) (x : Bor ℕ) → IsItemAt l i o
    → option_eq (λ p q. eqb p.now q.now) o (Some x) ≡ has_at l i x.now
unfolding has_at
at_place l i None x h = sym (rw (le-ltb i (length l) h.3) refl)
at_place l i (Some y) x h =
    let e : y.now ≡ get_or l i 0 = h.3.1 0 in
    sym (rw (lt-ltb i (length l) h.3.0) (eqb_turned x.now (get_or l i 0) ∙ ap (λ (n : ℕ). eqb n x.now) (sym e)))

-- and has the record
pub anywhere : (l : List ℕ) (x : ℕ) → list_any (λ y. eqb y x) l ≡ has_record l x
unfolding has_record any
anywhere [] x = refl
anywhere (y ∷ l) x = ap (λ (t : Bool). t || list_any (λ z. eqb z x) l) (eqb_turned y x) ∙ ap (λ (t : Bool). eqb x y || t) (anywhere l x)

module _ (a b : List ℕ) (i : ℕ) where
  module _ (x : Bor ℕ) (at : IsItemAt a i (Some x)) where
    front : change_at a b i ≡ of_first a b i
    unfolding change_at
    front = rw (lt-ltb i (length a) at.3.0) refl

    value : x.now ≡ get_or a i 0
    value = at.3.1 0

    module _ {t : Bool} (here : t ≡ has_at b i x.now) where
      at_it : t ≡ has_at b i (get_or a i 0)
      at_it = here ∙ ap (has_at b i) value

      pub says_same : t ≡ true → Same ≡ change_at a b i
      unfolding of_first same_at
      says_same h = sym (front ∙ rw (sym at_it ∙ h) refl)

      module _ (h : t ≡ false) {u : Bool} (any_where : u ≡ has_record b x.now) where
        has_it : u ≡ has_record b (get_or a i 0)
        has_it = any_where ∙ ap (has_record b) value

        pub says_moved_lem : u ≡ true → Moved ≡ change_at a b i
        unfolding of_first same_at
        says_moved_lem k = sym (front ∙ rw (sym at_it ∙ h, sym has_it ∙ k) refl)

        pub says_first : u ≡ false → First ≡ change_at a b i
        unfolding of_first same_at
        says_first k = sym (front ∙ rw (sym at_it ∙ h, sym has_it ∙ k) refl)

  module _ (outside : length a ≤ i) where
    rear : change_at a b i ≡ of_second a b (i - length a)
    unfolding change_at
    rear = rw (le-ltb i (length a) outside) refl

    pub says_none : length b ≤ i - length a → Same ≡ change_at a b i
    unfolding of_second
    says_none h = sym (rear ∙ rw (le-ltb (i - length a) (length b) h) refl)

    module _ (x : Bor ℕ) (at : IsItemAt b (i - length a) (Some x)) {t : Bool} (e : t ≡ has_record a x.now) where
      has_second : t ≡ has_record a (get_or b (i - length a) 0)
      has_second = e ∙ ap (has_record a) (at.3.1 0)

      pub says_both : t ≡ true → Same ≡ change_at a b i
      unfolding of_second
      says_both h = sym (rear ∙ rw (lt-ltb (i - length a) (length b) at.3.0, sym has_second ∙ h) refl)

      pub says_second : t ≡ false → Second ≡ change_at a b i
      unfolding of_second
      says_second h = sym (rear ∙ rw (lt-ltb (i - length a) (length b) at.3.0, sym has_second ∙ h) refl)

-- ---- The end of the first sheet.

pub end_is : (s : List ℕ) {w n : ℕ} → 4 ≤ length s → w ≡ (width_of s).bytes → n ≡ get_or s 1 0 * 65536 + get_or s 2 0 * 256 + get_or s 3 0
    → 4 + w * n ≡ end_said s
unfolding end_said
end_is s {w} {n} long wide count = ap (λ (k : ℕ). 4 + k * n) wide
    ∙ ap (λ (k : ℕ). 4 + (width_of s).bytes * k) (count ∙ sym (count_three s long))

pub end_short : (s : List ℕ) → length s < 4 → length s ≡ first_end s
unfolding first_end
end_short s h = rw (lt-ltb (length s) 4 h) refl

pub end_first : (s : List ℕ) {n end : ℕ} → 4 ≤ length s → end ≡ end_said s → n ≡ min (length s) end → n ≡ first_end s
unfolding first_end
end_first s {n} {end} long said least = elim (lt? (length s) (end_said s)) [
  | inl past ↦ rw (le-ltb (length s) 4 long, lt-ltb (length s) (end_said s) past) (omega arith)
  | inr there ↦ rw (le-ltb (length s) 4 long, le-ltb (length s) (end_said s) there) (omega arith)
]
