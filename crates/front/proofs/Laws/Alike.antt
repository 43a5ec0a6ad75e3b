-- FILES WHOSE FIELDS ARE ALIKE: the same number in each, in the order of its own file. With the same list they have the same front.
use Rattle.std.specs.Prelude.{◌≡◌, List, ℕ, zero, suc, ◌+◌, ◌*◌, ◌≤◌, ◌<◌, pos, length, get_or, Option, Some, None}
use Rattle.std.proofs.Math.Path.{refl, ap}
use Rattle.std.proofs.Common.{sym, ◌∙◌, arith, le-ltb}
use Rattle.std.proofs.Math.Seq.{slice}
use Rattle.lists.specs.Lists.{all_below}
use Rattle.nifti.specs.Fields.{number_at, signed}
use Rattle.nifti.specs.Extensions.{Extension, Body, ExtensionList}
use Rattle.nifti.specs.File.{order_of, dim, offset, extender, list_start, size_stands, magic_at, offset_stands, front_stands, no_front}
use Rattle.nifti.specs.File.{length_count, one_at, length_stands, dims_stand, length_at, text_body, conditions_of_front, accepted_front, front_by}
use Rattle.nifti.specs.File.{front_to, Fronts, ListOf, list, listed}
use Rattle.nifti.proofs.Laws.Header.{count_few}
use Rattle.nifti.proofs.Laws.File.{list_of_unique}
use Rattle.nifti.specs.declared.Front.{Front}

pub record Alike (x y : List ℕ) : Type 0 where
  pub long : 544 ≤ length x
  pub as_long : 544 ≤ length y
  pub size : number_at (order_of x) 4 0 x ≡ number_at (order_of y) 4 0 y
  pub magic_too : (i : ℕ) → i < 8 → get_or x (4 + i) 0 ≡ get_or y (4 + i) 0
  pub dims : (n : ℕ) → n < 8 → number_at (order_of x) 8 (16 + 8 * n) x ≡ number_at (order_of y) 8 (16 + 8 * n) y
  pub ends : number_at (order_of x) 8 168 x ≡ number_at (order_of y) 8 168 y

module _ {x y : List ℕ} (a : Alike x y) where
  pub dim_alike : (n : ℕ) → n < 8 → dim x n ≡ dim y n
  unfolding dim
  dim_alike n h = ap (signed 8) (a.dims n h)

  pub offset_alike : offset x ≡ offset y
  unfolding offset
  offset_alike = ap (signed 8) a.ends

  magic_alike : (n : ℕ) → n ≤ 8 → all_below n (magic_at x) ≡ all_below n (magic_at y)
  unfolding all_below magic_at
  magic_alike zero h = refl
  magic_alike (suc n) h = rw (a.magic_too n (omega arith), magic_alike n (omega arith))

  stands_alike : front_stands x ≡ front_stands y
  unfolding front_stands size_stands offset_stands
  stands_alike = rw (a.size, magic_alike 8 (omega arith), offset_alike)

  count_alike : length_count x ≡ length_count y
  unfolding length_count
  count_alike = rw (dim_alike 0 (omega arith))

  ones_alike : (n : ℕ) → n ≤ 4 → all_below n (one_at x) ≡ all_below n (one_at y)
  unfolding all_below one_at
  ones_alike zero h = refl
  ones_alike (suc n) h = rw (dim_alike (1 + n) (omega arith), ones_alike n (omega arith))

  lengths_alike : (n : ℕ) → n ≤ 3 → all_below n (length_stands x) ≡ all_below n (length_stands y)
  unfolding all_below length_stands
  lengths_alike zero h = refl
  lengths_alike (suc n) h = rw (dim_alike (5 + n) (omega arith), lengths_alike n (omega arith))

  length_alike : (i : ℕ) → i < 3 → length_at x i ≡ length_at y i
  unfolding length_at
  length_alike i h = rw (count_alike, dim_alike (5 + i) (omega arith))

  dims_alike : dims_stand x ≡ dims_stand y
  unfolding dims_stand
  dims_alike = rw (count_alike, ones_alike 4 (omega arith), lengths_alike (length_count y) (count_few y))

  no_front_alike : no_front x ≡ no_front y
  unfolding no_front
  no_front_alike = rw (stands_alike, le-ltb (length x) 544 a.long, le-ltb (length y) 544 a.as_long)

  accepted_alike : (o : Option Body) → accepted_front x o ≡ accepted_front y o
  unfolding accepted_front
  accepted_alike None = refl
  accepted_alike (Some b) = rw (count_alike, length_alike 0 (omega arith), length_alike 1 (omega arith), length_alike 2 (omega arith))

  by_alike : (n : ℕ) (o : Option Body) → front_by n x o ≡ front_by n y o
  unfolding front_by
  by_alike zero o = accepted_alike o
  by_alike (suc n) o = refl

  pub to_alike : (l : Option (List Extension)) → front_to x l ≡ front_to y l
  unfolding front_to conditions_of_front
  to_alike l = rw (no_front_alike, dims_alike) (by_alike _ (text_body l))

-- ---- ORDERS-ALIKE: a header and a list that are written in one order and in the other have the same number, lengths and part.

pub orders_alike : {x y : List ℕ} {l : Option (List Extension)} {f g : Front} → Alike x y → ListOf x l → ListOf y l
    → Fronts x f → Fronts y g → f ≡ g
orders_alike {x} {y} {l} a p q r s =
    r.answered ∙ ap (front_to x) (list_of_unique r.of p) ∙ to_alike a l ∙ ap (front_to y) (list_of_unique q s.of) ∙ sym s.answered

-- the same list is written in both, where the extender is the same and the bytes up to the data offset write it, each in its order
pub lists_alike : {x y : List ℕ} {end : ℕ} {es : List Extension} → Alike x y → (extender x ≡ 0 → ⊥) → extender x ≡ extender y
    → offset x ≡ pos end → end ≤ length x → end ≤ length y → ExtensionList (order_of x) es (slice list_start end x)
    → ExtensionList (order_of y) es (slice list_start end y) → ListOf x (Some es) × ListOf y (Some es)
lists_alike a z e o i j h k = (list (listed z o i h), list (listed (λ w. z (e ∙ w)) (sym (offset_alike a) ∙ o) j k))
