-- THE FIELDS OF THE HEADER, BY THE LIBRARY'S READS AND TESTS: numbers of bytes, numbers with a sign, all of a range. Assumes nothing.
use Rattle.std.specs.Prelude.{◌≡◌, refl, List, [], ◌∷◌, Bool, true, false, ◌&&◌, cond, eqb, ltb, length, get_or, take, drop, pos, negsuc, ℤ, nat_eq, nat_abs}
use Rattle.std.proofs.Math.Path.{sym, ap}
use Rattle.std.proofs.Common.{leb-true, ◌∙◌, add-one, drop-cons, take_all, length-drop, length-take-le, lt-ltb, le-ltb, eq-eqb, ne_eqb}
use Prim.Native.Nat.{ℕ, zero, suc, ◌+◌, ◌-◌, ◌*◌, ◌≤◌, ◌<◌}
use native.Mathlib.Omega.{arith}
use Rattle.lists.specs.Lists.{all_below}
use Rattle.records.specs.Bytes.{number_written, byte_words}
use Rattle.nifti.specs.Fields.{ordered, number_at, signed, field_is, field_at_least, natural}
use Rattle.nifti.specs.File.{size_stands, dim, offset, magic_at, offset_stands, front_stands, length_count, one_at, length_stands}
use Rattle.nifti.specs.File.{length_at, magic}
use Rattle.std.specs.List.{list_all, range_with_len}
use Rattle.std.specs.Cmp.Lexicographic.{pointwise}
use Rattle.std.proofs.lemmas.List.FromFn.{length-range_with_len, get_or-range_with_len}
use Rattle.std.proofs.lemmas.List.Folds.{list_all_more}
use Rattle.lists.proofs.Laws.Booleans.{and_true, and_false, and_right}
use Rattle.std.proofs.lemmas.Bool.{false≢true}
use Rattle.nifti.proofs.Laws.Fields.{length_ordered}
use Rattle.nifti.proofs.Laws.Header.{size_test}
use Rattle.nifti.specs.declared.Order.{Order}
use Rattle.nifti.specs.Header.{OrderKnown}
use Rattle.nifti.specs.Front.{Standing}
use Rattle.std.specs.Int.{w32, w64, from_be_bytes, cast_signed, cast_unsigned, int_max}
use Rattle.std.specs.Int.Signed.{le_z, mag}

-- ---- Four bytes, and eight.

take_next : (s : List ℕ) (at n : ℕ) → at < length s → take (suc n) (drop at s) ≡ get_or s at 0 ∷ take n (drop (at + 1) s)
take_next s at n h = ap (take (suc n)) (drop-cons s at 0 h) ∙ ap (λ k. get_or s at 0 ∷ take n (drop k s)) (sym (add-one at))

abbrev read : List ℕ → (at n : ℕ) → List ℕ
read s at zero = []
read s at (suc n) = get_or s at 0 ∷ read s (at + 1) n

take_read : (s : List ℕ) (at n : ℕ) → at + n ≤ length s → take n (drop at s) ≡ read s at n
take_read s at zero h = refl
take_read s at (suc n) h = take_next s at n (omega arith) ∙ ap (λ l. get_or s at 0 ∷ l) (take_read s (at + 1) n (omega arith))

whole : (s : List ℕ) {n : ℕ} → length s ≡ n → s ≡ read s 0 n
whole s {n} h = sym (take_all n s (omega arith)) ∙ take_read s 0 n (omega arith)

four_written : (s : List ℕ) → length s ≡ 4 → from_be_bytes w32 s ≡ number_written s
unfolding byte_words
four_written s h = let e : from_be_bytes w32 s ≡ number_written (read s 0 4) = omega arith in e ∙ ap number_written (sym (whole s h))

eight_written : (s : List ℕ) → length s ≡ 8 → from_be_bytes w64 s ≡ number_written s
unfolding byte_words
eight_written s h = let e : from_be_bytes w64 s ≡ number_written (read s 0 8) = omega arith in e ∙ ap number_written (sym (whole s h))

signed_bits : (n : ℕ) → cast_signed w64 n ≡ signed 8 n
unfolding signed
signed_bits n = ap (λ k. cond (ltb n 9223372036854775808) (pos n) (negsuc (18446744073709551616 - k))) (sym (add-one n))

eight_signed : (s : List ℕ) → length s ≡ 8 → cast_signed w64 (from_be_bytes w64 s) ≡ signed 8 (number_written s)
eight_signed s h = ap (cast_signed w64) (eight_written s h) ∙ signed_bits (number_written s)

module _ (o : Order) (s : List ℕ) (at : ℕ) {bytes : List ℕ} where
  length_read : (n : ℕ) → at + n ≤ length s → bytes ≡ ordered o (take n (drop at s)) → length bytes ≡ n
  length_read n h e =
      let d = length-drop at s in
      ap length e ∙ length_ordered o (take n (drop at s)) ∙ length-take-le n (drop at s) (omega arith)

  pub four_read : {n : ℕ} → at + 4 ≤ length s → bytes ≡ ordered o (take 4 (drop at s)) → n ≡ from_be_bytes w32 bytes
      → n ≡ number_at o 4 at s
  unfolding number_at
  four_read h e q = q ∙ four_written bytes (length_read 4 h e) ∙ ap number_written e

  pub eight_read : {z : ℤ} → at + 8 ≤ length s → bytes ≡ ordered o (take 8 (drop at s)) → z ≡ cast_signed w64 (from_be_bytes w64 bytes)
      → z ≡ signed 8 (number_at o 8 at s)
  unfolding number_at
  eight_read h e q = q ∙ eight_signed bytes (length_read 8 h e) ∙ ap (λ l. signed 8 (number_written l)) e

-- ---- All below a number, in a row.

and_turned : (a b : Bool) → (a && b) ≡ (b && a)
and_turned true b = sym (and_true b)
and_turned false b = sym (and_false b)

so_far : (p : ℕ → Bool) (n i : ℕ) → i ≤ n → list_all p (take i (range_with_len 0 n)) ≡ all_below i p
unfolding all_below
so_far p n zero h = refl
so_far p n (suc i) h =
    let r : List ℕ = range_with_len 0 n in
    let l = length-range_with_len 0 n in
    let g : get_or r i 0 ≡ i = get_or-range_with_len 0 n i 0 (omega arith) ∙ omega arith in
    ap (λ k. list_all p (take k r)) (sym (add-one i)) ∙ list_all_more p r i 0 (omega arith)
    ∙ rw (so_far p n i (omega arith), g) (and_turned (all_below i p) (p i))

pub ranged_below : (p : ℕ → Bool) (n : ℕ) → list_all p (range_with_len 0 n) ≡ all_below n p
ranged_below p n =
    let l = length-range_with_len 0 n in
    ap (list_all p) (sym (take_all n (range_with_len 0 n) (omega arith))) ∙ so_far p n n (omega arith)

-- ---- The tests.

module _ {file : List ℕ} {o : Order} (t : OrderKnown file o) where
  pub dim_is : (i : ℕ) {z : ℤ} → z ≡ signed 8 (number_at o 8 (16 + 8 * i) file) → z ≡ dim file i
  unfolding dim
  dim_is i e = rw (sym t.is) e

  pub offset_is : {z : ℤ} → z ≡ signed 8 (number_at o 8 168 file) → z ≡ offset file
  unfolding offset
  offset_is e = rw (sym t.is) e

pub six_counted : (file : List ℕ) → dim file 0 ≡ pos 6 → 2 ≡ length_count file
unfolding length_count field_is
six_counted file e = sym (rw e)

pub seven_counted : (file : List ℕ) → dim file 0 ≡ pos 7 → 3 ≡ length_count file
unfolding length_count field_is
seven_counted file e = sym (rw e)

is_not : (b : ℕ) (z : ℤ) → (z ≡ pos b → ⊥) → field_is b z ≡ false
unfolding field_is
is_not b (pos n) h = ne_eqb n b (λ e. h (ap pos e))
is_not b (negsuc n) h = refl

pub none_counted : (file : List ℕ) → (dim file 0 ≡ pos 6 → ⊥) → (dim file 0 ≡ pos 7 → ⊥) → 0 ≡ length_count file
unfolding length_count
none_counted file h k = sym (rw (is_not 6 (dim file 0) h, is_not 7 (dim file 0) k))

-- ---- As code tests a field.

least_test : (b : ℕ) (z : ℤ) → le_z (pos b) z ≡ field_at_least b z
unfolding field_at_least
least_test b (pos n) = refl
least_test b (negsuc n) = refl

pub offset_test : (file : List ℕ) → le_z (pos 544) (offset file) ≡ offset_stands file
unfolding offset_stands
offset_test file = least_test 544 (offset file)

pub length_test : (file : List ℕ) (i : ℕ) → le_z (pos 1) (dim file (5 + i)) ≡ length_stands file i
unfolding length_stands
length_test file i = least_test 1 (dim file (5 + i))

pub one_test : (file : List ℕ) (i : ℕ) {z : ℤ} → z ≡ dim file (1 + i) → mag z < 9223372036854775808
    → eqb (cast_unsigned w64 z) 1 ≡ one_at file i
unfolding one_at field_is
one_test file i {z} e h = go z h ∙ ap (field_is 1) e
  where
    go : (z : ℤ) → mag z < 9223372036854775808 → eqb (cast_unsigned w64 z) 1 ≡ field_is 1 z
    go (pos n) h = refl
    go (negsuc n) h = ne_eqb (18446744073709551616 - suc n) 1 (λ q. omega arith)

module _ (file : List ℕ) (i : ℕ) where
  pub length_told : {y z : ℤ} → z ≡ int_max y (pos 0) → y ≡ dim file (5 + i) → i < length_count file → nat_abs z ≡ length_at file i
  unfolding length_at natural
  length_told q e h = ap nat_abs (q ∙ ap (λ y. int_max y (pos 0)) e) ∙ go (dim file (5 + i)) ∙ sym (rw (lt-ltb i (length_count file) h))
    where
      go : (z : ℤ) → nat_abs (int_max z (pos 0)) ≡ natural z
      go (pos zero) = refl
      go (pos (suc n)) = rw (lt-ltb 0 (suc n) (omega arith)) refl
      go (negsuc n) = refl

  pub length_past : length_count file ≤ i → 0 ≡ length_at file i
  unfolding length_at
  length_past h = sym (rw (le-ltb i (length_count file) h))

-- ---- The magic.

pub magic_test : (file : List ℕ) → 544 ≤ length file → pointwise nat_eq (take 8 (drop 4 file)) magic ≡ all_below 8 (magic_at file)
unfolding magic_at
magic_test file h =
    let same : pointwise nat_eq (read file 4 8) magic ≡ all_below 8 (magic_at file) = ranged_below (magic_at file) 8 in
    ap (λ s. pointwise nat_eq s magic) (take_read file 4 8 (omega arith)) ∙ same

-- ---- 20, test by test.

module _ {file : List ℕ} {o : Order} (t : OrderKnown file o) where
  module _ {n : ℕ} (e : n ≡ number_at o 4 0 file) where
    pub unsized_read : (n ≡ 540 → ⊥) → false ≡ front_stands file
    unfolding front_stands
    unsized_read h = sym (rw (sym (size_test t e) ∙ ne_eqb n 540 h))

    module _ {m : Bool} (q : m ≡ pointwise nat_eq (take 8 (drop 4 file)) magic) (h : n ≡ 540) where
      pub unmagic_read : m ≡ false → false ≡ front_stands file
      unfolding front_stands
      unmagic_read k = sym (rw (sym (size_test t e) ∙ eq-eqb n 540 h, sym (magic_test file t.long) ∙ sym q ∙ k))

      pub rest_read : {z : ℤ} → m ≡ true → z ≡ signed 8 (number_at o 8 168 file) → le_z (pos 544) z ≡ front_stands file
      unfolding front_stands
      rest_read k d = ap (le_z (pos 544)) (offset_is t d) ∙ offset_test file
          ∙ sym (rw (sym (size_test t e) ∙ eq-eqb n 540 h, sym (magic_test file t.long) ∙ sym q ∙ k))

-- ---- Where the list ends.

pub offset_there : (file : List ℕ) → front_stands file ≡ true → offset_stands file ≡ true
unfolding front_stands
offset_there file h = and_right (all_below 8 (magic_at file)) (offset_stands file) (and_right (size_stands file) _ h)

-- a data offset that stands
pub record Ends (file : List ℕ) (end : ℕ) : Type 0 where
  pub is : offset file ≡ pos end
  pub low : 544 ≤ end

ends_by : (file : List ℕ) (z : ℤ) → offset file ≡ z → field_at_least 544 z ≡ true → (n : ℕ) × (z ≡ pos n) × Ends file n
unfolding field_at_least
ends_by file (pos n) e h = (n, refl, record { is = e; low = leb-true 544 n h })
ends_by file (negsuc n) e h = absurd (false≢true h)

pub end_stands : {file : List ℕ} {o : Order} → Standing file o → (n : ℕ) × (offset file ≡ pos n) × Ends file n
unfolding offset_stands
end_stands {file} s = ends_by file (offset file) refl (offset_there file s.stands)

-- as code reads it, and turns it into a number without a sign
pub end_read : {file : List ℕ} {o : Order} {z : ℤ} → Standing file o → z ≡ signed 8 (number_at o 8 168 file)
    → (n : ℕ) × (z ≡ pos n) × Ends file n
end_read s e = let w = end_stands s in (w.0, offset_is s.told e ∙ w.1, w.2)

pub end_after : {file : List ℕ} {o : Order} {n : ℕ} → Standing file o → offset file ≡ pos n → 544 ≤ n
unfolding offset_stands field_at_least
end_after {n = n} s e = leb-true 544 n (ap (field_at_least 544) (sym e) ∙ offset_there _ s.stands)
