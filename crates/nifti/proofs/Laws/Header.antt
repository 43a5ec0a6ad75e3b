-- THE FIELDS OF THE HEADER, AS CODE READS THEM: each test of the conditions by the bits of its field. Assumes nothing.
use Rattle.std.specs.Prelude.{◌≡◌, refl, List, [], ◌∷◌, ◌++◌, reverse, Bool, true, false, ◌&&◌, not, cond, eqb, leb, ltb, length, get_or, take, drop}
use Rattle.std.proofs.Math.Path.{sym, ap}
use Rattle.std.proofs.Common.{◌∙◌, add-one, drop-cons, take-add, drop-drop, lt-ltb, le-ltb, eq-eqb, ne_eqb}
use Prim.Native.Nat.{ℕ, zero, suc, ◌+◌, ◌-◌, ◌*◌, ◌^◌, ◌≤◌, ◌<◌}
use native.Mathlib.Omega.{arith}
use Rattle.std.proofs.lemmas.Bool.{not-true, not-false}
use Rattle.lists.specs.Lists.{all_below}
use Rattle.records.specs.Bytes.{number_written, byte_words}
use Rattle.nifti.specs.Fields.{ordered, number_at, signed, field_is, field_at_least, natural}
use Rattle.nifti.specs.File.{order_of, dim, offset, size_stands, magic_at, offset_stands, front_stands, length_count, one_at, length_stands}
use Rattle.nifti.specs.File.{dims_stand, length_at, magic}
use Rattle.nifti.proofs.Laws.Fields.{least_signed, is_bits, natural_signed}
use Rattle.nifti.specs.declared.Order.{Order}
use Rattle.nifti.specs.declared.Order.TheVariants.{MostFirst, LeastFirst}
use Rattle.nifti.specs.Header.{OrderKnown, LengthAsked, FewLengths, Looked}

-- ---- Four bytes, and eight.

take_next : (s : List ℕ) (at n : ℕ) → at < length s → take (suc n) (drop at s) ≡ get_or s at 0 ∷ take n (drop (at + 1) s)
take_next s at n h = ap (take (suc n)) (drop-cons s at 0 h) ∙ ap (λ k. get_or s at 0 ∷ take n (drop k s)) (sym (add-one at))

pub take_four : (s : List ℕ) (at : ℕ) → at + 4 ≤ length s
    → take 4 (drop at s) ≡ get_or s at 0 ∷ get_or s (at + 1) 0 ∷ get_or s (at + 2) 0 ∷ get_or s (at + 3) 0 ∷ []
take_four s at h =
    let p : at + 1 + 1 ≡ at + 2 = omega arith in
    let q : at + 2 + 1 ≡ at + 3 = omega arith in
    let r₀ = take_next s at 3 (omega arith) in
    let r₁ = take_next s (at + 1) 2 (omega arith) in
    let r₂ = take_next s (at + 2) 1 (omega arith) in
    let r₃ = take_next s (at + 3) 0 (omega arith) in
    r₀ ∙ ap (λ l. get_or s at 0 ∷ l) (r₁ ∙ ap (λ l. get_or s (at + 1) 0 ∷ l)
    (ap (λ k. take 2 (drop k s)) p ∙ r₂ ∙ ap (λ l. get_or s (at + 2) 0 ∷ l) (ap (λ k. take 1 (drop k s)) q ∙ r₃)))

module _ {o : Order} (s : List ℕ) (at : ℕ) {r : ℕ} where
  pub four_most : o ≡ MostFirst → at + 4 ≤ length s
      → (r ≡ number_written (get_or s at 0 ∷ get_or s (at + 1) 0 ∷ get_or s (at + 2) 0 ∷ get_or s (at + 3) 0 ∷ [])) × (r < 2 ^ 32)
      → (r ≡ number_at o 4 at s) × (r < 2 ^ 32)
  unfolding number_at ordered
  four_most m h (e, k) = (rw m (e ∙ sym (ap number_written (take_four s at h))), k)

  pub four_least : o ≡ LeastFirst → at + 4 ≤ length s
      → (r ≡ number_written (get_or s (at + 3) 0 ∷ get_or s (at + 2) 0 ∷ get_or s (at + 1) 0 ∷ get_or s at 0 ∷ [])) × (r < 2 ^ 32)
      → (r ≡ number_at o 4 at s) × (r < 2 ^ 32)
  unfolding number_at ordered
  four_least m h (e, k) = (rw m (e ∙ sym (ap (λ l. number_written (reverse l)) (take_four s at h))), k)

-- two numbers of four bytes in a row
two_fours : (a b c d e f g h : ℕ) → number_written (a ∷ b ∷ c ∷ d ∷ e ∷ f ∷ g ∷ h ∷ [])
    ≡ number_written (a ∷ b ∷ c ∷ d ∷ []) * 4294967296 + number_written (e ∷ f ∷ g ∷ h ∷ [])
unfolding byte_words
two_fours a b c d e f g h = omega arith

module _ (s : List ℕ) (at : ℕ) (long : at + 8 ≤ length s) where
  take_eight : take 8 (drop at s) ≡ take 4 (drop at s) ++ take 4 (drop (at + 4) s)
  take_eight = take-add 4 4 (drop at s) ∙ ap (λ l. take 4 (drop at s) ++ take 4 l) (drop-drop 4 at s)

  fours : ((take 4 (drop at s) ≡ get_or s at 0 ∷ get_or s (at + 1) 0 ∷ get_or s (at + 2) 0 ∷ get_or s (at + 3) 0 ∷ [])
      × (take 4 (drop (at + 4) s) ≡ get_or s (at + 4) 0 ∷ get_or s (at + 4 + 1) 0 ∷ get_or s (at + 4 + 2) 0 ∷ get_or s (at + 4 + 3) 0 ∷ []))
  fours = (take_four s at (omega arith), take_four s (at + 4) (omega arith))

  most_eight : number_at MostFirst 4 at s * 4294967296 + number_at MostFirst 4 (at + 4) s ≡ number_at MostFirst 8 at s
  unfolding number_at ordered
  most_eight = rw (take_eight, fours.0, fours.1) (sym (two_fours _ _ _ _ _ _ _ _))

  least_eight : number_at LeastFirst 4 (at + 4) s * 4294967296 + number_at LeastFirst 4 at s ≡ number_at LeastFirst 8 at s
  unfolding number_at ordered
  least_eight = rw (take_eight, fours.0, fours.1) (sym (two_fours _ _ _ _ _ _ _ _))

module _ {o : Order} (s : List ℕ) (at : ℕ) {x y : ℕ} where
  pub eight_most : o ≡ MostFirst → at + 8 ≤ length s → x ≡ number_at o 4 at s → y ≡ number_at o 4 (at + 4) s
      → x * 4294967296 + y ≡ number_at o 8 at s
  eight_most m h p q = rw (p, q, m) (most_eight s at h)

  pub eight_least : o ≡ LeastFirst → at + 8 ≤ length s → x ≡ number_at o 4 at s → y ≡ number_at o 4 (at + 4) s
      → y * 4294967296 + x ≡ number_at o 8 at s
  eight_least m h p q = rw (p, q, m) (least_eight s at h)

-- four bytes are below 2^32
pub four_below : (a b c d : ℕ) → a < 256 → b < 256 → c < 256 → d < 256 → number_written (a ∷ b ∷ c ∷ d ∷ []) < 4294967296
unfolding byte_words
four_below a b c d p q r s = omega arith

pub four_joined : (a b c d : ℕ) → a * 16777216 + b * 65536 + c * 256 + d ≡ number_written (a ∷ b ∷ c ∷ d ∷ [])
unfolding byte_words
four_joined a b c d = omega arith

-- ---- The tests.

module _ {file : List ℕ} {o : Order} (t : OrderKnown file o) where
  pub size_test : {n : ℕ} → n ≡ number_at o 4 0 file → eqb n 540 ≡ size_stands file
  unfolding size_stands
  size_test e = rw (e, t.is)

  dim_is : (i : ℕ) {n : ℕ} → n ≡ number_at o 8 (16 + 8 * i) file → dim file i ≡ signed 8 n
  unfolding dim
  dim_is i e = rw (e, t.is)

  offset_is : {n : ℕ} → n ≡ number_at o 8 168 file → offset file ≡ signed 8 n
  unfolding offset
  offset_is e = rw (e, t.is)

  pub offset_low : {n : ℕ} → n ≡ number_at o 8 168 file → n < 9223372036854775808 → leb 544 n ≡ offset_stands file
  unfolding offset_stands
  offset_low {n} e h = sym (ap (field_at_least 544) (offset_is e) ∙ least_signed 8 n 544 ∙ rw (lt-ltb n 9223372036854775808 h))

  pub offset_high : {n : ℕ} → n ≡ number_at o 8 168 file → 9223372036854775808 ≤ n → false ≡ offset_stands file
  unfolding offset_stands
  offset_high {n} e h = sym (ap (field_at_least 544) (offset_is e) ∙ least_signed 8 n 544 ∙ rw (le-ltb n 9223372036854775808 h))

  one_test : (i : ℕ) {n : ℕ} → n ≡ number_at o 8 (16 + 8 * (1 + i)) file → eqb n 1 ≡ one_at file i
  unfolding one_at
  one_test i {n} e = sym (ap (field_is 1) (dim_is (1 + i) e) ∙ is_bits 8 n 1 (omega arith))

  pub one_yes : (i : ℕ) {n : ℕ} → n ≡ number_at o 8 (16 + 8 * (1 + i)) file → n ≡ 1 → one_at file i ≡ true
  one_yes i {n} e h = sym (one_test i e) ∙ eq-eqb n 1 h

  pub one_no : (i : ℕ) {n : ℕ} → n ≡ number_at o 8 (16 + 8 * (1 + i)) file → (n ≡ 1 → ⊥) → one_at file i ≡ false
  one_no i {n} e h = sym (one_test i e) ∙ ne_eqb n 1 h

  pub length_low : (i : ℕ) {n : ℕ} → n ≡ number_at o 8 (16 + 8 * (5 + i)) file → n < 9223372036854775808 → leb 1 n ≡ length_stands file i
  unfolding length_stands
  length_low i {n} e h = sym (ap (field_at_least 1) (dim_is (5 + i) e) ∙ least_signed 8 n 1 ∙ rw (lt-ltb n 9223372036854775808 h))

  pub length_high : (i : ℕ) {n : ℕ} → n ≡ number_at o 8 (16 + 8 * (5 + i)) file → 9223372036854775808 ≤ n → false ≡ length_stands file i
  unfolding length_stands
  length_high i {n} e h = sym (ap (field_at_least 1) (dim_is (5 + i) e) ∙ least_signed 8 n 1 ∙ rw (le-ltb n 9223372036854775808 h))

  -- dim[0]
  count_is : {n : ℕ} → n ≡ number_at o 8 16 file → length_count file ≡ cond (eqb n 6) 2 (cond (eqb n 7) 3 0)
  unfolding length_count
  count_is {n} e = rw (dim_is 0 e, is_bits 8 n 6 (omega arith), is_bits 8 n 7 (omega arith))

  pub count_six : {n : ℕ} → n ≡ number_at o 8 16 file → n ≡ 6 → 2 ≡ length_count file
  count_six {n} e h = sym (count_is e ∙ rw (eq-eqb n 6 h))

  pub count_seven : {n : ℕ} → n ≡ number_at o 8 16 file → n ≡ 7 → 3 ≡ length_count file
  count_seven {n} e h = let z : n ≡ 6 → ⊥ = λ q. omega arith in sym (count_is e ∙ rw (ne_eqb n 6 z, eq-eqb n 7 h))

  pub count_other : {n : ℕ} → n ≡ number_at o 8 16 file → (n ≡ 6 → ⊥) → (n ≡ 7 → ⊥) → 0 ≡ length_count file
  count_other {n} e h k = sym (count_is e ∙ rw (ne_eqb n 6 h, ne_eqb n 7 k))

  -- a length
  length_is : (i : ℕ) {n : ℕ} → n ≡ number_at o 8 (16 + 8 * (5 + i)) file → i < length_count file
      → length_at file i ≡ cond (ltb n 9223372036854775808) n 0
  unfolding length_at
  length_is i {n} e h = rw (lt-ltb i (length_count file) h) (ap natural (dim_is (5 + i) e) ∙ natural_signed 8 n)

module _ {file : List ℕ} {o : Order} {count i : ℕ} (l : Looked file o count i) where
  pub length_there : {n : ℕ} → n ≡ number_at o 8 (16 + 8 * (5 + i)) file → i < count → n < 9223372036854775808 → n ≡ length_at file i
  length_there {n} e h k = let c = l.counted in sym (length_is l.told i e (omega arith) ∙ rw (lt-ltb n 9223372036854775808 k))

  pub length_negative : {n : ℕ} → n ≡ number_at o 8 (16 + 8 * (5 + i)) file → i < count → 9223372036854775808 ≤ n → 0 ≡ length_at file i
  length_negative {n} e h k = let c = l.counted in sym (length_is l.told i e (omega arith) ∙ rw (le-ltb n 9223372036854775808 k))

  pub length_none : count ≤ i → 0 ≡ length_at file i
  unfolding length_at
  length_none h = let c = l.counted in let u : length_count file ≤ i = omega arith in sym (rw (le-ltb i (length_count file) u))

pub looked : {file : List ℕ} {o : Order} {count i : ℕ} → OrderKnown file o → count ≡ length_count file → i < 3 → Looked file o count i
looked t c h = record { told = t; counted = c; small = h }

pub count_few : (file : List ℕ) → length_count file ≤ 3
unfolding length_count
count_few file = go (field_is 6 (dim file 0)) (field_is 7 (dim file 0))
  where
    go : (a b : Bool) → cond a 2 (cond b 3 0) ≤ 3
    go true b = omega arith
    go false true = omega arith
    go false false = omega arith

pub counted_so : {file : List ℕ} {o : Order} {count : ℕ} → OrderKnown file o → count ≡ length_count file → FewLengths file o count
counted_so {file} t c = record { told = t; few = rw c (count_few file) }

pub asked_so : {file : List ℕ} {o : Order} {count i : ℕ} → FewLengths file o count → i < count → LengthAsked file o i
asked_so c h = let f = c.few in record { told = c.told; small = omega arith }

-- ---- The magic, and all together.

pub magic_yes : (file : List ℕ) (i : ℕ) → get_or file (4 + i) 0 ≡ get_or magic i 0 → magic_at file i ≡ true
unfolding magic_at
magic_yes file i e = eq-eqb _ _ e

pub magic_no : (file : List ℕ) (i : ℕ) → (get_or file (4 + i) 0 ≡ get_or magic i 0 → ⊥) → magic_at file i ≡ false
unfolding magic_at
magic_no file i e = ne_eqb _ _ e

module _ (file : List ℕ) {a : Bool} (p : a ≡ size_stands file) where
  pub front_unsized : a ≡ false → false ≡ front_stands file
  unfolding front_stands
  front_unsized h = sym (rw (sym p ∙ h))

  module _ {b : Bool} (q : b ≡ all_below 8 (magic_at file)) (h : a ≡ true) where
    pub front_unmagic : b ≡ false → false ≡ front_stands file
    unfolding front_stands
    front_unmagic k = sym (rw (sym p ∙ h, sym q ∙ k))

    pub front_rest : {r : Bool} → b ≡ true → r ≡ offset_stands file → r ≡ front_stands file
    unfolding front_stands
    front_rest k e = e ∙ sym (rw (sym p ∙ h, sym q ∙ k))

module _ (file : List ℕ) {n : ℕ} (p : n ≡ length_count file) where
  pub dims_none : n ≤ 0 → false ≡ dims_stand file
  unfolding dims_stand
  dims_none h = let u : length_count file ≤ 0 = omega arith in sym (rw (le-ltb 0 (length_count file) u))

  module _ {b : Bool} (q : b ≡ all_below 4 (one_at file)) (h : 0 < n) where
    some_lengths : ltb 0 (length_count file) ≡ true
    some_lengths = let u : 0 < length_count file = omega arith in lt-ltb 0 (length_count file) u

    pub dims_ones : b ≡ false → false ≡ dims_stand file
    unfolding dims_stand
    dims_ones k = sym (rw (some_lengths, sym q ∙ k))

    pub dims_rest : {r : Bool} → b ≡ true → r ≡ all_below n (length_stands file) → r ≡ dims_stand file
    unfolding dims_stand
    dims_rest k e = e ∙ ap (λ m. all_below m (length_stands file)) p ∙ sym (rw (some_lengths, sym q ∙ k))

-- ---- All below a number, from the last on.

pub record Down (p : ℕ → Bool) (most i : ℕ) : Type 0 where
  pub few : i ≤ most
  pub same : all_below most p ≡ all_below i p

module _ (p : ℕ → Bool) (most : ℕ) where
  pub down_begins : Down p most most
  down_begins = record { few = omega arith; same = refl }

  pub down_ends : {i : ℕ} → Down p most i → i ≤ 0 → true ≡ all_below most p
  unfolding all_below
  down_ends {i} d h = let z : i ≡ 0 = omega arith in sym (d.same ∙ rw z)

  one_less : (i : ℕ) → 0 < i → all_below i p ≡ (p (i - 1) && all_below (i - 1) p)
  unfolding all_below
  one_less zero h = absurd (omega arith)
  one_less (suc i) h = let e : suc i - 1 ≡ i = omega arith in rw e

  pub down_next : {i : ℕ} → Down p most i → 0 < i → p (i - 1) ≡ true → Down p most (i - 1)
  down_next {i} d h e = let f = d.few in record { few = omega arith; same = d.same ∙ one_less i h ∙ rw e }

  pub down_fails : {i : ℕ} → Down p most i → 0 < i → p (i - 1) ≡ false → false ≡ all_below most p
  down_fails {i} d h e = sym (d.same ∙ one_less i h ∙ rw e)

-- a test that is answered
pub told_yes : {b t : Bool} → b ≡ t → not b ≡ false → t ≡ true
told_yes {b} e h = sym e ∙ not-false b h

pub told_no : {b t : Bool} → b ≡ t → not b ≡ true → t ≡ false
told_no {b} e h = sym e ∙ not-true b h

pub ruleset counting_down = (down_begins, down_ends, down_next, down_fails)

-- ---- The order.

pub order_most : (file : List ℕ) {n : ℕ} → n ≡ number_at MostFirst 4 0 file → n ≡ 540 → MostFirst ≡ order_of file
unfolding order_of
order_most file e h = sym (rw (eq-eqb (number_at MostFirst 4 0 file) 540 (sym e ∙ h)))

pub order_least : (file : List ℕ) {n : ℕ} → n ≡ number_at MostFirst 4 0 file → (n ≡ 540 → ⊥) → LeastFirst ≡ order_of file
unfolding order_of
order_least file e h = sym (rw (ne_eqb (number_at MostFirst 4 0 file) 540 (λ q. h (e ∙ q))))
