-- Laws that the proofs about sheets share. Assumes nothing.
use Rattle.std.specs.Prelude.{◌≡◌, refl, Bool, true, false, cond, ◌&&◌, List, [], ◌∷◌, ℕ, zero, suc, ◌+◌, ◌*◌, ◌/◌, ◌%◌, ◌≤◌, ◌<◌, eqb, length, get_or, take, drop}
use Rattle.std.proofs.Common.{sym, ap, ◌∙◌, arith, add-one, div-one, add-zero, add-suc, mul-le-mul_left, eqb-true, eq-eqb, drop-cons}
use Rattle.std.proofs.Math.Seq.{drop-length}
use Rattle.lists.specs.Lists.{all}
use Rattle.records.specs.Width.{five, seven, width_said}
use Rattle.records.specs.Fields.{bits, joined, parts_of}
use Rattle.records.specs.Bytes.{bytes_of, number_written}
use Rattle.records.specs.Sheet.{head_of, count_of, good_sheet, bytes_said, width_of, sheet_width}

-- a test holds of all where it does of those passed and of the rest
pub all_step : (p : ℕ → Bool) (l : List ℕ) (i : ℕ) (ok : Bool) → i < length l → ok ≡ p (get_or l i 0)
    → all p (drop i l) ≡ (ok && all p (drop (i + 1) l))
unfolding all
all_step p l i ok h e =
    ap (all p) (drop-cons l i 0 h) ∙ ap (λ (n : ℕ). p (get_or l i 0) && all p (drop n l)) (sym (add-one i))
    ∙ ap (λ (b : Bool). b && all p (drop (i + 1) l)) (sym e)

pub all_end : (p : ℕ → Bool) (l : List ℕ) (i : ℕ) → i ≡ length l → all p (drop i l) ≡ true
unfolding all
all_end p l i e = ap (λ (n : ℕ). all p (drop n l)) e ∙ ap (all p) (drop-length l)

-- the bytes as the code computes them
pub word_bytes : (r : ℕ) → bytes_of 7 r
    ≡ r / 281474976710656 % 256 ∷ r / 1099511627776 % 256 ∷ r / 4294967296 % 256 ∷ r / 16777216 % 256 ∷ r / 65536 % 256 ∷ r / 256 % 256
    ∷ r % 256 ∷ []
unfolding bytes_of bits parts_of
word_bytes r = rw div-one

pub head_bytes : (n : ℕ) → head_of 7 n ≡ 7 ∷ n / 65536 % 256 ∷ n / 256 % 256 ∷ n % 256 ∷ []
unfolding head_of bytes_of bits parts_of
head_bytes n = rw div-one

-- n numbers of a list, each by its place, from k places behind `at`
unfoldable pub placed : List ℕ → (at k n : ℕ) → List ℕ
placed s at k zero = []
placed s at k (suc n) = get_or s (at + k) 0 ∷ placed s at (suc k) n

pub take_placed : (s : List ℕ) (at k n : ℕ) → at + k + n ≤ length s → take n (drop (at + k) s) ≡ placed s at k n
unfolding placed
take_placed s at k zero h = refl
take_placed s at k (suc n) h =
    ap (take (suc n)) (drop-cons s (at + k) 0 (omega arith))
    ∙ ap (λ (m : ℕ). get_or s (at + k) 0 ∷ take n (drop m s)) (sym (add-suc at k))
    ∙ ap (λ (l : List ℕ). get_or s (at + k) 0 ∷ l) (take_placed s at (suc k) n (omega arith))

-- the number that n bytes at a place write
written_at : (s : List ℕ) (at n : ℕ) → at + n ≤ length s → number_written (take n (drop at s)) ≡ number_written (placed s at 0 n)
written_at s at n h =
    let e : at + 0 ≡ at = omega arith in
    ap (λ (m : ℕ). number_written (take n (drop m s))) (sym e) ∙ ap number_written (take_placed s at 0 n (omega arith))

first_at : (s : List ℕ) (at : ℕ) → get_or s (at + 0) 0 ≡ get_or s at 0
first_at s at = ap (λ (n : ℕ). get_or s n 0) (add-zero at)

-- as the code computes it
pub five_bytes : (s : List ℕ) (at : ℕ) → at + 5 ≤ length s → number_written (take 5 (drop at s))
    ≡ get_or s at 0 * 4294967296 + get_or s (at + 1) 0 * 16777216 + get_or s (at + 2) 0 * 65536 + get_or s (at + 3) 0 * 256 + get_or s (at + 4) 0
unfolding placed number_written bits joined
five_bytes s at h = written_at s at 5 h ∙ omega (arith, first_at s at)

pub seven_bytes : (s : List ℕ) (at : ℕ) → at + 7 ≤ length s → number_written (take 7 (drop at s))
    ≡ (get_or s at 0 * 256 + get_or s (at + 1) 0) * 1099511627776 + number_written (take 5 (drop (at + 2) s))
unfolding placed number_written bits joined
seven_bytes s at h = written_at s at 7 h ∙ sums ∙ ap (λ (n : ℕ). (get_or s at 0 * 256 + get_or s (at + 1) 0) * 1099511627776 + n)
    (sym (ap number_written (take_placed s at 2 5 (omega arith))))
  where
    sums : number_written (placed s at 0 7) ≡ (get_or s at 0 * 256 + get_or s (at + 1) 0) * 1099511627776 + number_written (placed s at 2 5)
    sums = omega (arith, first_at s at)

pub count_three : (s : List ℕ) → 4 ≤ length s → count_of s ≡ get_or s 1 0 * 65536 + get_or s 2 0 * 256 + get_or s 3 0
unfolding placed count_of number_written bits joined
count_three s h = written_at s 1 3 (omega arith) ∙ omega arith

-- ---- The layout of a sheet.

-- a word before the last lies in the sheet
pub word_inside : (b n i : ℕ) (s : List ℕ) → i < n → length s ≡ 4 + b * n → 4 + b * (i + 1) ≤ length s
word_inside b n i s h e = let k : b * (i + 1) ≤ b * n = mul-le-mul_left b (omega arith) in omega arith

-- the bytes of a layout say it
pub said_again : (b : ℕ) → width_said (width_said b).bytes ≡ width_said b
unfolding width_said
said_again b = by (eqb b 5)
  where
    by : (x : Bool) → width_said (cond x five seven).bytes ≡ cond x five seven
    by true = refl
    by false = refl

-- they are 5 or 7
pub said_some : (b : ℕ) → (5 ≤ (width_said b).bytes) × ((width_said b).bytes ≤ 7)
unfolding width_said
said_some b = by (eqb b 5)
  where
    by : (x : Bool) → (5 ≤ (cond x five seven).bytes) × ((cond x five seven).bytes ≤ 7)
    by true = (omega arith, omega arith)
    by false = (omega arith, omega arith)

-- what the bytes told of a first byte tell
pub bytes_none : (b r : ℕ) → r ≡ bytes_said b → r ≡ 0 → b ≡ (width_said b).bytes → ⊥
unfolding bytes_said
bytes_none b r e z is =
    let told : r ≡ b = e ∙ rw (eq-eqb b (width_said b).bytes is) in omega (arith, said_some b)

pub bytes_some : (b r : ℕ) → r ≡ bytes_said b → (r ≡ 0 → ⊥) → (b ≡ (width_said b).bytes) × (r ≡ (width_said b).bytes)
unfolding bytes_said
bytes_some b r e some = by (eqb b (width_said b).bytes) refl
  where
    by : (x : Bool) → eqb b (width_said b).bytes ≡ x → (b ≡ (width_said b).bytes) × (r ≡ (width_said b).bytes)
    by true h = let is = eqb-true b (width_said b).bytes h in (is, e ∙ rw h is)
    by false h = absurd (some (e ∙ rw h))

-- what a width other than 0 tells of a sheet
pub record Widthed (s : List ℕ) (b : ℕ) : Type 0 where
  pub fine : good_sheet (width_of s).bytes s ≡ true
  pub says : width_said b ≡ width_of s

pub sheet_widthed : (s : List ℕ) (b : ℕ) → b ≡ sheet_width s → (b ≡ 0 → ⊥) → Widthed s b
unfolding sheet_width
sheet_widthed s b e some = by (good_sheet (width_of s).bytes s) refl
  where
    by : (x : Bool) → good_sheet (width_of s).bytes s ≡ x → Widthed s b
    by true g =
        let is : b ≡ (width_of s).bytes = e ∙ rw g in
        record { fine = g; says = ap width_said is ∙ said_again (get_or s 0 0) }
    by false g = absurd (some (e ∙ rw g))

pub no_sheet : (s : List ℕ) (b : ℕ) → b ≡ sheet_width s → b ≡ 0 → good_sheet (width_of s).bytes s ≡ false
unfolding sheet_width
no_sheet s b e none = by (good_sheet (width_of s).bytes s) refl
  where
    by : (x : Bool) → good_sheet (width_of s).bytes s ≡ x → good_sheet (width_of s).bytes s ≡ false
    by true g = let is : b ≡ (width_of s).bytes = e ∙ rw g in absurd (omega (arith, said_some (get_or s 0 0)))
    by false g = g
