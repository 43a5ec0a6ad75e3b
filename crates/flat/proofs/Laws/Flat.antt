-- The fill of a lent slice, row by row.
use Rattle.std.specs.Prelude.{◌≡◌, refl, List, ◌++◌, ℕ, ◌+◌, ◌≤◌, ◌<◌, length, get_or, set, take}
use Rattle.std.proofs.Common.{sym, ap, ◌∙◌, arith, le-leb, length-take, take_all, rules}
use Rattle.std.proofs.lemmas.Bool.{lt-leb}
use Rattle.records.specs.Fill.{wrote, wrote_none, wrote_on, wrote_next, length_wrote}
use Rattle.cifti.specs.Answer.{filled_with, unused}
use Rattle.cifti.specs.declared.answer.Answer.{Answer}
use Rattle.flat.specs.Flat.{dimension_numbers, head_numbers, answer_numbers, laid_over}

-- ---- The fill.

pub told_short : (v s : List ℕ) → length s < length v → s ≡ laid_over v s
unfolding laid_over
told_short v s h = rw (lt-leb (length v) (length s) h)

pub told_all : (v s : List ℕ) → length v ≤ length s → wrote 0 v s ≡ laid_over v s
unfolding laid_over filled_with
told_all v s h = let e : 0 + length v ≡ length v = omega arith in rw (le-leb (length v) (length s) h, e)

pub told_row : (v s : List ℕ) {r : List ℕ} → r ≡ wrote 0 v s → length v ≤ length s → r ≡ laid_over v s
told_row v s e h = e ∙ told_all v s h

-- ---- Row by row.

pub record Putting (at : ℕ) (row start : List ℕ) (i : ℕ) (slice : List ℕ) : Type 0 where
  pub room : at + length row ≤ length start
  pub inside : i ≤ length row
  pub filled : slice ≡ wrote at (take i row) start

module _ {at : ℕ} {row start : List ℕ} where
  pub put_start : at + length row ≤ length start → Putting at row start 0 start
  put_start h = record { room = h; inside = omega arith; filled = sym (wrote_none at start) }

  module _ {i : ℕ} {slice : List ℕ} (putting : Putting at row start i slice) where
    pub put_room : length slice ≡ length start
    put_room = ap length putting.filled ∙ length_wrote at (take i row) start (omega (arith, putting.room, length-take i row))

    pub put_done : length row ≤ i → slice ≡ wrote at row start
    put_done h = putting.filled ∙ ap (λ l. wrote at l start) (take_all i row h)

    pub put_more : i < length row → Putting at row start (i + 1) (set slice (at + i) (get_or row i 0))
    put_more h = record {
      room = putting.room;
      inside = omega arith;
      filled = rw putting.filled (wrote_next at i (get_or row i 0) row start h (omega (arith, putting.room)) refl);
    }

pub ruleset put_steps = (put_start, put_done, put_more, rules)

-- a row behind those that stand at the start
row_on : (u v s : List ℕ) (next : ℕ) {row before after : List ℕ} → before ≡ wrote 0 u s → row ≡ v → after ≡ wrote next row before
    → next ≡ length u → next ≤ length s → after ≡ wrote 0 (u ++ v) s
row_on u v s next p q r e h = r ∙ rw (p, q) (wrote_on 0 next u v s (omega arith) h)

pub answer_stored : (a : Answer) (l : List ℕ) → 52 ≤ length l → {h x y z m₀ m₁ m₂ m₃ : List ℕ} → h ≡ head_numbers a
    → x ≡ dimension_numbers (get_or a.dimensions 0 unused)
    → y ≡ dimension_numbers (get_or a.dimensions 1 unused)
    → z ≡ dimension_numbers (get_or a.dimensions 2 unused)
    → m₀ ≡ wrote 0 h l → m₁ ≡ wrote 4 x m₀ → m₂ ≡ wrote 20 y m₁ → m₃ ≡ wrote 36 z m₂ → m₃ ≡ laid_over (answer_numbers a) l
answer_stored a l room h x y z p q r s =
    let d₀ : List ℕ = dimension_numbers (get_or a.dimensions 0 unused) in
    let d₁ : List ℕ = dimension_numbers (get_or a.dimensions 1 unused) in
    let d₂ : List ℕ = dimension_numbers (get_or a.dimensions 2 unused) in
    let e₀ = p ∙ ap (λ v. wrote 0 v l) h in
    let e₁ = row_on (head_numbers a) d₀ l 4 e₀ x q refl (omega arith) in
    let e₂ = row_on (head_numbers a ++ d₀) d₁ l 20 e₁ y r refl (omega arith) in
    row_on (head_numbers a ++ (d₀ ++ d₁)) d₂ l 36 e₂ z s refl (omega arith) ∙ told_all (answer_numbers a) l room
