-- The decision leaves one answer, and one content of each slice lent. (Of `first_line`, whose promise is an equation, `one_answer` of
-- numbers says it.) A first line of more than 24 bytes is refused with 1, whatever it says.
use Rattle.std.specs.Prelude.{◌≡◌, refl, List, true, ℕ, ◌<◌, leb, length, Option, Some}
use Rattle.std.proofs.Common.{sym, ◌∙◌, arith}
use Rattle.std.proofs.lemmas.Bool.{lt-leb}
use Rattle.lists.proofs.Laws.Booleans.{and_false, both_ways, never_some}
use Rattle.cifti.specs.Conditions.{lengths_wrong}
use Rattle.cifti.proofs.Laws.Theorems.{reads_unique}
use Rattle.cifti.specs.declared.answer.Answer.{Answer}
use Rattle.input.specs.Lengths.{lengths_in}
use Rattle.input.proofs.Laws.Lengths.{many_lengths}
use Rattle.input.specs.Limits.{most_text}
use Rattle.lister.specs.Decision.{Chooses, bad_lengths, too_long, as_read, Decides, bad_form, good_form}

module _ {lengths buffer : List ℕ} {came : ℕ} {records work : List ℕ} where
  pub chooses_unique : {a b : Answer} {s t v w : List ℕ}
      → Chooses lengths buffer came records work a s v → Chooses lengths buffer came records work b t w → (a ≡ b) × (s ≡ t) × (v ≡ w)
  chooses_unique (bad_lengths h) (bad_lengths k) = (refl, refl, refl)
  chooses_unique (bad_lengths h) (too_long k m) = both_ways h k
  chooses_unique (bad_lengths h) (as_read k m r) = both_ways h k
  chooses_unique (too_long h n) (bad_lengths k) = both_ways k h
  chooses_unique (too_long h n) (too_long k m) = (refl, refl, refl)
  chooses_unique (too_long h n) (as_read k m r) = absurd (omega arith)
  chooses_unique (as_read h n q) (bad_lengths k) = both_ways k h
  chooses_unique (as_read h n q) (too_long k m) = absurd (omega arith)
  chooses_unique (as_read h n q) (as_read k m r) = reads_unique q r

one : {l k : List ℕ} {o : Option (List ℕ)} → o ≡ Some l → o ≡ Some k → l ≡ k
one p q = cc

module _ {line buffer : List ℕ} {came : ℕ} {records work : List ℕ} where
  pub decides_unique : {a b : Answer} {s t v w : List ℕ}
      → Decides line buffer came records work a s v → Decides line buffer came records work b t w → (a ≡ b) × (s ≡ t) × (v ≡ w)
  decides_unique (bad_form h) (bad_form k) = (refl, refl, refl)
  decides_unique (bad_form h) (good_form k c) = never_some (sym h ∙ k)
  decides_unique (good_form h c) (bad_form k) = never_some (sym k ∙ h)
  decides_unique (good_form h c) (good_form k d) = chooses_unique c (rw (one h k) d)

-- ---- Bytes behind the limit make no difference: a program may stop reading at the first of them.

module _ {came more : ℕ} (past : most_text < came) (also : most_text < more) where
  chooses_past : {lengths buffer records work : List ℕ} {a : Answer} {s w : List ℕ}
      → Chooses lengths buffer came records work a s w → Chooses lengths buffer more records work a s w
  chooses_past (bad_lengths h) = bad_lengths h
  chooses_past (too_long h m) = too_long h also
  chooses_past (as_read h m r) = absurd (omega arith)

  pub decides_past : {line buffer records work : List ℕ} {a : Answer} {s w : List ℕ}
      → Decides line buffer came records work a s w → Decides line buffer more records work a s w
  decides_past (bad_form h) = bad_form h
  decides_past (good_form h c) = good_form h (chooses_past c)

-- ---- Nor do bytes behind the 24th of the first line.

wrong_count : (l : List ℕ) → 3 < length l → lengths_wrong l ≡ true
unfolding lengths_wrong
wrong_count l h = rw (lt-leb (length l) 3 h, and_false (leb 2 (length l))) refl

pub long_line : (line lengths : List ℕ) → 24 < length line → lengths_in line ≡ Some lengths → lengths_wrong lengths ≡ true
long_line line lengths h e = wrong_count lengths (many_lengths line h e)
