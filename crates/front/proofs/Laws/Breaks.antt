-- THE FOUR CASES OF 22: no list is written up to the data offset just where, behind some good extensions, fewer than 16 bytes are left
-- before the data offset or the end of the bytes, or a size is below 16, not a multiple of 16, or past either.
use Rattle.std.specs.Prelude.{◌≡◌, List, [], ◌∷◌, ◌++◌, true, ◌↔◌, ℕ, zero, suc, ◌+◌, ◌-◌, ◌%◌, ◌^◌, ◌≤◌, ◌<◌, length, take, drop, Option, None}
use Rattle.std.proofs.Common.{sym, ap, ◌∙◌, subst, arith, length-drop, length-append, length-take-le}
use Rattle.std.proofs.Math.Decide.{ℕ_discrete, dec_lt}
use Rattle.std.proofs.Math.Seq.{take-append-add}
use Rattle.lists.proofs.Laws.Booleans.{refute, never_some}
use Rattle.records.specs.Bytes.{Below}
use Rattle.records.proofs.Laws.Bytes.{drop_below}
use Rattle.nifti.specs.Fields.{number_at}
use Rattle.nifti.specs.Extensions.{Extension, size_of, written, GoodExtension, ExtensionList, nothing, next}
use Rattle.nifti.specs.Model.{extension_in, one_more_if, cut}
use Rattle.nifti.proofs.Laws.Lists.{Fits, size_fits, cut_bad, written_size, found_next, found_good, found_joined, size_is, list_found}
use Rattle.nifti.proofs.Laws.Walk.{number_within}
use Rattle.nifti.specs.declared.Order.{Order}

-- so many bytes are left up to the data offset, and these up to the end of the file
pub data Breaks (o : Order) : (left : ℕ) → List ℕ → Type 0 where
  few_before_offset : {left : ℕ} {s : List ℕ} → 0 < left → left < 16 → Breaks o left s
  few_before_end : {left : ℕ} {s : List ℕ} → 0 < left → length s < 16 → Breaks o left s
  size_below : {left : ℕ} {s : List ℕ} → 0 < left → number_at o 4 0 s < 16 → Breaks o left s
  size_negative : {left : ℕ} {s : List ℕ} → 0 < left → 2 ^ 31 ≤ number_at o 4 0 s → Breaks o left s
  size_broken : {left : ℕ} {s : List ℕ} → 0 < left → (number_at o 4 0 s % 16 ≡ 0 → ⊥) → Breaks o left s
  past_offset : {left : ℕ} {s : List ℕ} → 0 < left → left < number_at o 4 0 s → Breaks o left s
  past_end : {left : ℕ} {s : List ℕ} → 0 < left → length s < number_at o 4 0 s → Breaks o left s
  later : {left : ℕ} {e : Extension} {t : List ℕ} → GoodExtension e → size_of e ≤ left → Breaks o (left - size_of e) t
      → Breaks o left (written o e ++ t)

-- ---- Where it breaks no list is found.

module _ (o : Order) (left : ℕ) (s : List ℕ) (inside : left ≤ length s) (some_left : 0 < left) where
  long : length (take left s) ≡ left
  long = length-take-le left s inside

  bad : (Fits (number_at o 4 0 s) left → ⊥) → cut o (take left s) ≡ None
  bad h =
      let l = long in
      cut_bad o (take left s) (λ z. omega arith) (refute _ (λ g. h (there (size_fits _ _ g))))
    where
      there : Fits (number_at o 4 0 (take left s)) (length (take left s)) → Fits (number_at o 4 0 s) left
      there f =
          let a = f.low in
          let b = f.inside in
          let l = long in
          let e : number_at o 4 0 (take left s) ≡ number_at o 4 0 s = number_within o 4 0 left s (omega arith) in
          record { low = omega arith; inside = omega arith; high = rw (← e) f.high; whole = rw (← e) f.whole }

onward_none : (e : Extension) {l : Option (List Extension)} → l ≡ None → one_more_if true e l ≡ None
unfolding one_more_if
onward_none e h = rw h

take_one : (o : Order) (e : Extension) (g : GoodExtension e) (t : List ℕ) (left : ℕ) → size_of e ≤ left
    → take left (written o e ++ t) ≡ written o e ++ take (left - size_of e) t
take_one o e g t left h =
    let b = written_size o e g t in
    let p : left ≡ length (written o e) + (left - size_of e) = omega arith in
    ap (λ n. take n (written o e ++ t)) p ∙ take-append-add (written o e) t (left - size_of e)

pub broken_none : {o : Order} {left : ℕ} {s : List ℕ} → Breaks o left s → left ≤ length s → cut o (take left s) ≡ None
broken_none {o} {left} {s} (few_before_offset h k) i = bad o left s i h (λ f. let a = f.low in let b = f.inside in omega arith)
broken_none {o} {left} {s} (few_before_end h k) i = bad o left s i h (λ f. let a = f.low in let b = f.inside in omega arith)
broken_none {o} {left} {s} (size_below h k) i = bad o left s i h (λ f. let a = f.low in omega arith)
broken_none {o} {left} {s} (size_negative h k) i = bad o left s i h (λ f. let a = f.high in omega arith)
broken_none {o} {left} {s} (size_broken h k) i = bad o left s i h (λ f. k f.whole)
broken_none {o} {left} {s} (past_offset h k) i = bad o left s i h (λ f. let a = f.inside in omega arith)
broken_none {o} {left} {s} (past_end h k) i = bad o left s i h (λ f. let a = f.inside in omega arith)
broken_none {o} {left} (later {e = e} {t = t} g k b) i =
    let w = written_size o e g t in
    let l = length-append (written o e) t in
    ap (cut o) (take_one o e g t left k) ∙ found_next o e g (take (left - size_of e) t)
    ∙ onward_none e (broken_none b (omega arith))

-- ---- A list is written, or it breaks.

pub data Either (o : Order) (left : ℕ) (s : List ℕ) : Type 0 where
  written_to : {es : List Extension} → left ≤ length s → ExtensionList o es (take left s) → Either o left s
  broken : Breaks o left s → Either o left s

module _ (o : Order) (left : ℕ) (s : List ℕ) (b : Below 256 s) (some_left : 0 < left) (room : 16 ≤ left) (f : Fits (number_at o 4 0 s) left)
    (there : number_at o 4 0 s ≤ length s) where
  fits_all : Fits (number_at o 4 0 s) (length s)
  fits_all = record { low = f.low; inside = there; high = f.high; whole = f.whole }

  more : Either o (left - number_at o 4 0 s) (drop (number_at o 4 0 s) s) → Either o left s
  more (written_to {es} i l) =
      let n = number_at o 4 0 s in
      let g = found_good o s b fits_all in
      let e = size_is o s fits_all in
      let j = f.inside in
      let d = length-drop (number_at o 4 0 s) s in
      written_to (omega arith) (subst (λ x. ExtensionList o (extension_in o s ∷ es) (take left x)) (found_joined o s b fits_all)
      (rw (take_one o (extension_in o s) g (drop n s) left (rw e j), e) (next g l)))
  more (broken k) =
      let g = found_good o s b fits_all in
      let e = size_is o s fits_all in
      let j = f.inside in
      broken (subst (Breaks o left) (found_joined o s b fits_all) (later g (rw e j) (rw e k)))

either_by : (fuel : ℕ) (o : Order) (left : ℕ) (s : List ℕ) → left ≤ fuel → Below 256 s → Either o left s
either_by zero o left s h b = let z : left ≡ 0 = omega arith in written_to {es = []} (omega arith) (rw z nothing)
either_by (suc n) o left s h b = go (dec_lt 0 left) (dec_lt left 16) (dec_lt (number_at o 4 0 s) 16) (dec_lt left (number_at o 4 0 s))
    (dec_lt (length s) (number_at o 4 0 s)) (dec_lt (number_at o 4 0 s) (2 ^ 31)) (ℕ_discrete (number_at o 4 0 s % 16) 0)
    (λ u. either_by n o (left - number_at o 4 0 s) (drop (number_at o 4 0 s) s) u (drop_below 256 (number_at o 4 0 s) s b))
  where
    go : Dec (0 < left) → Dec (left < 16) → Dec (number_at o 4 0 s < 16) → Dec (left < number_at o 4 0 s) → Dec (length s < number_at o 4 0 s)
        → Dec (number_at o 4 0 s < 2 ^ 31) → Dec (number_at o 4 0 s % 16 ≡ 0)
        → (left - number_at o 4 0 s ≤ n → Either o (left - number_at o 4 0 s) (drop (number_at o 4 0 s) s)) → Either o left s
    go (no a) _ _ _ _ _ _ ih = let z : left ≡ 0 = omega arith in written_to {es = []} (omega arith) (rw z nothing)
    go (yes a) (yes c) _ _ _ _ _ ih = broken (few_before_offset a c)
    go (yes a) (no c) (yes d) _ _ _ _ ih = broken (size_below a d)
    go (yes a) (no c) (no d) (yes e) _ _ _ ih = broken (past_offset a e)
    go (yes a) (no c) (no d) (no e) (yes f) _ _ ih = broken (past_end a f)
    go (yes a) (no c) (no d) (no e) (no f) (no g) _ ih = broken (size_negative {s = s} a (omega arith))
    go (yes a) (no c) (no d) (no e) (no f) (yes g) (no w) ih = broken (size_broken a w)
    go (yes a) (no c) (no d) (no e) (no f) (yes g) (yes w) ih =
        more o left s b a (omega arith) (record { low = omega arith; inside = omega arith; high = g; whole = w }) (omega arith)
        (ih (omega arith))

pub either_way : (o : Order) (left : ℕ) (s : List ℕ) → Below 256 s → Either o left s
either_way o left s b = either_by left o left s (omega arith) b

-- ---- THE FOUR CASES: it breaks just where no list is written.
pub breaks_iff : (o : Order) (left : ℕ) (s : List ℕ) → Below 256 s
    → Breaks o left s ↔ ((es : List Extension) → left ≤ length s → ¬ ExtensionList o es (take left s))
breaks_iff o left s b = (λ k es i l. never_some (sym (broken_none k i) ∙ list_found l), λ h. go h (either_way o left s b))
  where
    go : ((es : List Extension) → left ≤ length s → ¬ ExtensionList o es (take left s)) → Either o left s → Breaks o left s
    go h (broken k) = k
    go h (written_to {es} i l) = absurd (h es i l)
