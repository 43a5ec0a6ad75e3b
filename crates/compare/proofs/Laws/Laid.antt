-- What the answer comes to, by the counts of two sheets that are laid side by side. Assumes nothing.
use Rattle.std.specs.Prelude.{◌≡◌, refl, Bool, true, false, not, ◌&&◌, List, ℕ, ◌-◌, ◌≤◌, eqb, length}
use Rattle.std.proofs.Math.Path.{sym, ap}
use Rattle.std.proofs.Common.{◌∙◌, arith, eq-eqb, ne_eqb}
use Rattle.lists.specs.Lists.{count, two_of}
use Rattle.records.specs.Outcome.{ends, applies, passes, gives_first}
use Rattle.records.specs.Sheet.{count_of}
use Rattle.comparison.specs.Compare.{records_of, has_record, same, moved, first_only, second_only, compare_refusal, compared}
use Rattle.comparison.specs.declared.Compared.{Compared}
use Rattle.comparison.proofs.Laws.Accepted.{fine}
use Rattle.comparison.proofs.Laws.Held.{held_long}
use Rattle.comparison.proofs.Laws.Sums.{both_is, only_is, both_turned}
use Rattle.matching.specs.Side.{Beside, Walkable}
use Rattle.compare.specs.Refused.{sheet_repeat_refusal, SheetFits, Begun}
use Rattle.compare.proofs.Laws.Covered.{left_out}
use Rattle.compare.proofs.Laws.Answer.{counted_sums}

-- refused, all is 0
zeros : (n : ℕ) (a b : List ℕ) → (n ≡ 0 → ⊥) → compared n a b ≡ record { number = n; same = 0; moved = 0; first = 0; second = 0 }
unfolding compared
zeros n a b h = rw (ne_eqb n 0 h) refl

pub refused_is : (a b : List ℕ) {n m : ℕ} → n ≡ m → (n ≡ 0 → ⊥)
    → record { number = n; same = 0; moved = 0; first = 0; second = 0 } ≡ compared m a b
refused_is a b {n} {m} e h = sym (zeros n a b h) ∙ ap (λ (k : ℕ). compared k a b) e

module _ {s t : List ℕ} {room n m : ℕ} (ok : Begun s t room) (ns : n ≡ count_of s) (ms : m ≡ count_of t) where
  abbrev a : List ℕ
  a = records_of s

  abbrev b : List ℕ
  b = records_of t

  pub laid_beside : Beside s t n m
  laid_beside = record { one = (fine s ok.one).0; two = (fine t ok.two).0; ns = ns; ms = ms }

  pub laid_walkable : Walkable s t n m room
  laid_walkable = let f = ok.fits in record { beside = laid_beside; fits = omega arith; single = ok.first_once }

  pub laid_fits : {after : ℕ} → after ≡ room → SheetFits t after
  laid_fits e = let f = ok.fits in record { fine = ok.two; fits = omega arith }

  module _ {both : ℕ} (is : both ≡ count (has_record b) a) {c : Bool} (twice : c ≡ (not (eqb both m) && two_of eqb b)) where
    asked : c ≡ two_of eqb b
    asked = twice ∙ left_out a ok.first_once b (ms ∙ sym (held_long t)) is

    pub repeat_is : c ≡ true → record { number = 14; same = 0; moved = 0; first = 0; second = 0 } ≡ compared (sheet_repeat_refusal t) a b
    unfolding sheet_repeat_refusal
    repeat_is h = refused_is a b (sym (gives_first (applies (sym asked ∙ h)))) (λ z. omega arith)

    module _ (h : c ≡ false) where
      second_once : two_of eqb b ≡ false
      second_once = sym asked ∙ h

      pub both_few : both ≤ n
      both_few = let e = only_is a b in let l = held_long s in omega arith

      pub both_fits : both ≤ m
      both_fits = let e = only_is b a in let l = held_long t in let q = both_turned a b ok.first_once second_once in omega arith

      module _ {k : ℕ} (ks : k ≡ same a b) where
        pub same_few : k ≤ both
        same_few = let e = both_is a b in omega arith

        pub compared_is : record { number = 0; same = k; moved = both - k; first = n - both; second = m - both }
            ≡ compared (sheet_repeat_refusal t) a b
        unfolding sheet_repeat_refusal
        compared_is = whole ∙ ap (λ (x : ℕ). compared x a b) (sym (gives_first (passes second_once ends)))
          where
            whole : record { number = 0; same = k; moved = both - k; first = n - both; second = m - both } ≡ compared 0 a b
            whole = counted_sums a b ok.first_once second_once ks is (ns ∙ sym (held_long s)) (ms ∙ sym (held_long t))

pub counted_is : (s t : List ℕ) (room : ℕ) {r : Compared} → compare_refusal s t room ≡ sheet_repeat_refusal t
    → r ≡ compared (sheet_repeat_refusal t) (records_of s) (records_of t) → r ≡ compared (compare_refusal s t room) (records_of s) (records_of t)
counted_is s t room e is = is ∙ ap (λ (k : ℕ). compared k (records_of s) (records_of t)) (sym e)

-- ---- The test that may be left out.

pub none_beyond : (both m : ℕ) (t : Bool) → both ≡ m → false ≡ (not (eqb both m) && t)
none_beyond both m t h = rw (eq-eqb both m h) refl

pub some_beyond : (both m : ℕ) (t : Bool) {r : Bool} → (both ≡ m → ⊥) → r ≡ t → r ≡ (not (eqb both m) && t)
some_beyond both m t h e = rw (ne_eqb both m h) e
