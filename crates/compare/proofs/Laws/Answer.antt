-- What the answer comes to: refused, or counted. Assumes nothing.
use Rattle.std.specs.Prelude.{◌≡◌, refl, Bool, true, false, not, ◌&&◌, List, ℕ, ◌-◌, ◌≤◌, eqb, length}
use Rattle.std.proofs.Math.Path.{sym, ap}
use Rattle.std.proofs.Common.{◌∙◌, arith, ne_eqb}
use Rattle.lists.specs.Lists.{count, two_of}
use Rattle.records.specs.Sheet.{count_of}
use Rattle.comparison.specs.Compare.{records_of, has_record, same, moved, first_only, second_only, compare_refusal, compared}
use Rattle.comparison.proofs.Laws.Held.{held_long}
use Rattle.comparison.proofs.Laws.Sums.{both_is, only_is, both_turned}
use Rattle.matching.specs.declared.sheet.Sheet.{Sheet}
use Rattle.compare.specs.declared.refusal.Refusal.{Refusal}
use Rattle.compare.specs.Refused.{number_of, Begun}
use Rattle.compare.proofs.Laws.Rows.{refused, second_twice, none_refused}
use Rattle.compare.proofs.Laws.Covered.{left_out}

-- refused, all is 0
zeros : (n : ℕ) (a b : List ℕ) → (n ≡ 0 → ⊥) → compared n a b ≡ record { number = n; same = 0; moved = 0; first = 0; second = 0 }
unfolding compared
zeros n a b h = rw (ne_eqb n 0 h) refl

pub refused_is : (a b : List ℕ) (r : Refusal) {n m : ℕ} → n ≡ number_of r → number_of r ≡ m
    → record { number = n; same = 0; moved = 0; first = 0; second = 0 } ≡ compared m a b
refused_is a b r {n} {m} e h = sym (zeros n a b (λ z. refused r (sym e ∙ z))) ∙ ap (λ (k : ℕ). compared k a b) (e ∙ h)

-- ---- The sums.

pub counted_sums : (a b : List ℕ) → two_of eqb a ≡ false → two_of eqb b ≡ false → {k both n m : ℕ} → k ≡ same a b → both ≡ count (has_record b) a
    → n ≡ length a → m ≡ length b
    → record { number = 0; same = k; moved = both - k; first = n - both; second = m - both } ≡ compared 0 a b
unfolding compared
counted_sums a b oa ob {k} {both} {n} {m} ks is ns ms =
    let e = both_is a b in
    let f = only_is a b in
    let g = only_is b a in
    let c = both_turned a b oa ob in
    let x : both - k ≡ moved a b = omega arith in
    let y : n - both ≡ first_only a b = omega arith in
    let z : m - both ≡ second_only a b = omega arith in
    λ j. record { number = 0; same = ks j; moved = x j; first = y j; second = z j }

module _ (x y : Sheet) {s t : List ℕ} {room : ℕ} (p : x.bytes.now ≡ s) (q : y.bytes.now ≡ t) (ok : Begun s t room) where
  long_first : x.count ≡ length (records_of s)
  long_first = x.counts ∙ ap count_of p ∙ sym (held_long s)

  long_second : y.count ≡ length (records_of t)
  long_second = y.counts ∙ ap count_of q ∙ sym (held_long t)

  module _ {c : Bool} (is : c ≡ two_of eqb (records_of y.bytes.now)) where
    there : c ≡ two_of eqb (records_of t)
    there = is ∙ ap (λ (l : List ℕ). two_of eqb (records_of l)) q

    pub number_twice : c ≡ true → 14 ≡ compare_refusal s t room
    number_twice h = second_twice s t room ok.one ok.two ok.fits (sym there ∙ h)

    pub none_twice : c ≡ false → compare_refusal s t room ≡ 0
    none_twice h = none_refused s t room ok.one ok.two ok.fits ok.first_once (sym there ∙ h)

  module _ {both : ℕ} (is : both ≡ count (has_record (records_of y.bytes.now)) (records_of x.bytes.now)) {c : Bool}
      (twice : c ≡ (not (eqb both y.count) && two_of eqb (records_of y.bytes.now))) where
    in_both : both ≡ count (has_record (records_of t)) (records_of s)
    in_both = is ∙ ap (λ (l : List ℕ). count (has_record (records_of l)) (records_of x.bytes.now)) q
        ∙ ap (λ (l : List ℕ). count (has_record (records_of t)) (records_of l)) p

    -- the test that may be left out
    asked : c ≡ two_of eqb (records_of t)
    asked = twice ∙ ap (λ (l : List ℕ). not (eqb both y.count) && two_of eqb (records_of l)) q
        ∙ left_out (records_of s) ok.first_once (records_of t) long_second in_both

    pub repeat_is : c ≡ true → 14 ≡ compare_refusal s t room
    repeat_is h = second_twice s t room ok.one ok.two ok.fits (sym asked ∙ h)

    module _ (h : c ≡ false) where
      second_once : two_of eqb (records_of t) ≡ false
      second_once = sym asked ∙ h

      pub both_few : both ≤ x.count
      both_few = let e = only_is (records_of s) (records_of t) in let l = long_first in let i = in_both in omega arith

      pub both_fits : both ≤ y.count
      both_fits =
          let e = only_is (records_of t) (records_of s) in
          let l = long_second in
          let i = in_both in
          let z = both_turned (records_of s) (records_of t) ok.first_once second_once in
          omega arith

      module _ {k : ℕ} (same_is : k ≡ same (records_of x.bytes.now) (records_of y.bytes.now)) where
        at_same : k ≡ same (records_of s) (records_of t)
        at_same = same_is ∙ ap (λ (l : List ℕ). same (records_of l) (records_of y.bytes.now)) p
            ∙ ap (λ (l : List ℕ). same (records_of s) (records_of l)) q

        pub same_few : k ≤ both
        same_few = let e = both_is (records_of s) (records_of t) in let i = in_both in let j = at_same in omega arith

        pub compared_is : record { number = 0; same = k; moved = both - k; first = x.count - both; second = y.count - both }
            ≡ compared (compare_refusal s t room) (records_of s) (records_of t)
        compared_is = counted_sums (records_of s) (records_of t) ok.first_once second_once at_same in_both long_first long_second
            ∙ ap (λ (n : ℕ). compared n (records_of s) (records_of t))
            (sym (none_refused s t room ok.one ok.two ok.fits ok.first_once second_once))
