-- The sixteen decimals: powers of ten, the test of one, the walk over all.
use Rattle.std.specs.Prelude.{◌≡◌, refl, List, [], ◌∷◌, ◌++◌, Bool, true, false, ◌&&◌, drop, not, Option, Some, None, ℕ}
use Rattle.std.proofs.Math.Path.{sym}
use Rattle.std.proofs.Common.{ap, ◌∙◌, le-leb, pow-suc, add-one, rules, ne_eqb}
use Rattle.std.proofs.lemmas.Option.{some_pair_parts}
use Rattle.std.proofs.Math.Bool.{and-false, and-true}
use Prim.Native.Nat.{ℕ, zero, suc, ◌+◌, ◌*◌, ◌-◌, ◌^◌, ◌≤◌, ◌<◌}
use native.Mathlib.Omega.{arith}
use Rattle.grammar.specs.Look.{Word}
use Rattle.lists.specs.Lists.{all}
use Rattle.numbers.specs.Numbers.{decimal, decimal_value, in_value, is_whole, equal_to, words, last_row, sixteen}
use Rattle.numbers.specs.declared.Decimal.{Decimal}
use Rattle.numbers.specs.Sixteen.{right_at}
use Rattle.std.proofs.lemmas.Bool.{lt-leb, not-true, not-false}
use Rattle.grammar.specs.Bytes.{blank}
use Rattle.nodes.specs.Texts.{says_at}
use Rattle.numbers.specs.Numbers.{parts, digits, unsigned, decimal_parts, mantissa, scaled}
use Rattle.numbers.proofs.Laws.Cuts.{words_none, first_word, powers}
use Rattle.numbers.specs.Cuts.{Uncut, none, more}
use Rattle.numbers.specs.Stream.{letter_at, char_at, stream, behind, leading, word_ends}
use Rattle.numbers.proofs.Laws.Stream.{char_byte, char_end, Blanked, blanked}
use Rattle.numbers.proofs.Laws.Listed.{word_ahead}
use Rattle.numbers.specs.Spelled.{Reading, reads, fails, Spelled}
use Rattle.numbers.proofs.Laws.InValue.{zero_value}
use Rattle.numbers.specs.declared.Source.TheVariants.{Contents}

unfoldable pub sixteen_from : ℕ → List Word → Bool
sixteen_from zero [] = true
sixteen_from zero (a ∷ l) = false
sixteen_from (suc m) [] = false
sixteen_from (suc m) (a ∷ l) = decimal a && (right_at m (decimal_value a) && sixteen_from m l)

swap : (a b x y : Bool) → ((a && x) && (b && y)) ≡ (a && (b && (x && y)))
swap false b x y = refl
swap true true x y = refl
swap true false x y = and-false x

regroup : (a x y : Bool) → ((a && x) && y) ≡ (a && (x && y))
regroup true x y = refl
regroup false x y = refl

drops : (a b : Bool) → (a && (b && false)) ≡ false
drops true b = and-false b
drops false b = refl

right_zero : (a : Word) → right_at 0 (decimal_value a) ≡ equal_to 1 a
unfolding right_at equal_to
right_zero a = refl

right_one : (a : Word) → right_at 1 (decimal_value a) ≡ equal_to 0 a
unfolding right_at equal_to
right_one a = refl

right_two : (a : Word) → right_at 2 (decimal_value a) ≡ equal_to 0 a
unfolding right_at equal_to
right_two a = refl

right_three : (a : Word) → right_at 3 (decimal_value a) ≡ equal_to 0 a
unfolding right_at equal_to
right_three a = refl

right_more : (m : ℕ) (d : Decimal) → 4 ≤ m → right_at m d ≡ true
unfolding right_at
right_more m d h = rw (le-leb 4 m h) refl

abbrev R : ℕ → Word → Bool
R m a = right_at m (decimal_value a)

last_four : (l : List Word) → (all decimal l && last_row l) ≡ sixteen_from 4 l
unfolding sixteen_from all last_row
last_four [] = refl
last_four (a ∷ []) = and-false (all decimal (a ∷ [])) ∙ sym (drops (decimal a) (R 3 a))
last_four (a ∷ b ∷ []) = and-false (all decimal (a ∷ b ∷ [])) ∙ sym (rw (drops (decimal b) (R 2 b)) (drops (decimal a) (R 3 a)))
last_four (a ∷ b ∷ c ∷ []) = and-false (all decimal (a ∷ b ∷ c ∷ []))
    ∙ sym (rw (drops (decimal c) (R 1 c), drops (decimal b) (R 2 b)) (drops (decimal a) (R 3 a)))
last_four (a ∷ b ∷ c ∷ d ∷ []) =
    rw (right_zero d, right_one c, right_two b, right_three a)
    (swap (decimal a) (equal_to 0 a) (all decimal (b ∷ c ∷ d ∷ [])) (equal_to 0 b && (equal_to 0 c && equal_to 1 d))
    ∙ ap (λ z. decimal a && (equal_to 0 a && z))
    (swap (decimal b) (equal_to 0 b) (all decimal (c ∷ d ∷ [])) (equal_to 0 c && equal_to 1 d) ∙ ap (λ z. decimal b && (equal_to 0 b && z))
    (swap (decimal c) (equal_to 0 c) (all decimal (d ∷ [])) (equal_to 1 d) ∙ ap (λ z. decimal c && (equal_to 0 c && z))
    (regroup (decimal d) true (equal_to 1 d) ∙ ap (λ z. decimal d && z) (sym (and-true (equal_to 1 d)))))))
last_four (a ∷ b ∷ c ∷ d ∷ e ∷ l) =
    and-false (all decimal (a ∷ b ∷ c ∷ d ∷ e ∷ l))
    ∙ sym (rw (drops (decimal d) (R 0 d), drops (decimal c) (R 1 c), drops (decimal b) (R 2 b)) (drops (decimal a) (R 3 a)))

by_count : (n : ℕ) (l : List Word) → (all decimal l && last_row (drop n l)) ≡ sixteen_from (n + 4) l
unfolding sixteen_from all last_row
by_count zero l = last_four l
by_count (suc n) [] = let e : suc n + 4 ≡ suc (n + 4) = omega arith in rw e refl
by_count (suc n) (a ∷ l) =
    let e : suc n + 4 ≡ suc (n + 4) = omega arith in
    rw (e, right_more (n + 4) (decimal_value a) (omega arith), sym (by_count n l)) (regroup (decimal a) (all decimal l) (last_row (drop n l)))

pub sixteen_is : (w : Word) → sixteen w ≡ sixteen_from 16 (words w)
unfolding sixteen
sixteen_is w = by_count 12 (words w)

-- powers of ten
pub record Shifting (places p k : ℕ) : Type 0 where
  pub few : k ≤ places
  pub top : places ≤ 18
  pub same : p ≡ 10 ^ k

pub shifting_start : {places : ℕ} → places ≤ 18 → Shifting places 1 0
shifting_start h = record { few = omega arith; top = h; same = refl }

module _ {places p k : ℕ} (go : Shifting places p k) where
  pub shifting_done : places ≤ k → p ≡ 10 ^ places
  shifting_done h = let e : k ≡ places = omega (arith, go.few) in rw e at go.same

  pub shifting_room : p * 10 < 2 ^ 64
  shifting_room = let q : 10 ^ k ≤ 10 ^ 18 = powers k 18 (omega (arith, go.few, go.top)) in omega (arith, go.same)

  pub shifting_on : k < places → Shifting places (p * 10) (k + 1)
  shifting_on h = record {
    few = omega arith;
    top = go.top;
    same = rw (add-one k, pow-suc 10 k) (ap (λ z. z * 10) go.same);
  }

pub ruleset shifting = (shifting_start, shifting_done, shifting_room, shifting_on, rules)

-- the test of one
pub right_far : (m : ℕ) (d : Decimal) → 4 ≤ m → true ≡ right_at m d
unfolding right_at
right_far m d h = sym (rw (le-leb 4 m h) refl)

pub right_last : (m : ℕ) (d : Decimal) → m ≡ 0 → {r : Bool} → r ≡ in_value is_whole 1 d → r ≡ right_at m d
unfolding right_at
right_last m d e h = h ∙ sym (rw e refl)

pub right_near : (m : ℕ) (d : Decimal) → m < 4 → (m ≡ 0 → ⊥) → {r : Bool} → r ≡ is_whole 0 d.amount → r ≡ right_at m d
unfolding right_at
right_near m d l n h = h ∙ sym (zero_value d) ∙ sym (rw (lt-leb 4 m l, ne_eqb m 0 n) refl)

pub ruleset testing = (right_far, right_last, right_near, rules)

-- one word of the list
step : (m : ℕ) (t : Bool) (x : Word) (l : List Word) → decimal x ≡ true → right_at m (decimal_value x) ≡ t
    → sixteen_from (suc m) (x ∷ l) ≡ (t && sixteen_from m l)
unfolding sixteen_from
step m t x l f q = rw (f, q) refl

no_more : (m : ℕ) → sixteen_from (suc m) [] ≡ false
unfolding sixteen_from
no_more m = refl

wrong : (m : ℕ) (x : Word) (l : List Word) → decimal x ≡ false → sixteen_from (suc m) (x ∷ l) ≡ false
unfolding sixteen_from
wrong m x l f = rw f refl

empty : decimal [] ≡ false
unfolding decimal unsigned scaled mantissa decimal_parts parts digits all
empty = refl

-- the walk
pub record Checking (text : List ℕ) (at left i : ℕ) : Type 0 where
  pub same : sixteen (says_at text at) ≡ sixteen_from left (words (stream Contents text i))

pub checking_start : (text : List ℕ) (at : ℕ) → Checking text at 16 at
unfolding stream
checking_start text at = record { same = sixteen_is (says_at text at) }

module _ {text : List ℕ} {at left i : ℕ} (go : Checking text at left i) {from : ℕ}
    (ef : from ≡ behind Contents text (leading blank (stream Contents text i)) i) where
  starts : Blanked text i from
  starts = rw ef (blanked (leading blank (stream Contents text i)) text i refl)

  here : sixteen (says_at text at) ≡ sixteen_from left (words (stream Contents text from))
  here = go.same ∙ ap (sixteen_from left) starts.same_words

  -- the end
  module _ (none_left : left ≤ 0) {c : Option (ℕ × ℕ)} (ec : c ≡ letter_at text from) where
    now_at : c ≡ char_at Contents text from
    unfolding char_at
    now_at = ec

    pub checking_end : c ≡ None → true ≡ sixteen (says_at text at)
    unfolding sixteen_from
    checking_end e = let z : left ≡ 0 = omega arith in sym (here ∙ rw (z, char_end Contents text from now_at e, words_none) refl)

    pub checking_over : {b j : ℕ} → c ≡ Some (b, j) → false ≡ sixteen (says_at text at)
    unfolding sixteen_from
    checking_over {b} {j} e =
        let z : left ≡ 0 = omega arith in
        let s = (char_byte Contents text from now_at e).splits in
        let f = first_word (stream Contents text j) (more (starts.no_blank b (stream Contents text j) s) none) in
        sym (here ∙ rw (z, s, f.are) refl)

  -- a decimal
  module _ (some_left : 0 < left) {r : Option (Decimal × ℕ)} (p : Spelled Contents text from r) where
    pub checking_fails : r ≡ None → false ≡ sixteen (says_at text at)
    unfolding word_ends
    checking_fails e = sym (here ∙ failing p.reading e)
      where
        m : left ≡ suc (left - 1)
        m = omega arith

        by : (x y : Word) → decimal x ≡ false → Uncut blank x → stream Contents text from ≡ x ++ y → word_ends y ≡ true
            → sixteen_from left (words (stream Contents text from)) ≡ false
        by [] [] f u s n = rw (m, s, words_none) (no_more (left - 1))
        by [] (b ∷ y) f u s n = let z : ◌≡◌ {A = ℕ} 0 1 = (let q = starts.no_blank b y s in cc) in absurd (omega arith)
        by (a ∷ x) y f u s n = rw (m, s, word_ahead a x y u n) (wrong (left - 1) (a ∷ x) (words y) f)

        failing : {z : Option (Decimal × ℕ)} → Reading Contents text from decimal decimal_value z → z ≡ None
            → sixteen_from left (words (stream Contents text from)) ≡ false
        failing (fails x y f u s n) q = by x y f u s n
        failing (reads x f d u s n) q = let z : ◌≡◌ {A = ℕ} 0 1 = cc in absurd (omega arith)

    module _ {d : Decimal} {j : ℕ} (e : r ≡ Some (d, j)) where
      module _ {t : Bool} (et : t ≡ right_at (left - 1) d) where
        one : sixteen (says_at text at) ≡ (t && sixteen_from (left - 1) (words (stream Contents text j)))
        one = here ∙ read p.reading e
          where
            m : left ≡ suc (left - 1)
            m = omega arith

            by : (x : Word) (k : ℕ) (v : Decimal) → decimal x ≡ true → v ≡ decimal_value x → Uncut blank x → stream Contents text from ≡ x
                ++ stream Contents text k → word_ends (stream Contents text k) ≡ true → v ≡ d → k ≡ j
                → sixteen_from left (words (stream Contents text from)) ≡ (t && sixteen_from (left - 1) (words (stream Contents text j)))
            by [] k v f h u s n a b = let z : ◌≡◌ {A = ℕ} 0 1 = (let q = empty in cc) in absurd (omega arith)
            by (y ∷ x) k v f h u s n a b =
                let q : right_at (left - 1) (decimal_value (y ∷ x)) ≡ t = ap (right_at (left - 1)) (sym h ∙ a) ∙ sym et in
                ap (λ z. sixteen_from z (words (stream Contents text from))) m
                ∙ ap (sixteen_from (suc (left - 1))) (ap words s ∙ word_ahead y x (stream Contents text k) u n)
                ∙ (step (left - 1) t (y ∷ x) (words (stream Contents text k)) f q
                ∙ ap (λ z. t && sixteen_from (left - 1) (words (stream Contents text z))) b)

            read : {z : Option (Decimal × ℕ)} → Reading Contents text from decimal decimal_value z → z ≡ Some (d, j)
                → sixteen_from left (words (stream Contents text from)) ≡ (t && sixteen_from (left - 1) (words (stream Contents text j)))
            read (fails x y f u s n) q = let z : ◌≡◌ {A = ℕ} 0 1 = cc in absurd (omega arith)
            read (reads x {j = k} {d = v} f h u s n) q = let p = some_pair_parts _ _ _ _ q in by x k v f h u s n p.0 p.1

        pub checking_wrong : not t ≡ true → false ≡ sixteen (says_at text at)
        checking_wrong h = sym (one ∙ rw (not-true t h) refl)

        pub checking_on : not t ≡ false → Checking text at (left - 1) j
        checking_on h = record { same = one ∙ rw (not-false t h) refl }

pub ruleset checking = (checking_start, checking_end, checking_over, checking_fails, checking_wrong, checking_on, rules)
