-- THEOREMS ON TWO SHEETS: one answer, the sheets exchanged, sheets alike. Assumes nothing.
use Rattle.std.specs.Prelude.{◌≡◌, Bool, true, false, cond, List, [], ◌∷◌, ℕ, zero, suc, ◌+◌, ◌≤◌, ◌<◌, eqb, ltb, length, get_or, ◌↔◌}
use Rattle.std.proofs.Math.Path.{refl}
use Rattle.std.proofs.Common.{sym, ap, ◌∙◌, subst, arith, ⊎_elim, eqb-true, eq-eqb, lt-ltb, le-ltb}
use Rattle.lists.proofs.Laws.Numbers.{lt?, eqb_turned}
use Rattle.lists.specs.Lists.{two_of}
use Rattle.records.specs.Width.{seven}
use Rattle.records.specs.Record.{Location, record_in, location_in}
use Rattle.records.specs.Sheet.{bare, width_of}
use Rattle.records.proofs.Laws.Record.{location_fits, location_back, seven_sound}
use Rattle.records.proofs.Laws.Round.{said_wider}
use Rattle.records.proofs.Laws.Widths.{fits_wider}
use Rattle.comparison.specs.Compare.{count_below, has_at, same_at, same, moved, first_only, second_only, Compares, Tails}
use Rattle.comparison.specs.declared.Compared.{Compared}
use Rattle.comparison.proofs.Laws.Sums.{front, below_most, both_is, both_turned, adds_up, adds_up_second}

pub compare_unique : (s t before : List ℕ) (a b : Compared) (x y : List ℕ) → Compares s t before a x → Compares s t before b y →
    (a ≡ b) × (x ≡ y)
compare_unique s t before a b x y p q = (p.answers ∙ sym q.answers, p.zero ∙ sym q.zero)

pub tail_unique : (s t before a b x y : List ℕ) → Tails s t before a x → Tails s t before b y → (a ≡ b) × (x ≡ y)
tail_unique s t before a b x y p q = (p.answers ∙ sym q.answers, p.zero ∙ sym q.zero)

-- ---- The sheets exchanged.

alike : (n : ℕ) (p q : ℕ → Bool) → ((i : ℕ) → p i ≡ q i) → count_below n p ≡ count_below n q
unfolding count_below
alike zero p q h = refl
alike (suc n) p q h =
    let e = alike n p q h in
    let f : cond {A = ℕ} (p n) 1 0 ≡ cond {A = ℕ} (q n) 1 0 = ap (λ (b : Bool). cond {A = ℕ} b 1 0) (h n) in
    omega arith

not_there : (a : List ℕ) (i : ℕ) → same_at a [] i ≡ false
unfolding same_at has_at
not_there a i = rw (le-ltb i 0 (omega arith)) refl

none_there : (n : ℕ) (a : List ℕ) → count_below n (same_at a []) ≡ 0
unfolding count_below
none_there zero a = refl
none_there (suc n) a = rw (not_there a n) (let e = none_there n a in omega arith)

module _ (x y : ℕ) (a b : List ℕ) where
  less : (i : ℕ) → ltb (suc i) (suc (length b)) ≡ ltb i (length b)
  less i =
      ⊎_elim
      (λ (h : i < length b). lt-ltb (suc i) (suc (length b)) (omega arith) ∙ sym (lt-ltb i (length b) h))
      (λ (h : length b ≤ i). le-ltb (suc i) (suc (length b)) (omega arith) ∙ sym (le-ltb i (length b) h))
      (lt? i (length b))

  later : (i : ℕ) → same_at (x ∷ a) (y ∷ b) (suc i) ≡ same_at a b i
  unfolding same_at has_at
  later i = rw (less i) refl

  here : same_at (x ∷ a) (y ∷ b) 0 ≡ eqb x y
  unfolding same_at has_at
  here = rw (lt-ltb 0 (suc (length b)) (omega arith)) refl

  next : same (x ∷ a) (y ∷ b) ≡ cond (eqb x y) 1 0 + same a b
  next =
      front (length a) (same_at (x ∷ a) (y ∷ b)) ∙ ap (λ (t : Bool). cond t 1 0 + count_below (length a) (λ i. same_at (x ∷ a) (y ∷ b)
      (suc i))) here
      ∙ ap (λ (n : ℕ). cond (eqb x y) 1 0 + n) (alike (length a) (λ i. same_at (x ∷ a) (y ∷ b) (suc i)) (same_at a b) later)

same_turned : (a b : List ℕ) → same a b ≡ same b a
unfolding count_below
same_turned [] [] = refl
same_turned [] (y ∷ b) = sym (none_there (suc (length b)) (y ∷ b))
same_turned (x ∷ a) [] = none_there (suc (length a)) (x ∷ a)
same_turned (x ∷ a) (y ∷ b) =
    next x y a b ∙ ap (λ (n : ℕ). cond (eqb x y) 1 0 + n) (same_turned a b) ∙ ap (λ (t : Bool). cond t 1 0 + same b a) (eqb_turned x y)
    ∙ sym (next y x b a)

-- same and moved stay, first and second are exchanged
pub record Turned (a b : List ℕ) : Type 0 where
  pub same_stays : same a b ≡ same b a
  pub moved_stays : moved a b ≡ moved b a
  pub first_is : first_only a b ≡ second_only b a
  pub second_is : second_only a b ≡ first_only b a

pub turned_round : (a b : List ℕ) → two_of eqb a ≡ false → two_of eqb b ≡ false → Turned a b
turned_round a b g h =
    let s = same_turned a b in
    let p = both_is a b in
    let q = both_is b a in
    let t = both_turned a b g h in
    record { same_stays = s; moved_stays = omega arith; first_is = refl; second_is = refl }

-- ---- Sheets alike.

all_same : (a b : List ℕ) → same a b ≡ length a → length a ≡ length b → a ≡ b
all_same [] [] e l = refl
all_same [] (y ∷ b) e l = absurd (omega arith)
all_same (x ∷ a) [] e l = absurd (omega arith)
all_same (x ∷ a) (y ∷ b) e l =
    go (eqb x y) refl (sym (next x y a b) ∙ e) (below_most (length a) (same_at a b)) (λ h. all_same a b h (omega arith))
  where
    go : (t : Bool) → eqb x y ≡ t → cond {A = ℕ} (eqb x y) 1 0 + same a b ≡ suc (length a) → same a b ≤ length a
        → (same a b ≡ length a → a ≡ b)
        → x ∷ a ≡ y ∷ b
    go true q sum most f =
        let z : cond {A = ℕ} (eqb x y) 1 0 ≡ 1 = rw q refl in
        let w : same a b ≡ length a = omega arith in
        λ k. eqb-true x y q k ∷ f w k
    go false q sum most f = absurd (let z : cond {A = ℕ} (eqb x y) 1 0 ≡ 0 = rw q refl in omega arith)

same_self : (a : List ℕ) → same a a ≡ length a
unfolding count_below
same_self [] = refl
same_self (x ∷ a) =
    let n = next x x a a in
    let r = same_self a in
    let t : cond {A = ℕ} (eqb x x) 1 0 ≡ 1 = rw (eq-eqb x x refl) refl in
    omega arith

-- nothing moved and nothing in one only, exactly where both have the same records in the same order
pub record Alike (a b : List ℕ) : Type 0 where
  pub none_moved : moved a b ≡ 0
  pub none_first : first_only a b ≡ 0
  pub none_second : second_only a b ≡ 0

pub alike_same : (a b : List ℕ) → two_of eqb a ≡ false → two_of eqb b ≡ false → Alike a b → a ≡ b
alike_same a b g h k =
    let p = k.none_moved in
    let q = k.none_first in
    let r = k.none_second in
    let s = adds_up a b in
    let t = adds_up_second a b g h in
    all_same a b (omega arith) (omega arith)

pub same_alike : (a b : List ℕ) → two_of eqb a ≡ false → a ≡ b → Alike a b
same_alike a b g e = subst (λ (l : List ℕ). Alike a l) e (
    let s = same_self a in
    let p = adds_up a a in
    let q = adds_up_second a a g g in
    record { none_moved = omega arith; none_first = omega arith; none_second = omega arith })

-- ---- Equal records are equal locations, whatever the widths: n is a word of a sheet s, m of a sheet t.

module _ (s t : List ℕ) (n m : ℕ) where
  abbrev pub one : Location
  one = location_in (width_of s) (bare (width_of s) n)

  abbrev pub two : Location
  two = location_in (width_of t) (bare (width_of t) m)

  back : (r : List ℕ) (k : ℕ) → location_in seven (record_in seven (location_in (width_of r) k)) ≡ location_in (width_of r) k
  back r k = location_back seven_sound (fits_wider (said_wider (get_or r 0 0)) (location_fits (width_of r) k))

  pub held_same : (record_in seven one ≡ record_in seven two) ↔ (one ≡ two)
  held_same =
      (λ e. sym (back s (bare (width_of s) n)) ∙ ap (location_in seven) e ∙ back t (bare (width_of t) m), λ e. ap (record_in seven) e)
