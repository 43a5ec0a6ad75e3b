-- TWO LISTS SIDE BY SIDE: an equal pair may be taken away, and which number is set aside is free. Assumes nothing.
use Rattle.std.specs.Prelude.{◌≡◌, Bool, ◌&&◌, ◌⊎◌, leb, length, get_or, set, take, drop}
use Rattle.std.proofs.Math.Path.{refl, ap}
use Rattle.std.proofs.Common.{sym, ◌∙◌, ⊎_elim, inl, inr, add-one, length-set, drop-cons, take_all, take-suc, take-suc-set}
use Rattle.std.proofs.Math.Bool.{true, false, cond}
use mathlib.Core.List.{List, [], ◌∷◌, ◌++◌, map, append-nil}
use Prim.Native.Nat.{ℕ, ◌+◌, ◌-◌, ◌*◌, ◌%◌, ◌≤◌, ◌<◌}
use native.Mathlib.Omega.{arith}
use Rattle.std.proofs.Math.Dec.{eqb}
use Rattle.std.proofs.Math.Seq.{drop-length}
use borrow.Author.Tests.{eqb-true, eqb-false, eq-eqb, ne_eqb, le-leb}
use Rattle.lists.specs.Lists.{count, two_of}
use Rattle.lists.proofs.Laws.Lists.{count_append}
use Rattle.lists.specs.Reordered.{member}
use Rattle.comparison.specs.Matched.{paired, matched}
use Rattle.comparison.specs.Tagged.{tagged, place_in, ahead, in_hand}
use Rattle.comparison.specs.Compare.{has_record}
use Rattle.comparison.proofs.Laws.Matched.{matched_counts}
use Rattle.comparison.proofs.Laws.Sums.{once}
use Rattle.comparison.proofs.Laws.Tagged.{matched_both}

one : (ℕ → Bool) → ℕ → ℕ
one p x = cond (p x) 1 0

-- ---- A pair taken away: an even number and its successor, where the even one stands nowhere else.

module _ (x : ℕ) (even : x % 2 ≡ 0) where
  -- the others are paired as without it
  without : (l : List ℕ) (y : ℕ) → (y ≡ x → ⊥) → paired (x ∷ ((x + 1) ∷ l)) y ≡ paired l y
  unfolding paired member count
  without l y ne = by (eqb (y % 2) 0) refl
    where
      n : ℕ
      n = count (λ z. eqb z (y + 1)) l

      by : (t : Bool) → eqb (y % 2) 0 ≡ t → (eqb (y % 2) 0 && leb 1 (cond (eqb x (y + 1)) 1 0 + (cond (eqb (x + 1) (y + 1)) 1 0 + n)))
          ≡ (eqb (y % 2) 0 && leb 1 n)
      by false e = rw e refl
      by true e =
          let even-y = eqb-true (y % 2) 0 e in
          let z : 0 + (0 + n) ≡ n = omega arith in
          rw (e, ne_eqb x (y + 1) (λ q. omega arith), ne_eqb (x + 1) (y + 1) (λ q. ne (omega arith)), z) refl

  others : (k l : List ℕ) → count (λ y. eqb y x) l ≡ 0 → count (paired (x ∷ ((x + 1) ∷ k))) l ≡ count (paired k) l
  unfolding count
  others k [] h = refl
  others k (y ∷ l) h = by (eqb y x) refl h (others k l)
    where
      by : (t : Bool) → eqb y x ≡ t → cond (eqb y x) 1 0 + count (λ z. eqb z x) l ≡ 0
          → (count (λ z. eqb z x) l ≡ 0 → count (paired (x ∷ ((x + 1) ∷ k))) l ≡ count (paired k) l)
          → cond (paired (x ∷ ((x + 1) ∷ k)) y) 1 0 + count (paired (x ∷ ((x + 1) ∷ k))) l ≡ cond (paired k y) 1 0 + count (paired k) l
      by true e s f = absurd (let z : cond {A = ℕ} (eqb y x) 1 0 ≡ 1 = rw e refl in omega arith)
      by false e s f =
          let z : cond {A = ℕ} (eqb y x) 1 0 ≡ 0 = rw e refl in
          let r = f (omega arith) in
          rw (without k y (eqb-false y x e)) (omega arith)

  module _ (l : List ℕ) (none : count (λ y. eqb y x) l ≡ 0) where
    has_next : paired (x ∷ ((x + 1) ∷ l)) x ≡ true
    unfolding paired member count
    has_next = rw (eq-eqb (x % 2) 0 even, ne_eqb x (x + 1) (λ q. omega arith), eq-eqb (x + 1) (x + 1) refl)
        (le-leb 1 (0 + (1 + count (λ y. eqb y (x + 1)) l)) (omega arith))

    is_odd : paired (x ∷ ((x + 1) ∷ l)) (x + 1) ≡ false
    unfolding paired
    is_odd = rw (ne_eqb ((x + 1) % 2) 0 (λ q. omega arith)) refl

    pub pair_away : matched (x ∷ ((x + 1) ∷ l)) ≡ 1 + matched l
    unfolding matched count
    pair_away = rw (has_next, is_odd) (let r = others l l none in omega arith)

-- ---- One step ahead.

count_next : (p : ℕ → Bool) (l : List ℕ) (i : ℕ) → i < length l → count p (drop i l) ≡ one p (get_or l i 0) + count p (drop (i + 1) l)
unfolding count one
count_next p l i h = ap (count p) (drop-cons l i 0 h) ∙ ap (λ (n : ℕ). one p (get_or l i 0) + count p (drop n l)) (sym (add-one i))

count_last : (p : ℕ → Bool) (l : List ℕ) (n : ℕ) → n < length l → count p (take (n + 1) l) ≡ count p (take n l) + one p (get_or l n 0)
unfolding count one
count_last p l n h =
    let z : one p (get_or l n 0) + 0 ≡ one p (get_or l n 0) = omega arith in
    ap (λ (k : ℕ). count p (take k l)) (add-one n) ∙ ap (count p) (take-suc l n 0 h) ∙ count_append p (take n l) (get_or l n 0 ∷ [])
    ∙ ap (λ (k : ℕ). count p (take n l) + k) z

pub place_inside : (turned : Bool) (n j : ℕ) → j < n → place_in turned n j < n
unfolding place_in
place_inside true n j h = omega arith
place_inside false n j h = h

-- numbers tagged are counted as those that they tag
count_tagged : (p : ℕ → Bool) (bit : ℕ) (l : List ℕ) → count p (map (tagged bit) l) ≡ count (λ r. p (tagged bit r)) l
unfolding count
count_tagged p bit [] = refl
count_tagged p bit (x ∷ l) = ap (λ (n : ℕ). cond (p (tagged bit x)) 1 0 + n) (count_tagged p bit l)

count_ahead : (p : ℕ → Bool) (turned : Bool) (l : List ℕ) (j : ℕ) → j < length l
    → count p (ahead turned j l) ≡ one p (get_or l (place_in turned (length l) j) 0) + count p (ahead turned (j + 1) l)
unfolding ahead place_in
count_ahead p false l j h = count_next p l j h
count_ahead p true l j h =
    let n : ℕ = length l - (j + 1) in
    let e : length l - j ≡ n + 1 = omega arith in
    let c = count_last p l n (omega arith) in
    ap (λ (k : ℕ). count p (take k l)) e ∙ omega arith

all_ahead : (turned : Bool) (l : List ℕ) → ahead turned 0 l ≡ l
unfolding ahead
all_ahead true l = take_all (length l - 0) l (omega arith)
all_ahead false l = refl

none_ahead : (turned : Bool) (l : List ℕ) → ahead turned (length l) l ≡ []
unfolding ahead
none_ahead true l = let e : length l - length l ≡ 0 = omega arith in ap (λ (n : ℕ). take n l) e
none_ahead false l = drop-length l

-- ---- The walk.

nothing_counted : (p : ℕ → Bool) → count p [] ≡ 0
unfolding count
nothing_counted p = refl

itself : (x : ℕ) → one (λ y. eqb y x) x ≡ 1
unfolding one
itself x = rw (eq-eqb x x refl) refl

two_more : (p : ℕ → Bool) (x y : ℕ) (l : List ℕ) → count p (x ∷ y ∷ l) ≡ one p x + (one p y + count p l)
unfolding count one
two_more p x y l = refl

module _ (a : List ℕ) (turned : Bool) (b : List ℕ) where
  -- so many pairs were taken away, and k numbers set aside; the numbers in hand have one more pair for each record that is still in both,
  -- and no even number twice
  pub record Side (work : List ℕ) (i j k pairs : ℕ) : Type 0 where
    pub i_in_lem : i ≤ length a
    pub j_in_lem : j ≤ length b
    pub room : length a + length b ≤ length work
    pub passed : k + (pairs + pairs) ≡ i + j
    pub sum : pairs + matched (in_hand (take k work) a turned b i j) ≡ count (has_record b) a
    pub single : (x : ℕ) → count (λ y. eqb y (tagged 0 x)) (in_hand (take k work) a turned b i j) ≤ 1

  hand_counts : (p : ℕ → Bool) (s : List ℕ) (i j : ℕ) → count p (in_hand s a turned b i j)
      ≡ count p s + (count (λ r. p (tagged 0 r)) (drop i a) + count (λ r. p (tagged 1 r)) (ahead turned j b))
  hand_counts p s i j =
      count_append p s (map (tagged 0) (drop i a) ++ map (tagged 1) (ahead turned j b))
      ∙ ap (λ (n : ℕ). count p s + n) (count_append p (map (tagged 0) (drop i a)) (map (tagged 1) (ahead turned j b))
      ∙ ap (λ (n : ℕ). n + count p (map (tagged 1) (ahead turned j b))) (count_tagged p 0 (drop i a))
      ∙ ap (λ (n : ℕ). count (λ r. p (tagged 0 r)) (drop i a) + n) (count_tagged p 1 (ahead turned j b)))

  -- none of the odd is even
  none_even : (x : ℕ) (l : List ℕ) → count (λ r. eqb (tagged 1 r) (tagged 0 x)) l ≡ 0
  unfolding count
  none_even x [] = refl
  none_even x (y ∷ l) = rw (ne_eqb (tagged 1 y) (tagged 0 x) (λ h. omega arith)) (let e = none_even x l in omega arith)

  same_test : (x : ℕ) (l : List ℕ) → count (λ r. eqb (tagged 0 r) (tagged 0 x)) l ≡ count (eqb x) l
  unfolding count
  same_test x [] = refl
  same_test x (y ∷ l) = by (eqb x y) refl (same_test x l)
    where
      by : (t : Bool) → eqb x y ≡ t → count (λ r. eqb (tagged 0 r) (tagged 0 x)) l ≡ count (eqb x) l
          → cond {A = ℕ} (eqb (tagged 0 y) (tagged 0 x)) 1 0 + count (λ r. eqb (tagged 0 r) (tagged 0 x)) l
          ≡ cond (eqb x y) 1 0 + count (eqb x) l
      by true e r =
          let q = eqb-true x y e in
          rw (e, eq-eqb (tagged 0 y) (tagged 0 x) (omega arith)) (ap (λ (n : ℕ). 1 + n) r)
      by false e r =
          let q = eqb-false x y e in
          rw (e, ne_eqb (tagged 0 y) (tagged 0 x) (λ h. q (omega arith))) (ap (λ (n : ℕ). 0 + n) r)

  few : (t : Bool) → cond {A = ℕ} t 1 0 ≤ 1
  few true = omega arith
  few false = omega arith

  pub side_start : (work : List ℕ) → length a + length b ≤ length work → two_of eqb a ≡ false → Side work 0 0 0 0
  side_start work room onceOnly =
      let whole : in_hand [] a turned b 0 0 ≡ map (tagged 0) a ++ map (tagged 1) b =
      ap (λ (l : List ℕ). map (tagged 0) a ++ map (tagged 1) l) (all_ahead turned b) in
      record {
        i_in_lem = omega arith;
        j_in_lem = omega arith;
        room = room;
        passed = refl;
        sum = let m = ap matched whole in let n = matched_both a b in omega arith;
        single = λ x.
            let c = hand_counts (λ y. eqb y (tagged 0 x)) [] 0 0 in
            let e = none_even x (ahead turned 0 b) in
            let f : count (λ r. eqb (tagged 0 r) (tagged 0 x)) a ≡ cond (has_record a x) 1 0 = same_test x a ∙ once x a onceOnly in
            let g = few (has_record a x) in
            let z : count (λ y. eqb y (tagged 0 x)) [] ≡ 0 = nothing_counted (λ y. eqb y (tagged 0 x)) in
            omega arith;
      }

  -- a number set aside
  aside_counts : (p : ℕ → Bool) (work : List ℕ) (k v : ℕ) → k < length work → count p (take (k + 1) (set work k v))
      ≡ count p (take k work) + one p v
  unfolding one count
  aside_counts p work k v h =
      let z : one p v + 0 ≡ one p v = omega arith in
      ap (λ (n : ℕ). count p (take n (set work k v))) (add-one k) ∙ ap (count p) (take-suc-set work k v h)
      ∙ count_append p (take k work) (v ∷ []) ∙ ap (λ (n : ℕ). count p (take k work) + n) z

  same_one : (p : ℕ → Bool) (bit v x : ℕ) → v ≡ x → one p (tagged bit v) ≡ one (λ r. p (tagged bit r)) x
  unfolding one
  same_one p bit v x e = ap (λ (n : ℕ). cond (p (n * 2 + bit)) 1 0) e

  module _ {work : List ℕ} {i j k pairs : ℕ} (side : Side work i j k pairs) where
    pub side_room : k ≤ length a + length b
    side_room = let p = side.passed in let m = side.i_in_lem in let n = side.j_in_lem in omega arith

    pub side_place : (i < length a) ⊎ (j < length b) → k < length work
    side_place h = let p = side.passed in let m = side.i_in_lem in let n = side.j_in_lem in let r = side.room in
        ⊎_elim (λ (q : i < length a). omega arith) (λ (q : j < length b). omega arith) h

    -- the same numbers in hand
    moved : (w : List ℕ) (i' j' : ℕ) → ((p : ℕ → Bool) → count p (in_hand (take (k + 1) w) a turned b i' j')
        ≡ count p (in_hand (take k work) a turned b i j))
        → length w ≡ length work → i' ≤ length a → j' ≤ length b → i' + j' ≡ i + j + 1 → Side w i' j' (k + 1) pairs
    moved w i' j' counts long li lj on =
        let p = side.passed in
        let r = side.room in
        record {
          i_in_lem = li;
          j_in_lem = lj;
          room = omega arith;
          passed = omega arith;
          sum = ap (λ (n : ℕ). pairs + n) (matched_counts (in_hand (take k work) a turned b i j) (in_hand (take (k + 1) w) a turned b i' j')
              counts) ∙ side.sum;
          single = λ x. let c = counts (λ y. eqb y (tagged 0 x)) in let s = side.single x in omega arith;
        }

    pub first_aside : (v : ℕ) → i < length a → v ≡ get_or a i 0 → Side (set work k (tagged 0 v)) (i + 1) j (k + 1) pairs
    first_aside v h e = moved (set work k (tagged 0 v)) (i + 1) j counts (length-set work k (tagged 0 v)) (omega arith) side.j_in_lem
        (omega arith)
      where
        counts : (p : ℕ → Bool) → count p (in_hand (take (k + 1) (set work k (tagged 0 v))) a turned b (i + 1) j)
            ≡ count p (in_hand (take k work) a turned b i j)
        counts p =
            let c = hand_counts p (take (k + 1) (set work k (tagged 0 v))) (i + 1) j in
            let d = hand_counts p (take k work) i j in
            let s = aside_counts p work k (tagged 0 v) (side_place (inl h)) in
            let n = count_next (λ r. p (tagged 0 r)) a i h in
            let q = same_one p 0 v (get_or a i 0) e in
            omega arith

    module _ (h : j < length b) where
      pub second_aside : (v : ℕ) → v ≡ get_or b (place_in turned (length b) j) 0 → Side (set work k (tagged 1 v)) i (j + 1) (k + 1) pairs
      second_aside v e = moved (set work k (tagged 1 v)) i (j + 1) counts (length-set work k (tagged 1 v)) side.i_in_lem (omega arith)
          (omega arith)
        where
          counts : (p : ℕ → Bool) → count p (in_hand (take (k + 1) (set work k (tagged 1 v))) a turned b i (j + 1))
              ≡ count p (in_hand (take k work) a turned b i j)
          counts p =
              let c = hand_counts p (take (k + 1) (set work k (tagged 1 v))) i (j + 1) in
              let d = hand_counts p (take k work) i j in
              let s = aside_counts p work k (tagged 1 v) (side_place (inr h)) in
              let n = count_ahead (λ r. p (tagged 1 r)) turned b j h in
              let q = same_one p 1 v (get_or b (place_in turned (length b) j) 0) e in
              omega arith

      -- a pair taken away
      pub pair_taken : i < length a → get_or a i 0 ≡ get_or b (place_in turned (length b) j) 0 → Side work (i + 1) (j + 1) k (pairs + 1)
      pair_taken g e =
          let p = side.passed in
          let gone : count (λ y. eqb y x) rest ≡ 0 = none_left in
          let away = pair_away x (omega arith) rest gone in
          let all : matched (in_hand (take k work) a turned b i j) ≡ matched (x ∷ ((x + 1) ∷ rest)) = matched_counts (x ∷ ((x + 1) ∷ rest))
          (in_hand (take k work) a turned b i j) counts in
          let s = side.sum in
          record {
            i_in_lem = omega arith;
            j_in_lem = omega arith;
            room = side.room;
            passed = omega arith;
            sum = omega arith;
            single = λ y. let c = counts (λ z. eqb z (tagged 0 y)) in let m = side.single y in let f = more (λ z. eqb z (tagged 0 y)) in
                omega arith;
          }
        where
          x : ℕ
          x = tagged 0 (get_or a i 0)

          rest : List ℕ
          rest = in_hand (take k work) a turned b (i + 1) (j + 1)

          more : (p : ℕ → Bool) → count p (x ∷ ((x + 1) ∷ rest)) ≡ one p x + (one p (x + 1) + count p rest)
          more p = two_more p x (x + 1) rest

          counts : (p : ℕ → Bool) → count p (in_hand (take k work) a turned b i j) ≡ count p (x ∷ ((x + 1) ∷ rest))
          counts p =
              let c = hand_counts p (take k work) (i + 1) (j + 1) in
              let d = hand_counts p (take k work) i j in
              let m = count_next (λ r. p (tagged 0 r)) a i g in
              let n = count_ahead (λ r. p (tagged 1 r)) turned b j h in
              let f = more p in
              let q = same_one p 0 (get_or a i 0) (get_or a i 0) refl in
              let y : x + 1 ≡ tagged 1 (get_or a i 0) = omega arith in
              let r : one p (x + 1) ≡ one (λ r. p (tagged 1 r)) (get_or b (place_in turned (length b) j) 0) = ap (one p) y ∙ same_one p 1
              (get_or a i 0) (get_or b (place_in turned (length b) j) 0) e in
              omega arith

          none_left : count (λ y. eqb y x) rest ≡ 0
          none_left =
              let c = counts (λ y. eqb y x) in
              let m = side.single (get_or a i 0) in
              let f = more (λ y. eqb y x) in
              let q : one (λ y. eqb y x) x ≡ 1 = itself x in
              omega arith

    -- at the end
    pub side_end : length a ≤ i → length b ≤ j → pairs + matched (take k work) ≡ count (has_record b) a
    side_end h g =
        let m = side.i_in_lem in
        let n = side.j_in_lem in
        let ie : i ≡ length a = omega arith in
        let je : j ≡ length b = omega arith in
        let none : in_hand (take k work) a turned b i j ≡ take k work =
        ap (λ (q : ℕ). in_hand (take k work) a turned b q j) ie ∙ ap (λ (q : ℕ). in_hand (take k work) a turned b (length a) q) je
        ∙ ap (λ (l : List ℕ). take k work ++ (map (tagged 0) l ++ map (tagged 1) (ahead turned (length b) b))) (drop-length a)
        ∙ ap (λ (l : List ℕ). take k work ++ map (tagged 1) l) (none_ahead turned b) ∙ append-nil (take k work) in
        ap (λ (l : List ℕ). pairs + matched l) (sym none) ∙ side.sum
