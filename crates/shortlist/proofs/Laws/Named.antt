-- KINDS THAT HAVE BEEN NAMED: whether a kind comes again is told from here on by a test of a kind alone. The test looks into an array, one
-- flag for each of the 64 kinds, or at the bits of a number. Assumes nothing.
use Rattle.std.specs.Prelude.{◌≡◌, refl, List, [], ◌∷◌, Bool, true, false, cond, ◌||◌, ℕ, zero, suc, ◌+◌, ◌<◌, ◌≤◌, eqb, length, get_or, set, replicate}
use Rattle.std.proofs.Common.{sym, ap, ◌∙◌, le_of_suc-le-suc, not-suc-le-zero, arith, get_or-set_same, get_or-set_other, eqb-true}
use Rattle.std.proofs.lemmas.Bool.{eqb-false}
use Rattle.lists.specs.Lists.{any, count, two_of}
use Rattle.lists.proofs.Laws.Lists.{any_none, any_same}
use Rattle.shortlist.specs.Runs.{kind_in, of_one_kind}
use Rattle.shortlist.specs.declared.answer.Model.{Model}

-- the kind of the model has been named
unfoldable pub is_named : (ℕ → Bool) → Model → Bool
is_named seen m = seen (kind_in m)

-- a kind of the list has been named, or is named twice in it
unfoldable pub again : (ℕ → Bool) → List Model → Bool
again seen l = any (is_named seen) l || two_of of_one_kind l

-- a test that takes one kind more for named
abbrev pub Adds : (seen more : ℕ → Bool) → ℕ → Type 0
Adds seen more k = (j : ℕ) → more j ≡ (eqb k j || seen j)

named_more : (seen more : ℕ → Bool) (m : Model) (l : List Model) → Adds seen more (kind_in m)
    → any (is_named more) l ≡ (any (of_one_kind m) l || any (is_named seen) l)
unfolding any is_named of_one_kind
named_more seen more m [] h = refl
named_more seen more m (n ∷ l) h = rw (h (kind_in n), named_more seen more m l h)
    (shuffle (eqb (kind_in m) (kind_in n)) (seen (kind_in n)) (any (of_one_kind m) l) (any (is_named seen) l))
  where
    shuffle : (a b c d : Bool) → ((a || b) || (c || d)) ≡ ((a || c) || (b || d))
    shuffle true b c d = refl
    shuffle false true true d = refl
    shuffle false true false d = refl
    shuffle false false c d = refl

-- the model's kind is new, and is named from here on
pub again_new : (seen more : ℕ → Bool) (m : Model) (l : List Model) → Adds seen more (kind_in m) → seen (kind_in m) ≡ false
    → again seen (m ∷ l) ≡ again more l
unfolding again any two_of is_named
again_new seen more m l h e =
    rw (e, named_more seen more m l h) (shuffle (any (is_named seen) l) (any (of_one_kind m) l) (two_of of_one_kind l))
  where
    shuffle : (a b c : Bool) → (a || (b || c)) ≡ ((b || a) || c)
    shuffle true true c = refl
    shuffle true false c = refl
    shuffle false true c = refl
    shuffle false false c = refl

-- it has been named
pub again_old : (seen : ℕ → Bool) (m : Model) (l : List Model) → seen (kind_in m) ≡ true → again seen (m ∷ l) ≡ true
unfolding again any is_named
again_old seen m l e = rw e

pub again_done : (seen : ℕ → Bool) → again seen [] ≡ false
unfolding again any two_of
again_done seen = refl

-- no kind has been named
pub again_first : (seen : ℕ → Bool) (l : List Model) → ((k : ℕ) → seen k ≡ false) → again seen l ≡ two_of of_one_kind l
unfolding again is_named
again_first seen l h = let e : any (is_named seen) l ≡ false = any_same (λ m. h (kind_in m)) l ∙ any_none l in rw e

-- ---- In an array.

abbrev pub flagged : List Bool → ℕ → Bool
flagged seen k = get_or seen k false

pub flag_adds : (seen : List Bool) (k : ℕ) → k < length seen → Adds (flagged seen) (flagged (set seen k true)) k
flag_adds seen k h j = by (eqb k j) refl
  where
    by : (b : Bool) → eqb k j ≡ b → get_or (set seen k true) j false ≡ (b || get_or seen j false)
    by true e = let q : j ≡ k = sym (eqb-true k j e) in ap (λ i. get_or (set seen k true) i false) q ∙ get_or-set_same seen k true false h
    by false e = get_or-set_other seen k j true false (λ z. eqb-false k j e (sym z))

pub flags_empty : (n k : ℕ) → flagged (replicate n false) k ≡ false
flags_empty zero k = refl
flags_empty (suc n) zero = refl
flags_empty (suc n) (suc k) = flags_empty n k

-- ---- How many have been named.

abbrev pub flags : List Bool → ℕ
flags seen = count (λ (b : Bool). b) seen

pub flags_more : (seen : List Bool) (k : ℕ) → k < length seen → get_or seen k false ≡ false → flags (set seen k true) ≡ flags seen + 1
unfolding count
flags_more [] k h e = absurd (not-suc-le-zero h)
flags_more (b ∷ seen) zero h e = let z : ◌≡◌ {A = ℕ} (cond b 1 0) 0 = rw e in omega arith
flags_more (b ∷ seen) (suc k) h e = let i = flags_more seen k (le_of_suc-le-suc h) e in omega arith

pub flags_most : (seen : List Bool) → flags seen ≤ length seen
unfolding count
flags_most [] = omega arith
flags_most (true ∷ seen) = let h = flags_most seen in omega arith
flags_most (false ∷ seen) = let h = flags_most seen in omega arith

pub flags_left : (seen : List Bool) (k : ℕ) → k < length seen → get_or seen k false ≡ false → flags seen < length seen
unfolding count
flags_left [] k h e = absurd (not-suc-le-zero h)
flags_left (b ∷ seen) zero h e = let z : ◌≡◌ {A = ℕ} (cond b 1 0) 0 = rw e in let i = flags_most seen in omega arith
flags_left (true ∷ seen) (suc k) h e = let i = flags_left seen k (le_of_suc-le-suc h) e in omega arith
flags_left (false ∷ seen) (suc k) h e = let i = flags_left seen k (le_of_suc-le-suc h) e in omega arith

pub flags_none : (n : ℕ) → flags (replicate n false) ≡ 0
unfolding count
flags_none zero = refl
flags_none (suc n) = let h = flags_none n in omega arith
