-- Words cut into parts, as a reader that goes on byte by byte meets them; digits in a row.
use Rattle.std.specs.Prelude.{◌≡◌, refl, List, [], ◌∷◌, ◌++◌, Bool, true, false, ℕ, suc, ◌+◌, ◌*◌, ◌-◌, ◌^◌, ◌<◌, ◌≤◌, leb, length}
use Rattle.std.proofs.Common.{ap, append_assoc, arith, pow-suc, add-one, length-append, le-leb, leb-true, leb-false, ne_eqb}
use Rattle.std.proofs.Math.Bool.{and-false}
use Rattle.std.proofs.Math.Nat.{pow-le-pow_right}
use Rattle.std.proofs.lemmas.Bool.{lt-leb}
use Rattle.lists.proofs.Laws.Booleans.{and_left, and_right}
use Rattle.grammar.specs.Bytes.{blank}
use Rattle.grammar.proofs.Laws.Facts.{within}
use Rattle.grammar.specs.Look.{Word}
use Rattle.lists.specs.Lists.{all, those}
use Rattle.numbers.specs.Numbers.{digit, digits, number, value, parts, on_first, comma, point, power_mark, filled, words}
use Rattle.numbers.specs.Cuts.{Uncut, none, more}
pub use Rattle.lists.proofs.Laws.Lists.{all_append}

pub uncut_snoc : {p : ℕ → Bool} {u : Word} (b : ℕ) → Uncut p u → p b ≡ false → Uncut p (u ++ (b ∷ []))
uncut_snoc b none k = more k none
uncut_snoc b (more h u) k = more h (uncut_snoc b u k)

pub uncut_join : {p : ℕ → Bool} {u v : Word} → Uncut p u → Uncut p v → Uncut p (u ++ v)
uncut_join none k = k
uncut_join (more h u) k = more h (uncut_join u k)

pub uncut_at : (p : ℕ → Bool) (u : Word) (b : ℕ) (v : Word) → Uncut p (u ++ (b ∷ v)) → p b ≡ false
uncut_at p [] b v (more h k) = h
uncut_at p (a ∷ u) b v (more h k) = uncut_at p u b v k

-- the parts of uncut bytes: at the end, before a cut, and before anything else
pub parts_end : {p : ℕ → Bool} {u : Word} → Uncut p u → parts p u ≡ u ∷ []
unfolding parts on_first
parts_end none = refl
parts_end (more h u) = rw (h, parts_end u) refl

pub parts_cut : {p : ℕ → Bool} {u : Word} (a : ℕ) (w : Word) → Uncut p u → p a ≡ true → parts p (u ++ (a ∷ w)) ≡ u ∷ parts p w
unfolding parts on_first
parts_cut a w none k = rw k refl
parts_cut a w (more h u) k = rw (h, parts_cut a w u k) refl

pub record Parts (p : ℕ → Bool) (w : Word) : Type 0 where
  pub first : Word
  pub others : List Word
  pub are : parts p w ≡ first ∷ others

pub parts_some : (p : ℕ → Bool) (w : Word) → Parts p w
unfolding parts on_first
parts_some p [] = record { first = []; others = []; are = refl }
parts_some p (a ∷ w) = go (p a) refl (parts_some p w)
  where
    go : (b : Bool) → p a ≡ b → Parts p w → Parts p (a ∷ w)
    go true e h = record { first = []; others = parts p w; are = rw e refl }
    go false e h = record { first = a ∷ h.first; others = h.others; are = rw (e, h.are) refl }

pub parts_join : {p : ℕ → Bool} {u : Word} (w x : Word) (l : List Word) → Uncut p u → parts p w ≡ x ∷ l → parts p (u ++ w) ≡ (u ++ x) ∷ l
unfolding parts on_first
parts_join w x l none k = k
parts_join w x l (more h u) k = rw (h, parts_join w x l u k) refl

-- words: blanks part them, lead and trail
pub words_none : words [] ≡ []
unfolding words parts those filled
words_none = refl

pub words_blank : (a : ℕ) (w : Word) → blank a ≡ true → words (a ∷ w) ≡ words w
unfolding words parts those filled
words_blank a w h = rw h refl

pub words_end : {a : ℕ} {u : Word} → Uncut blank (a ∷ u) → words (a ∷ u) ≡ (a ∷ u) ∷ []
unfolding words those filled
words_end h = ap (those filled) (parts_end h)

pub words_cut : {a : ℕ} {u : Word} (b : ℕ) (w : Word) → Uncut blank (a ∷ u) → blank b ≡ true → words ((a ∷ u) ++ (b ∷ w)) ≡ (a ∷ u)
    ∷ words w
unfolding words those filled
words_cut b w h k = ap (those filled) (parts_cut b w h k)

-- the first word of what begins with uncut bytes begins with them
pub record FirstWord (u w : Word) : Type 0 where
  pub tail : Word
  pub others : List Word
  pub are : words w ≡ (u ++ tail) ∷ others

pub first_word : {a : ℕ} {u : Word} (w : Word) → Uncut blank (a ∷ u) → FirstWord (a ∷ u) ((a ∷ u) ++ w)
unfolding words those filled
first_word w h =
    let k = parts_some blank w in
    record { tail = k.first; others = those filled k.others; are = ap (those filled) (parts_join w k.first k.others h k.are) }

-- digits are neither blank, nor comma, nor point
pub digit_in : (a : ℕ) → digit a ≡ true → (48 ≤ a) × (a ≤ 57)
unfolding digit
digit_in a h = within 48 57 a h

pub digit_no_blank : (a : ℕ) → digit a ≡ true → blank a ≡ false
unfolding blank
digit_no_blank a h =
    let p = (digit_in a h).0 in
    rw (ne_eqb a 32 (λ e. omega arith), ne_eqb a 9 (λ e. omega arith), ne_eqb a 10 (λ e. omega arith), ne_eqb a 13 (λ e. omega arith)) refl

pub digit_no_comma : (a : ℕ) → digit a ≡ true → comma a ≡ false
unfolding comma
digit_no_comma a h = let p = (digit_in a h).0 in ne_eqb a 44 (λ e. omega arith)

pub digit_no_point : (a : ℕ) → digit a ≡ true → point a ≡ false
unfolding point
digit_no_point a h = let p = (digit_in a h).0 in ne_eqb a 46 (λ e. omega arith)

pub digit_no_mark : (a : ℕ) → digit a ≡ true → power_mark a ≡ false
unfolding power_mark
digit_no_mark a h = let p = (digit_in a h).1 in rw (ne_eqb a 69 (λ e. omega arith), ne_eqb a 101 (λ e. omega arith)) refl

pub digits_uncut : {p : ℕ → Bool} → ((a : ℕ) → digit a ≡ true → p a ≡ false) → (u : Word) → all digit u ≡ true → Uncut p u
unfolding all
digits_uncut f [] h = none
digits_uncut f (a ∷ u) h = more (f a (and_left (digit a) _ h)) (digits_uncut f u (and_right (digit a) _ h))

-- digits in a row: what they write
pub number_append : (n : ℕ) (u v : Word) → number n (u ++ v) ≡ number (number n u) v
unfolding number
number_append n [] v = refl
number_append n (a ∷ u) v = number_append (n * 10 + (a - 48)) u v

pub grown : (n k d : ℕ) → n < 10 ^ k → d ≤ 9 → n * 10 + d < 10 ^ (k + 1)
grown n k d h e = rw (add-one k, pow-suc 10 k) (omega arith)

pub number_below : (k n : ℕ) (u : Word) → all digit u ≡ true → n < 10 ^ k → number n u < 10 ^ (k + length u)
unfolding number all
number_below k n [] h s = let e : k + 0 ≡ k = omega arith in rw e s
number_below k n (a ∷ u) h s =
    let d = digit_in a (and_left (digit a) _ h) in
    let e : k + suc (length u) ≡ k + 1 + length u = omega arith in
    rw e (number_below (k + 1) (n * 10 + (a - 48)) u (and_right (digit a) _ h) (grown n k (a - 48) s (omega arith)))

pub value_below : (u : Word) → all digit u ≡ true → value u < 10 ^ length u
unfolding value
value_below u h = let e : 0 + length u ≡ length u = omega arith in rw e at (number_below 0 0 u h (omega arith))

pub powers : (a b : ℕ) → a ≤ b → 10 ^ a ≤ 10 ^ b
powers a b h = let ten : 0 < 10 = omega arith in pow-le-pow_right ten h

-- so many digits, or not
pub digits_are : (lo hi : ℕ) (u : Word) → all digit u ≡ true → lo ≤ length u → length u ≤ hi → digits lo hi u ≡ true
unfolding digits
digits_are lo hi u h k l = rw (h, le-leb lo (length u) k, le-leb (length u) hi l) refl

pub digits_few : (lo hi : ℕ) (u : Word) → length u < lo → digits lo hi u ≡ false
unfolding digits
digits_few lo hi u h = rw (lt-leb lo (length u) h) (and-false (all digit u))

pub digits_many : (lo hi : ℕ) (u x : Word) → hi < length u → digits lo hi (u ++ x) ≡ false
unfolding digits
digits_many lo hi u x h =
    let k : hi < length (u ++ x) = omega (arith, length-append u x) in
    rw (lt-leb (length (u ++ x)) hi k, and-false (leb lo (length (u ++ x)))) (and-false (all digit (u ++ x)))

pub digits_other : (lo hi : ℕ) (u x : Word) (b : ℕ) → digit b ≡ false → digits lo hi (u ++ (b ∷ x)) ≡ false
unfolding digits all
digits_other lo hi u x b h = rw (all_append digit u (b ∷ x), h, and-false (all digit u)) refl

-- digits, at most so many, and then a byte at which reading stopped: whatever follows, the word is not so many digits
pub digits_stopped : (lo hi : ℕ) (u x : Word) (b : ℕ) → length u ≤ hi → (length u < hi → digit b ≡ false)
    → digits lo hi (u ++ (b ∷ x)) ≡ false
digits_stopped lo hi u x b h k = go (leb hi (length u)) refl
  where
    go : (t : Bool) → leb hi (length u) ≡ t → digits lo hi (u ++ (b ∷ x)) ≡ false
    go true e =
        let l = leb-true hi (length u) e in
        let q : u ++ (b ∷ x) ≡ (u ++ (b ∷ [])) ++ x = rw append_assoc refl in
        rw q (digits_many lo hi (u ++ (b ∷ [])) x (omega (arith, length-append u (b ∷ []))))
    go false e = let l = leb-false hi (length u) e in digits_other lo hi u x b (k l)

pub digits_split : (lo hi : ℕ) (u : Word) → digits lo hi u ≡ true → (all digit u ≡ true) × ((lo ≤ length u) × (length u ≤ hi))
unfolding digits
digits_split lo hi u h = (and_left (all digit u) _ h, within lo hi (length u) (and_right (all digit u) _ h))
