-- The parts of a decimal: none has a blank, a mantissa has no mark, and what makes no mantissa.
use Rattle.std.specs.Prelude.{◌≡◌, refl, List, [], ◌∷◌, ◌++◌, Bool, true, false, ◌&&◌, ℕ, ◌+◌, ◌-◌, ◌≤◌, eqb, leb, length}
use Rattle.std.proofs.Common.{sym, ◌∙◌, arith, leb-true, eqb-true}
use Rattle.lists.proofs.Laws.Booleans.{and_left, and_right, refute, clash}
use Rattle.grammar.specs.Bytes.{blank}
use Rattle.grammar.proofs.Laws.Facts.{blank_in}
use Rattle.grammar.specs.Look.{Word}
use Rattle.numbers.specs.Numbers.{digit, digits, parts, on_first, point, power_mark, unsigned, decimal_parts, mantissa}
use Rattle.numbers.specs.Numbers.{power_parts, scaled, decimal}
use Rattle.numbers.proofs.Laws.Cuts.{uncut_at, parts_some, digit_no_blank, digit_no_mark, digits_uncut, digits_are}
use Rattle.numbers.specs.Cuts.{Uncut, none, more}
use Rattle.numbers.proofs.Laws.Cuts.{digits_split}

-- words without such a byte, and what they are the parts of
data Uncuts (q : ℕ → Bool) : List Word → Type 0 where
  no_words : Uncuts q []
  and_word : {w : Word} {l : List Word} → Uncut q w → Uncuts q l → Uncuts q (w ∷ l)

first_uncut : {q : ℕ → Bool} {w : Word} {l : List Word} → Uncuts q (w ∷ l) → Uncut q w
first_uncut (and_word h k) = h

others_uncut : {q : ℕ → Bool} {w : Word} {l : List Word} → Uncuts q (w ∷ l) → Uncuts q l
others_uncut (and_word h k) = k

byte_uncut : {q : ℕ → Bool} {a : ℕ} {w : Word} → Uncut q (a ∷ w) → q a ≡ false
byte_uncut (more h k) = h

tail_uncut : {q : ℕ → Bool} {a : ℕ} {w : Word} → Uncut q (a ∷ w) → Uncut q w
tail_uncut (more h k) = k

whole_uncut : (p q : ℕ → Bool) → ((a : ℕ) → p a ≡ true → q a ≡ false) → (w : Word) → Uncuts q (parts p w) → Uncut q w
unfolding parts on_first
whole_uncut p q f [] h = none
whole_uncut p q f (a ∷ w) h = go (p a) refl (λ k. whole_uncut p q f w k)
  where
    go : (t : Bool) → p a ≡ t → (Uncuts q (parts p w) → Uncut q w) → Uncut q (a ∷ w)
    go true e ih =
        let z : parts p (a ∷ w) ≡ [] ∷ parts p w = rw e refl in
        more (f a e) (ih (others_uncut (rw z at h)))
    go false e ih =
        let k = parts_some p w in
        let z : parts p (a ∷ w) ≡ (a ∷ k.first) ∷ k.others = rw (e, k.are) refl in
        let u : Uncuts q ((a ∷ k.first) ∷ k.others) = rw z at h in
        more (byte_uncut (first_uncut u)) (ih (rw k.are (and_word (tail_uncut (first_uncut u)) (others_uncut u))))

-- a mantissa, without any byte that is neither a digit nor a point
parts_uncut : (q : ℕ → Bool) → ((a : ℕ) → digit a ≡ true → q a ≡ false) → (l : List Word) → decimal_parts l ≡ true → Uncuts q l
unfolding decimal_parts
parts_uncut q f [] h = no_words
parts_uncut q f (a ∷ []) h = and_word (digits_uncut f a (digits_split 1 15 a h).0) no_words
parts_uncut q f (a ∷ b ∷ []) h =
    let k = and_left (digits 1 15 b) _ (and_right (digits 1 15 a) _ h) in
    and_word (digits_uncut f a (digits_split 1 15 a (and_left (digits 1 15 a) _ h)).0)
    (and_word (digits_uncut f b (digits_split 1 15 b k).0) no_words)
parts_uncut q f (a ∷ b ∷ c ∷ l) h = clash (cc)

point_no_blank : (a : ℕ) → point a ≡ true → blank a ≡ false
unfolding point
point_no_blank a e = let q = eqb-true a 46 e in refute (blank a) λ k. (let z = blank_in a k in omega arith)

point_no_mark : (a : ℕ) → point a ≡ true → power_mark a ≡ false
unfolding point power_mark
point_no_mark a e = rw (eqb-true a 46 e) refl

pub mantissa_no_blank : (m : Word) → mantissa m ≡ true → Uncut blank m
unfolding mantissa
mantissa_no_blank m h = whole_uncut point blank point_no_blank m (parts_uncut blank digit_no_blank (parts point m) h)

pub mantissa_no_mark : (m : Word) → mantissa m ≡ true → Uncut power_mark m
unfolding mantissa
mantissa_no_mark m h = whole_uncut point power_mark point_no_mark m (parts_uncut power_mark digit_no_mark (parts point m) h)

-- a sign and digits, without any byte that is neither
sign_uncut : (q : ℕ → Bool) → q 45 ≡ false → q 43 ≡ false → (w : Word) → Uncut q (unsigned true w).rest → Uncut q w
unfolding unsigned
sign_uncut q i j [] h = none
sign_uncut q i j (a ∷ w) h = go (eqb a 45) refl (eqb a 43) refl
  where
    go : (t : Bool) → eqb a 45 ≡ t → (u : Bool) → eqb a 43 ≡ u → Uncut q (a ∷ w)
    go true e u f =
        let z : (unsigned true (a ∷ w)).rest ≡ w = rw e refl in
        let b : q a ≡ false = rw (eqb-true a 45 e) i in
        more b (rw z at h)
    go false e true f =
        let z : (unsigned true (a ∷ w)).rest ≡ w = rw (e, f) refl in
        let b : q a ≡ false = rw (eqb-true a 43 f) j in
        more b (rw z at h)
    go false e false f = let z : (unsigned true (a ∷ w)).rest ≡ a ∷ w = rw (e, f) refl in rw z at h

power_uncut : (q : ℕ → Bool) → q 45 ≡ false → q 43 ≡ false → ((a : ℕ) → digit a ≡ true → q a ≡ false) → (x : Word)
    → power_parts (x ∷ []) ≡ true → Uncut q x
unfolding power_parts
power_uncut q i j f x h = sign_uncut q i j x (digits_uncut f (unsigned true x).rest (digits_split 1 2 (unsigned true x).rest h).0)

pub power_no_mark : (x : Word) → power_parts (x ∷ []) ≡ true → Uncut power_mark x
unfolding power_mark
power_no_mark x h = power_uncut power_mark refl refl digit_no_mark x h

-- A DECIMAL HAS NO BLANK
power_no_blank : (l : List Word) → power_parts l ≡ true → Uncuts blank l
unfolding power_parts blank
power_no_blank [] h = no_words
power_no_blank (x ∷ []) h = and_word (power_uncut blank refl refl digit_no_blank x h) no_words
power_no_blank (x ∷ y ∷ l) h = clash (cc)

mark_no_blank : (a : ℕ) → power_mark a ≡ true → blank a ≡ false
unfolding power_mark
mark_no_blank a e = refute (blank a) λ k. go (eqb a 69) refl (blank_in a k).1
  where
    go : (t : Bool) → eqb a 69 ≡ t → a ≤ 32 → ⊥
    go true f b = let z = eqb-true a 69 f in omega arith
    go false f b = let z = eqb-true a 101 (sym (rw f refl) ∙ e) in omega arith

scaled_uncut : (l : List Word) → scaled l ≡ true → Uncuts blank l
unfolding scaled
scaled_uncut [] h = no_words
scaled_uncut (m ∷ l) h =
    and_word (mantissa_no_blank m (and_left (mantissa m) _ h))
    (power_no_blank l (and_left (power_parts l) _ (and_right (mantissa m) _ h)))

decimal_uncut : (w : Word) → decimal w ≡ true → Uncut blank w
unfolding decimal blank
decimal_uncut w h =
    sign_uncut blank refl refl w
    (whole_uncut power_mark blank mark_no_blank (unsigned true w).rest (scaled_uncut (parts power_mark (unsigned true w).rest) h))

pub decimal_blank : (x : Word) (b : ℕ) (y : Word) → blank b ≡ true → decimal (x ++ (b ∷ y)) ≡ false
decimal_blank x b y h = refute (decimal (x ++ (b ∷ y))) λ k. (let q = uncut_at blank x b y (decimal_uncut (x ++ (b ∷ y)) k) in clash (cc))

-- parts that make no mantissa
pub wrong_one : (a : Word) (l : List Word) → digits 1 15 a ≡ false → decimal_parts (a ∷ l) ≡ false
unfolding decimal_parts
wrong_one a [] h = h
wrong_one a (b ∷ []) h = rw h refl
wrong_one a (b ∷ c ∷ l) h = refl

pub wrong_two : (a b : Word) (l : List Word) → length a ≤ 15 → digits 1 (15 - length a) b ≡ false → decimal_parts (a ∷ b ∷ l) ≡ false
unfolding decimal_parts
wrong_two a b (c ∷ l) n h = refl
wrong_two a b [] n h = refute (digits 1 15 a && (digits 1 15 b && leb (length a + length b) 15)) λ k.
    let q = and_right (digits 1 15 a) _ k in
    let d = digits_split 1 15 b (and_left (digits 1 15 b) _ q) in
    let s = leb-true (length a + length b) 15 (and_right (digits 1 15 b) _ q) in
    let r = digits_are 1 (15 - length a) b d.0 d.1.0 (omega arith) in
    clash (cc)

pub wrong_three : (a b c : Word) (l : List Word) → decimal_parts (a ∷ b ∷ c ∷ l) ≡ false
unfolding decimal_parts
wrong_three a b c l = refl
