-- What the parts of a word say of its form.
use Rattle.std.specs.Prelude.{◌≡◌, refl, List, [], ◌∷◌, Bool, true, false, ◌&&◌, ℕ, ◌^◌, ◌<◌, ◌≤◌, length}
use Rattle.std.proofs.Common.{sym, ap, ◌∙◌, arith, le-leb}
use Rattle.std.proofs.Math.Bool.{and-false}
use Rattle.lists.proofs.Laws.Booleans.{and_left, refute, clash}
use Rattle.grammar.specs.Bytes.{between}
use Rattle.grammar.specs.Look.{Word}
use Rattle.lists.specs.Lists.{all}
use Rattle.numbers.specs.Numbers.{digit, digits, value, parts, on_first, comma}
use Rattle.numbers.proofs.Laws.Cuts.{parts_some, digit_no_comma, digits_split, value_below, powers}
use Rattle.numbers.specs.Parted.{numeral}

never_nothing : (p : ℕ → Bool) (w : Word) → parts p w ≡ [] → ◌≡◌ {A = ℕ} 0 1
never_nothing p w e = let k = parts_some p w in let q = k.are in cc

-- a word of one part is that part
pub parts_one : (p : ℕ → Bool) (w x : Word) → parts p w ≡ x ∷ [] → w ≡ x
unfolding parts on_first
parts_one p [] x e = cc
parts_one p (a ∷ w) x e = go (p a) refl (λ y f. parts_one p w y f)
  where
    go : (t : Bool) → p a ≡ t → ((y : Word) → parts p w ≡ y ∷ [] → w ≡ y) → a ∷ w ≡ x
    go true h ih =
        let q : [] ∷ parts p w ≡ x ∷ [] = sym (rw h refl) ∙ e in
        clash (never_nothing p w (cc))
    go false h ih =
        let k = parts_some p w in
        let q : (a ∷ k.first) ∷ k.others ≡ x ∷ [] = sym (rw (h, k.are) refl) ∙ e in
        let o : k.others ≡ [] = cc in
        let f : a ∷ k.first ≡ x = cc in
        ap (λ l. a ∷ l) (ih k.first (k.are ∙ ap (λ l. k.first ∷ l) o)) ∙ f

-- a word of two parts or more is not all digits
pub parts_two : (p : ℕ → Bool) → ((a : ℕ) → digit a ≡ true → p a ≡ false) → (w x y : Word) (l : List Word) → parts p w ≡ x ∷ y ∷ l
    → all digit w ≡ false
unfolding parts on_first all
parts_two p f [] x y l e = clash (cc)
parts_two p f (a ∷ w) x y l e = go (p a) refl (λ x₁ g. parts_two p f w x₁ y l g)
  where
    go : (t : Bool) → p a ≡ t → ((x₁ : Word) → parts p w ≡ x₁ ∷ y ∷ l → all digit w ≡ false) → (digit a && all digit w) ≡ false
    go true h ih = let n : digit a ≡ false = refute (digit a) λ d. (let q = f a d in clash (cc)) in rw n refl
    go false h ih =
        let k = parts_some p w in
        let q : (a ∷ k.first) ∷ k.others ≡ x ∷ y ∷ l = sym (rw (h, k.are) refl) ∙ e in
        let o : k.others ≡ y ∷ l = cc in
        rw (ih k.first (k.are ∙ ap (λ z. k.first ∷ z) o)) (and-false (digit a))

-- a word with a comma is no number
pub numeral_two : (most lo hi : ℕ) (w x y : Word) (l : List Word) → parts comma w ≡ x ∷ y ∷ l → numeral most lo hi w ≡ false
unfolding numeral digits
numeral_two most lo hi w x y l e = rw (parts_two comma digit_no_comma w x y l e) refl

pub numeral_first : (most lo hi : ℕ) (w x : Word) (l : List Word) → parts comma w ≡ x ∷ l → numeral most lo hi x ≡ false
    → numeral most lo hi w ≡ false
numeral_first most lo hi w x [] e h = rw (parts_one comma w x e) h
numeral_first most lo hi w x (y ∷ l) e h = numeral_two most lo hi w x y l e

pub numeral_below : (most lo hi : ℕ) (w : Word) → numeral most lo hi w ≡ true → value w < 10 ^ most
unfolding numeral
numeral_below most lo hi w h =
    let d = digits_split 1 most w (and_left (digits 1 most w) _ h) in
    let p : 10 ^ length w ≤ 10 ^ most = powers (length w) most d.1.1 in
    omega (arith, value_below w d.0)

-- a single digit is at most 9
pub numeral_single : (w : Word) → numeral 1 0 9 w ≡ digits 1 1 w
unfolding numeral
numeral_single w = go (digits 1 1 w) refl
  where
    go : (t : Bool) → digits 1 1 w ≡ t → (t && between 0 9 (value w)) ≡ t
    go false e = refl
    go true e =
        let d = digits_split 1 1 w e in
        let l : length w ≡ 1 = omega (arith, d.1.0, d.1.1) in
        let p : 10 ^ length w ≡ 10 = rw l refl in
        rw (le-leb 0 (value w) (omega arith), le-leb (value w) 9 (omega (arith, value_below w d.0))) refl
