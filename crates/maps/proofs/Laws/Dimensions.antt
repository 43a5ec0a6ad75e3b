-- THE DIMENSIONS THAT A MAP LISTS: one digit or more with commas. Counted by byte, they are the numbers of the list.
use Rattle.std.specs.Prelude.{◌≡◌, refl, List, [], ◌∷◌, Bool, true, false, cond, ◌&&◌, ℕ, ◌+◌, ◌-◌, ◌≤◌, ◌<◌, eqb, length}
use Rattle.std.proofs.Common.{sym, ap, ◌∙◌, true≢false, arith, eqb-true, eq-eqb, ne_eqb}
use Rattle.std.proofs.lemmas.Bool.{false≢true}
use Rattle.lists.specs.Lists.{all, count, each}
use Rattle.grammar.proofs.Laws.Facts.{and_left, and_right, within}
use Rattle.grammar.specs.Look.{Word}
use Rattle.numbers.specs.Numbers.{digit, digits, number, value, on_first, parts, comma, dimension_list, comma_values}
use Rattle.numbers.proofs.Laws.Cuts.{digit_in, digit_no_comma}

-- a list in form: a digit; a digit, a comma and a list
pub data Listing : Word → Type 0 where
  last_digit : {a : ℕ} → digit a ≡ true → Listing (a ∷ [])
  and_then : {a : ℕ} {w : Word} → digit a ≡ true → Listing w → Listing (a ∷ 44 ∷ w)

one_digit : (a : ℕ) (w : Word) → digits 1 1 (a ∷ w) ≡ true → (digit a ≡ true) × (w ≡ [])
unfolding digits all
one_digit a [] h = (and_left _ _ (and_left _ _ h), refl)
one_digit a (b ∷ w) h =
    let k = within 1 1 (length (a ∷ b ∷ w)) (and_right (digit a && (digit b && all digit w)) _ h) in
    absurd (omega arith)

no_digit : digits 1 1 [] ≡ true → ⊥
unfolding digits all
no_digit h = false≢true h

parts_some : (w : Word) → (x : Word) × (l : List Word) × (parts comma w ≡ x ∷ l)
unfolding parts on_first
parts_some [] = ([], [], refl)
parts_some (a ∷ w) = let (x, l, e) = parts_some w in go (comma a) x l e
  where
    go : (b : Bool) (x : Word) (l : List Word) → parts comma w ≡ x ∷ l → (y : Word) × (m : List Word)
        × (cond b ([] ∷ parts comma w) (on_first a (parts comma w)) ≡ y ∷ m)
    go true x l e = ([], parts comma w, refl)
    go false x l e = (a ∷ x, l, rw e refl)

-- what begins with a comma, and what does not
parts_comma : (w : Word) → parts comma (44 ∷ w) ≡ [] ∷ parts comma w
unfolding parts comma
parts_comma w = refl

parts_other : (a : ℕ) (w : Word) → comma a ≡ false → parts comma (a ∷ w) ≡ on_first a (parts comma w)
unfolding parts
parts_other a w h = rw h

comma_is : (a : ℕ) → comma a ≡ true → a ≡ 44
unfolding comma
comma_is a h = eqb-true a 44 h

-- the first part of what follows a digit is nothing
after : (a : ℕ) (w : Word) → all (digits 1 1) (parts comma (a ∷ w)) ≡ true → (digit a ≡ true) × (l : List Word)
    × (parts comma w ≡ [] ∷ l) × (all (digits 1 1) l ≡ true)
unfolding all on_first
after a w h = go (comma a) refl
  where
    go : (b : Bool) → comma a ≡ b → (digit a ≡ true) × (l : List Word) × (parts comma w ≡ [] ∷ l) × (all (digits 1 1) l ≡ true)
    go true e =
        let q = comma_is a e in
        let k : all (digits 1 1) ([] ∷ parts comma w) ≡ true = rw (q, parts_comma w) at h in
        absurd (no_digit (and_left _ _ k))
    go false e =
        let (x, l, p) = parts_some w in
        let k : all (digits 1 1) ((a ∷ x) ∷ l) ≡ true = rw (parts_other a w e, p) at h in
        let (d, z) = one_digit a x (and_left _ _ k) in
        (d, l, p ∙ ap (λ y. y ∷ l) z, and_right (digits 1 1 (a ∷ x)) _ k)

first_filled : (b : ℕ) (w : Word) → comma b ≡ false → (l : List Word) → parts comma (b ∷ w) ≡ [] ∷ l → ⊥
unfolding on_first
first_filled b w e l h =
    let (x, m, p) = parts_some w in
    let k : (b ∷ x) ∷ m ≡ [] ∷ l = rw (parts_other b w e, p) at h in
    let z : ◌≡◌ {A = ℕ} 0 1 = cc in omega arith

parts_none : parts comma [] ≡ [] ∷ []
unfolding parts
parts_none = refl

listing_of : (w : Word) → all (digits 1 1) (parts comma w) ≡ true → Listing w
unfolding all
listing_of [] h = absurd (no_digit (and_left _ _ (rw parts_none at h)))
listing_of (a ∷ []) h = last_digit (after a [] h).0
listing_of (a ∷ b ∷ w) h = go (comma b) refl (after a (b ∷ w) h) (listing_of w)
  where
    go : (t : Bool) → comma b ≡ t → (digit a ≡ true) × (l : List Word) × (parts comma (b ∷ w) ≡ [] ∷ l) × (all (digits 1 1) l ≡ true)
        → (all (digits 1 1) (parts comma w) ≡ true → Listing w) → Listing (a ∷ b ∷ w)
    go false e (d, l, p, k) ih = absurd (first_filled b w e l p)
    go true e (d, l, p, k) ih =
        let q = comma_is b e in
        let p₁ : [] ∷ parts comma w ≡ [] ∷ l = sym (parts_comma w) ∙ rw q at p in
        let m : parts comma w ≡ l = cc in
        rw q (and_then d (ih (rw m k)))

pub in_form_lem : (w : Word) → dimension_list w ≡ true → Listing w
unfolding dimension_list
in_form_lem w h = listing_of w h

-- ---- The numbers of a list in form.

-- what a digit says
unfoldable pub digit_says : Word → List ℕ
digit_says [] = []
digit_says (a ∷ w) = cond (comma a) (digit_says w) ((a - 48) ∷ digit_says w)

digit_value : (a : ℕ) → digit a ≡ true → value (a ∷ []) ≡ a - 48
unfolding value number
digit_value a h = omega arith

said_of : {w : Word} → Listing w → each value (parts comma w) ≡ digit_says w
unfolding each on_first digit_says comma
said_of (last_digit {a} d) = rw (parts_other a [] (digit_no_comma a d), parts_none, digit_value a d, digit_no_comma a d)
said_of (and_then {a} {w} d r) =
    rw (parts_other a (44 ∷ w) (digit_no_comma a d), parts_comma w, digit_value a d, digit_no_comma a d)
    (ap (λ l. (a - 48) ∷ l) (said_of r ∙ sym (said_comma w)))
  where
    said_comma : (w : Word) → digit_says (44 ∷ w) ≡ digit_says w
    said_comma w = refl

pub comma_values_lem : (w : Word) → dimension_list w ≡ true → comma_values w ≡ digit_says w
unfolding comma_values
comma_values_lem w h = said_of (in_form_lem w h)

-- ---- Counted by byte: the digit d stands as often as the number d is said.

digit_same : (a d : ℕ) → digit a ≡ true → eqb d (a - 48) ≡ eqb (d + 48) a
digit_same a d h = let k = digit_in a h in go (eqb (d + 48) a) refl
  where
    go : (b : Bool) → eqb (d + 48) a ≡ b → eqb d (a - 48) ≡ eqb (d + 48) a
    go true e = let q = eqb-true (d + 48) a e in eq-eqb d (a - 48) (omega arith) ∙ sym e
    go false e = ne_eqb d (a - 48) (λ q.
        (let k = digit_in a h in let z : d + 48 ≡ a = omega arith in true≢false (sym (eq-eqb (d + 48) a z) ∙ e))) ∙ sym e

said_last : (a : ℕ) → digit a ≡ true → digit_says (a ∷ []) ≡ (a - 48) ∷ []
unfolding digit_says
said_last a h = rw (digit_no_comma a h)

said_then : (a : ℕ) (w : Word) → digit a ≡ true → digit_says (a ∷ 44 ∷ w) ≡ (a - 48) ∷ digit_says w
unfolding digit_says comma
said_then a w h = rw (digit_no_comma a h)

count_said : {w : Word} → Listing w → (d : ℕ) → count (eqb d) (digit_says w) ≡ count (eqb (d + 48)) w
unfolding count
count_said (last_digit {a} h) d = rw (said_last a h, digit_same a d h)
count_said (and_then {a} {w} h r) d =
    let c : eqb (d + 48) 44 ≡ false = ne_eqb (d + 48) 44 (λ e. omega arith) in
    rw (said_then a w h, digit_same a d h, c, count_said r d) (omega arith)

pub counted : (w : Word) → dimension_list w ≡ true → (d : ℕ) → count (eqb d) (comma_values w) ≡ count (eqb (d + 48)) w
counted w h d = ap (count (eqb d)) (comma_values_lem w h) ∙ count_said (in_form_lem w h) d

-- every number said is a digit, and one is said
pub data Small : List ℕ → Type 0 where
  no_small : Small []
  one_small : {d : ℕ} {l : List ℕ} → d < 10 → Small l → Small (d ∷ l)

said_small : {w : Word} → Listing w → Small (digit_says w)
said_small (last_digit {a} h) = let k = digit_in a h in rw (said_last a h) (let s : a - 48 < 10 = omega arith in one_small s no_small)
said_small (and_then {a} {w} h r) = let k = digit_in a h in
    rw (said_then a w h) (let s : a - 48 < 10 = omega arith in one_small s (said_small r))

said_some : {w : Word} → Listing w → 1 ≤ length (digit_says w)
said_some (last_digit {a} h) = rw (said_last a h) (omega arith)
said_some (and_then {a} {w} h r) = rw (said_then a w h) (omega arith)

pub values_small : (w : Word) → dimension_list w ≡ true → Small (comma_values w)
values_small w h = rw (comma_values_lem w h) (said_small (in_form_lem w h))

pub values_some : (w : Word) → dimension_list w ≡ true → 1 ≤ length (comma_values w)
values_some w h = rw (comma_values_lem w h) (said_some (in_form_lem w h))
