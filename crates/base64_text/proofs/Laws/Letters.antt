-- Letters and their values, each way, computed over all of them.
use Rattle.std.specs.Prelude.{◌≡◌, refl, Bool, true, false, ◌&&◌, ◌||◌, not, ℕ, suc, ◌<◌, ◌≤◌, eqb, leb}
use Rattle.std.proofs.lemmas.Bool.{false≢true}
use Rattle.std.proofs.Common.{arith, eqb-true, ne_eqb, lt-ltb, leb-true}
use Rattle.lists.specs.Lists.{all_below}
use Rattle.lists.proofs.Laws.Quantifiers.{all_below_iff}
use Rattle.lists.proofs.Laws.Booleans.{both_ways}
use Rattle.grammar.specs.Bytes.{between, blank}
use Rattle.base64_text.specs.Base64.{alphabet, letter_of, worth, is_value}

passed : (p : ℕ → Bool) (n : ℕ) → all_below n p ≡ true → (a : ℕ) → a < n → p a ≡ true
passed p n e = (all_below_iff n p).0 e

unless : (t : Bool) {u : Bool} → t ≡ true → (not t || u) ≡ true → u ≡ true
unless true k q = q
unless false k q = absurd (false≢true k)

-- beyond the bytes there are no letters
over : (lo hi a : ℕ) → hi < a → between lo hi a ≡ false
over lo hi a h = go (leb lo a) (leb a hi) refl
  where
    go : (t u : Bool) → leb a hi ≡ u → (t && u) ≡ false
    go t true k = let z = leb-true a hi k in absurd (omega arith)
    go true false k = refl
    go false false k = refl

worth_over : (a : ℕ) → 256 ≤ a → worth a ≡ 64
unfolding worth
worth_over a h =
    let u : 90 < a = omega arith in
    let v : 122 < a = omega arith in
    let w : 57 < a = omega arith in
    rw (
      over 65 90 a u,
      over 97 122 a v,
      over 48 57 a w,
      ne_eqb a 43 (λ e. omega arith),
      ne_eqb a 47 (λ e. omega arith),
      ne_eqb a 61 (λ e. omega arith),
    ) refl

byte_by : (a : ℕ) → (256 ≤ a → ⊥) → a < 256
byte_by a h = omega arith

pub value_byte : (a : ℕ) → is_value (worth a) ≡ true → a < 256
unfolding is_value
value_byte a e = byte_by a (λ h. both_ways (rw (worth_over a h) at e) refl)

pad_byte : (a : ℕ) → eqb (worth a) 65 ≡ true → a < 256
pad_byte a e = byte_by a (λ h. both_ways (rw (worth_over a h) at e) refl)

-- each value back from its letter
unfoldable back : ℕ → Bool
back n = eqb (worth (letter_of n)) n

all_back : all_below 64 back ≡ true
unfolding all_below back worth letter_of alphabet
all_back = refl

pub worth_letter : (v : ℕ) → v < 64 → worth (letter_of v) ≡ v
unfolding back
worth_letter v h = eqb-true (worth (letter_of v)) v (passed back 64 all_back v h)

-- each letter back from its value
unfoldable there : ℕ → Bool
there n = not (is_value (worth n)) || eqb (letter_of (worth n)) n

all_there : all_below 256 there ≡ true
unfolding all_below there is_value worth letter_of alphabet
all_there = refl

pub letter_worth : (a : ℕ) → is_value (worth a) ≡ true → letter_of (worth a) ≡ a
unfolding there
letter_worth a e = eqb-true (letter_of (worth a)) a (unless (is_value (worth a)) e (passed there 256 all_there a (value_byte a e)))

-- `=` alone is worth 65
unfoldable pad_only : ℕ → Bool
pad_only a = not (eqb (worth a) 65) || eqb a 61

all_pads : all_below 256 pad_only ≡ true
unfolding all_below pad_only worth
all_pads = refl

pub pads : (a : ℕ) → eqb (worth a) 65 ≡ true → a ≡ 61
unfolding pad_only
pads a e = eqb-true a 61 (unless (eqb (worth a) 65) e (passed pad_only 256 all_pads a (pad_byte a e)))

pub pad : worth 61 ≡ 65
unfolding worth
pad = refl

pub no_pad : (v : ℕ) → v < 64 → eqb v 65 ≡ false
no_pad v h = ne_eqb v 65 (λ e. omega arith)

pub is_value_lem : (v : ℕ) → v < 64 → is_value v ≡ true
unfolding is_value
is_value_lem v h = lt-ltb v 64 h

pub value_below : (v : ℕ) → is_value v ≡ true → v < 64
unfolding is_value
value_below v e = leb-true (suc v) 64 e

-- no letter is a blank
unfoldable unspaced : ℕ → Bool
unspaced n = not (blank (letter_of n))

all_unspaced : all_below 64 unspaced ≡ true
unfolding all_below unspaced blank letter_of alphabet
all_unspaced = refl

pub letter_kept : (v : ℕ) → v < 64 → not (blank (letter_of v)) ≡ true
unfolding unspaced
letter_kept v h = passed unspaced 64 all_unspaced v h
