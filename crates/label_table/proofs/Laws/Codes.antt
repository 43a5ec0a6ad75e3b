-- A key stands twice where its number does.
use Rattle.std.specs.Prelude.{◌≡◌, refl, List, Bool, true, false, ℕ, suc, ◌+◌, ◌-◌, ◌^◌, ◌≤◌, ◌<◌, eqb, T, ℤ, pos, negsuc, nat_abs, ◌+ℤ◌}
use Rattle.std.proofs.Common.{sym, ◌∙◌, arith, Fits, SFits, to_z, of_z, rules, ne_eqb, le-ltb}
use Rattle.std.proofs.Math.Path.{ap}
use Rattle.std.specs.Int.Signed.{non_neg}
use Rattle.std.specs.Int.{w32, w64}
use Rattle.std.proofs.lemmas.Int.{to_z-of_z}
use Rattle.lists.specs.Lists.{two_of}
use Rattle.lists.proofs.Laws.Lists.{two_same, two_each}
use Rattle.lists.proofs.Laws.Booleans.{and_right}
use Rattle.lists.proofs.Laws.Numbers.{eqb_same}
use Rattle.grammar.specs.Bytes.{ascii}
use Rattle.grammar.specs.Look.{Word}
use Rattle.nodes.specs.Found.{value_at_name}
use Rattle.numbers.specs.Numbers.{digits, with_sign, unsigned, in_keys, key, key_value, same_key}
use Rattle.numbers.specs.Answers.{key_in}
use Rattle.numbers.proofs.Laws.Keys.{above_in, below_in_lem}
use Rattle.label_table.specs.Labels.{labels, key_or_zero, key_here, table_keys_at, twice_at}
use Rattle.label_table.specs.Codes.{code_of, code_here, codes_at}

-- what is read is in the range of keys
right_in : (w : Word) → key w ≡ true → in_keys (key_value w) ≡ true
unfolding key
right_in w h = and_right (digits 1 10 (unsigned false w).rest) (in_keys (key_value w)) h

zero_in : in_keys (pos 0) ≡ true
unfolding in_keys with_sign
zero_in = refl

read_in : (w : Word) → in_keys (key_or_zero (key_in w)) ≡ true
unfolding key_in key_or_zero
read_in w = go (key w) refl
  where
    go : (b : Bool) → key w ≡ b → in_keys (key_or_zero (key_in w)) ≡ true
    go true h = rw h (right_in w h)
    go false h = rw h zero_in

pub here_in : (text : List ℕ) (k : ℕ) → in_keys (key_here text k) ≡ true
unfolding key_here
here_in text k = read_in (value_at_name text k (ascii "Key"))

small : (z : ℤ) → in_keys z ≡ true → code_of z < 2 ^ 32
unfolding code_of
small (pos n) h = let b = above_in n h in omega arith
small (negsuc n) h = omega arith

pub code_small : (text : List ℕ) (k : ℕ) → code_here text k < 2 ^ 32
unfolding code_here
code_small text k = small (key_here text k) (here_in text k)

pub code_same : (a b : ℤ) → in_keys a ≡ true → in_keys b ≡ true → same_key a b ≡ eqb (code_of a) (code_of b)
unfolding same_key code_of
code_same (pos m) (pos n) h k = eqb_same m n (2147483648 + m) (2147483648 + n) (λ e. omega arith) (λ e. omega arith)
code_same (pos m) (negsuc n) h k = sym (ne_eqb (2147483648 + m) (2147483647 - n) (λ e. omega arith))
code_same (negsuc m) (pos n) h k = sym (ne_eqb (2147483647 - m) (2147483648 + n) (λ e. omega arith))
code_same (negsuc m) (negsuc n) h k =
    let a = below_in_lem m h in
    let b = below_in_lem n k in
    eqb_same m n (2147483647 - m) (2147483647 - n) (λ e. omega arith) (λ e. omega arith)

pub twice_codes : (text : List ℕ) (at : ℕ) → twice_at text at ≡ two_of eqb (codes_at text at)
unfolding twice_at table_keys_at codes_at code_here
twice_codes text at =
    two_each (key_here text) same_key (labels text at)
    ∙ two_same (λ a b. code_same (key_here text a) (key_here text b) (here_in text a) (here_in text b)) (labels text at)
    ∙ sym (two_each (λ k. code_of (key_here text k)) eqb (labels text at))

-- BY ITS BITS
fits_below : (n : ℕ) → SFits w32 (negsuc n) → n ≤ 2147483647
fits_below n f = let s = f.sfits in omega arith

record Wide (z : ℤ) : Type 0 where
  wide : to_z w32 (of_z w32 z) ≡ z
  wide_fits : SFits w64 z
  sum : z +ℤ pos 2147483648 ≡ pos (code_of z)
  small_sum : code_of z < 2 ^ 32

wide_above : (n : ℕ) → SFits w32 (pos n) → Wide (pos n)
unfolding code_of
wide_above n f =
    let s = f.sfits in
    record {
      wide = to_z-of_z w32 (pos n) f;
      wide_fits = record { sfits = omega arith };
      sum = ap pos (let e : n + 2147483648 ≡ 2147483648 + n = omega arith in e);
      small_sum = omega arith;
    }

wide_below : (n : ℕ) → SFits w32 (negsuc n) → Wide (negsuc n)
unfolding code_of
wide_below n f =
    let b = fits_below n f in
    record {
      wide = to_z-of_z w32 (negsuc n) f;
      wide_fits = record { sfits = omega arith };
      sum = rw (le-ltb 2147483648 (suc n) (omega arith)) (ap pos (let e : 2147483648 - suc n ≡ 2147483647 - n = omega arith in e));
      small_sum = omega arith;
    }

wide_of : (z : ℤ) → SFits w32 z → Wide z
wide_of (pos n) f = wide_above n f
wide_of (negsuc n) f = wide_below n f

module _ {z : ℤ} (f : SFits w32 z) where
  pub code_wide : SFits w64 (to_z w32 (of_z w32 z))
  code_wide = rw (wide_of z f).wide (wide_of z f).wide_fits

  abbrev summed : ℤ
  summed = to_z w64 (of_z w64 (to_z w32 (of_z w32 z))) +ℤ pos 2147483648

  total_is : summed ≡ pos (code_of z)
  total_is = ap (λ x. x +ℤ pos 2147483648) (ap (λ x. to_z w64 (of_z w64 x)) (wide_of z f).wide ∙ to_z-of_z w64 z (wide_of z f).wide_fits)
      ∙ (wide_of z f).sum

  pub code_summed : SFits w64 summed
  code_summed = let s = (wide_of z f).small_sum in rw total_is (record { sfits = omega arith })

  back : to_z w64 (of_z w64 summed) ≡ pos (code_of z)
  back = to_z-of_z w64 summed code_summed ∙ total_is

  pub code_cast : T (non_neg (to_z w64 (of_z w64 summed))) × Fits w32 (nat_abs (to_z w64 (of_z w64 summed)))
  code_cast = let s = (wide_of z f).small_sum in rw back (tt, record { fits = omega arith })

  pub code_is : nat_abs (to_z w64 (of_z w64 summed)) ≡ code_of z
  code_is = ap nat_abs back

  pub code_here_lem : (text : List ℕ) (at : ℕ) → z ≡ key_here text at → {r : ℕ} → r ≡ code_of (to_z w32 (of_z w32 z))
      → (r ≡ code_here text at) × (r < 2 ^ 32)
  unfolding code_here
  code_here_lem text at q {r} h =
      let e : r ≡ code_of (key_here text at) = h ∙ ap code_of ((wide_of z f).wide ∙ q) in
      (e, let b = code_small text at in rw e b)

pub ruleset coding = (code_wide, code_summed, code_cast, code_is, code_here_lem, rules)
