-- The bytes that are found in a text are those that it is written for, and no others.
use Rattle.std.specs.Prelude.{◌≡◌, ◌↔◌, Bool, ◌&&◌, Option, Some, None}
use Rattle.std.proofs.Math.Path.{refl, sym, ap}
use Rattle.std.proofs.Common.{◌∙◌}
use mathlib.Core.List.{List, [], ◌∷◌}
use Rattle.std.proofs.Math.Bool.{true, false, cond}
use Prim.Native.Nat.{ℕ, ◌+◌, ◌*◌, ◌/◌, ◌%◌, ◌<◌}
use native.Mathlib.Omega.{arith}
use Rattle.std.proofs.Math.Dec.{eqb}
use borrow.Author.Tests.{eqb-true, eq-eqb}
use Rattle.lists.specs.Lists.{those}
use Rattle.lists.proofs.Laws.Booleans.{and_halves, never_some}
use Rattle.grammar.specs.Bytes.{blank}
use Rattle.grammar.specs.Look.{Word}
use Rattle.base64_text.specs.Base64.{letter_of, bits_of_three, first_letter, second_letter, third_letter, fourth_letter, encode, unblanked}
use Rattle.base64_text.specs.Base64.{worth, is_value, sixes, three_bytes, three_more, one_byte, two_bytes, four_ending, four_values, decode}
use Rattle.base64_text.specs.Base64.{bytes_in}
use Rattle.base64_text.proofs.Laws.Letters.{worth_letter, letter_worth, pads, pad, no_pad, is_value_lem, value_below, letter_kept}

pub data Bytes : List ℕ → Type 0 where
  none : Bytes []
  more : {a : ℕ} {l : List ℕ} → a < 256 → Bytes l → Bytes (a ∷ l)

-- ---- What was written is found: so no two lists of bytes are written alike.

module _ (n : ℕ) (h : n < 16777216) where
  first_worth : worth (first_letter n) ≡ n / 262144
  unfolding first_letter
  first_worth = worth_letter (n / 262144) (omega arith)

  second_worth : worth (second_letter n) ≡ n / 4096 % 64
  unfolding second_letter
  second_worth = worth_letter (n / 4096 % 64) (omega arith)

  third_worth : worth (third_letter n) ≡ n / 64 % 64
  unfolding third_letter
  third_worth = worth_letter (n / 64 % 64) (omega arith)

  fourth_worth : worth (fourth_letter n) ≡ n % 64
  unfolding fourth_letter
  fourth_worth = worth_letter (n % 64) (omega arith)

  whole_again : sixes (n / 262144) (n / 4096 % 64) (n / 64 % 64) (n % 64) ≡ n
  unfolding sixes
  whole_again = omega arith

  one_again : n % 65536 ≡ 0 → sixes (n / 262144) (n / 4096 % 64) 0 0 ≡ n
  unfolding sixes
  one_again e = omega arith

  two_again : n % 256 ≡ 0 → sixes (n / 262144) (n / 4096 % 64) (n / 64 % 64) 0 ≡ n
  unfolding sixes
  two_again e = omega arith

  values : four_values (n / 262144) (n / 4096 % 64) (n / 64 % 64) (n % 64) ≡ true
  unfolding four_values
  values = rw (
    is_value_lem (n / 262144) (omega arith),
    is_value_lem (n / 4096 % 64) (omega arith),
    is_value_lem (n / 64 % 64) (omega arith),
    is_value_lem (n % 64) (omega arith),
  ) refl

  four_read_lem : (w : Word) → decode (first_letter n ∷ second_letter n ∷ third_letter n ∷ fourth_letter n ∷ w) ≡ three_more n (decode w)
  unfolding decode
  four_read_lem w = rw (first_worth, second_worth, third_worth, fourth_worth, no_pad (n % 64) (omega arith), values, whole_again)

  one_read : n % 65536 ≡ 0 → decode (first_letter n ∷ second_letter n ∷ 61 ∷ 61 ∷ []) ≡ Some ((n / 65536) ∷ [])
  unfolding decode four_ending one_byte
  one_read e =
      rw (
        first_worth,
        second_worth,
        pad,
        is_value_lem (n / 262144) (omega arith),
        is_value_lem (n / 4096 % 64) (omega arith),
        one_again e,
        eq-eqb (n % 65536) 0 e,
      )

  two_read : n % 256 ≡ 0 → decode (first_letter n ∷ second_letter n ∷ third_letter n ∷ 61 ∷ []) ≡ Some ((n / 65536) ∷ (n / 256 % 256) ∷ [])
  unfolding decode four_ending two_bytes
  two_read e =
      rw (
        first_worth,
        second_worth,
        third_worth,
        pad,
        no_pad (n / 64 % 64) (omega arith),
        is_value_lem (n / 262144) (omega arith),
        is_value_lem (n / 4096 % 64) (omega arith),
        is_value_lem (n / 64 % 64) (omega arith),
        two_again e,
        eq-eqb (n % 256) 0 e,
      )

empty : decode [] ≡ Some []
unfolding decode
empty = refl

module _ (a b c : ℕ) (g : a < 256) (h : b < 256) (k : c < 256) where
  in_24 : bits_of_three a b c < 16777216
  unfolding bits_of_three
  in_24 = omega arith

  a_back : bits_of_three a b c / 65536 ≡ a
  unfolding bits_of_three
  a_back = omega arith

  b_back : bits_of_three a b c / 256 % 256 ≡ b
  unfolding bits_of_three
  b_back = omega arith

  c_back : bits_of_three a b c % 256 ≡ c
  unfolding bits_of_three
  c_back = omega arith

  three_back : (l : List ℕ) → three_bytes (bits_of_three a b c) l ≡ a ∷ b ∷ c ∷ l
  unfolding three_bytes
  three_back l = rw (a_back, b_back, c_back)

spare_16 : (a : ℕ) → bits_of_three a 0 0 % 65536 ≡ 0
unfolding bits_of_three
spare_16 a = omega arith

spare_8 : (a b : ℕ) → bits_of_three a b 0 % 256 ≡ 0
unfolding bits_of_three
spare_8 a b = omega arith

null : 0 < 256
null = omega arith

pub written_read : (l : List ℕ) → Bytes l → decode (encode l) ≡ Some l
unfolding encode three_more
written_read [] none = empty
written_read (a ∷ []) (more g none) =
    one_read (bits_of_three a 0 0) (in_24 a 0 0 g null null) (spare_16 a) ∙ ap (λ x. Some (x ∷ [])) (a_back a 0 0 g null null)
written_read (a ∷ b ∷ []) (more g (more h none)) =
    two_read (bits_of_three a b 0) (in_24 a b 0 g h null) (spare_8 a b) ∙ rw (a_back a b 0 g h null, b_back a b 0 g h null)
written_read (a ∷ b ∷ c ∷ l) (more g (more h (more k t))) =
    four_read_lem (bits_of_three a b c) (in_24 a b c g h k) (encode l) ∙ ap (three_more (bits_of_three a b c)) (written_read l t)
    ∙ ap Some (three_back a b c g h k l)

-- ---- What is found was written so.

module _ (p q r s : ℕ) (e : p < 64) (f : q < 64) (g : r < 64) (h : s < 64) where
  in_24_of : sixes p q r s < 16777216
  unfolding sixes
  in_24_of = omega arith

  first_of : first_letter (sixes p q r s) ≡ letter_of p
  unfolding first_letter sixes
  first_of = let z : (p * 262144 + q * 4096 + r * 64 + s) / 262144 ≡ p = omega arith in ap letter_of z

  second_of : second_letter (sixes p q r s) ≡ letter_of q
  unfolding second_letter sixes
  second_of = let z : (p * 262144 + q * 4096 + r * 64 + s) / 4096 % 64 ≡ q = omega arith in ap letter_of z

  third_of : third_letter (sixes p q r s) ≡ letter_of r
  unfolding third_letter sixes
  third_of = let z : (p * 262144 + q * 4096 + r * 64 + s) / 64 % 64 ≡ r = omega arith in ap letter_of z

  fourth_of : fourth_letter (sixes p q r s) ≡ letter_of s
  unfolding fourth_letter sixes
  fourth_of = let z : (p * 262144 + q * 4096 + r * 64 + s) % 64 ≡ s = omega arith in ap letter_of z

bits_of : (n : ℕ) → bits_of_three (n / 65536) (n / 256 % 256) (n % 256) ≡ n
unfolding bits_of_three
bits_of n = omega arith

bits_one : (n : ℕ) → n % 65536 ≡ 0 → bits_of_three (n / 65536) 0 0 ≡ n
unfolding bits_of_three
bits_one n e = omega arith

bits_two : (n : ℕ) → n % 256 ≡ 0 → bits_of_three (n / 65536) (n / 256 % 256) 0 ≡ n
unfolding bits_of_three
bits_two n e = omega arith

-- the word is what the bytes are written as
pub record Written (w l : List ℕ) : Type 0 where
  pub spelled : w ≡ encode l
  pub bytes : Bytes l

high : (n : ℕ) → n < 16777216 → n / 65536 < 256
high n h = omega arith

middle : (n : ℕ) → n / 256 % 256 < 256
middle n = omega arith

low : (n : ℕ) → n % 256 < 256
low n = omega arith

zero_value : 0 < 64
zero_value = omega arith

module _ (a b : ℕ) (va : is_value (worth a) ≡ true) (vb : is_value (worth b) ≡ true) where
  pa : worth a < 64
  pa = value_below (worth a) va

  pb : worth b < 64
  pb = value_below (worth b) vb

  one_written : (n : ℕ) → n ≡ sixes (worth a) (worth b) 0 0 → n % 65536 ≡ 0 → Written (a ∷ b ∷ 61 ∷ 61 ∷ []) ((n / 65536) ∷ [])
  unfolding encode
  one_written n x e =
      let z = zero_value in
      let small : n < 16777216 = rw x (in_24_of (worth a) (worth b) 0 0 pa pb z z) in
      record {
        spelled = sym (rw (
          bits_one n e,
          x,
          first_of (worth a) (worth b) 0 0 pa pb z z,
          second_of (worth a) (worth b) 0 0 pa pb z z,
          letter_worth a va,
          letter_worth b vb,
        ));
        bytes = more (high n small) none;
      }

  module _ (c : ℕ) (vc : is_value (worth c) ≡ true) where
    pc : worth c < 64
    pc = value_below (worth c) vc

    two_written : (n : ℕ) → n ≡ sixes (worth a) (worth b) (worth c) 0 → n % 256 ≡ 0
        → Written (a ∷ b ∷ c ∷ 61 ∷ []) ((n / 65536) ∷ (n / 256 % 256) ∷ [])
    unfolding encode
    two_written n x e =
        let z = zero_value in
        let small : n < 16777216 = rw x (in_24_of (worth a) (worth b) (worth c) 0 pa pb pc z) in
        record {
          spelled = sym (rw (
            bits_two n e,
            x,
            first_of (worth a) (worth b) (worth c) 0 pa pb pc z,
            second_of (worth a) (worth b) (worth c) 0 pa pb pc z,
            third_of (worth a) (worth b) (worth c) 0 pa pb pc z,
            letter_worth a va,
            letter_worth b vb,
            letter_worth c vc,
          ));
          bytes = more (high n small) (more (middle n) none);
        }

    module _ (d : ℕ) (vd : is_value (worth d) ≡ true) where
      pd : worth d < 64
      pd = value_below (worth d) vd

      four_written : (n : ℕ) (w l : List ℕ) → n ≡ sixes (worth a) (worth b) (worth c) (worth d) → Written w l
          → Written (a ∷ b ∷ c ∷ d ∷ w) (three_bytes n l)
      unfolding encode three_bytes
      four_written n w l x t =
          let small : n < 16777216 = rw x (in_24_of (worth a) (worth b) (worth c) (worth d) pa pb pc pd) in
          record {
            spelled = sym (rw (
              bits_of n,
              x,
              first_of (worth a) (worth b) (worth c) (worth d) pa pb pc pd,
              second_of (worth a) (worth b) (worth c) (worth d) pa pb pc pd,
              third_of (worth a) (worth b) (worth c) (worth d) pa pb pc pd,
              fourth_of (worth a) (worth b) (worth c) (worth d) pa pb pc pd,
              letter_worth a va,
              letter_worth b vb,
              letter_worth c vc,
              letter_worth d vd,
              sym t.spelled,
            ));
            bytes = more (high n small) (more (middle n) (more (low n) t.bytes));
          }

-- ---- By cases on what the search asks.

some_is : {A : Type 0} {l m : A} → Some l ≡ Some m → l ≡ m
some_is e = cc

module _ (a b c d : ℕ) where
  one_end : (l : List ℕ) → is_value (worth a) ≡ true → is_value (worth b) ≡ true → c ≡ 61 → d ≡ 61
      → one_byte (sixes (worth a) (worth b) 0 0) ≡ Some l → Written (a ∷ b ∷ c ∷ d ∷ []) l
  unfolding one_byte
  one_end l va vb ec ed e = go (eqb (n % 65536) 0) refl e
    where
      n : ℕ
      n = sixes (worth a) (worth b) 0 0

      go : (t : Bool) → eqb (n % 65536) 0 ≡ t → cond t (Some ((n / 65536) ∷ [])) None ≡ Some l → Written (a ∷ b ∷ c ∷ d ∷ []) l
      go true k q = rw (ec, ed, sym (some_is q)) (one_written a b va vb n refl (eqb-true _ 0 k))
      go false k q = never_some q

  two_end : (l : List ℕ) → is_value (worth a) ≡ true → is_value (worth b) ≡ true → is_value (worth c) ≡ true → d ≡ 61
      → two_bytes (sixes (worth a) (worth b) (worth c) 0) ≡ Some l → Written (a ∷ b ∷ c ∷ d ∷ []) l
  unfolding two_bytes
  two_end l va vb vc ed e = go (eqb (n % 256) 0) refl e
    where
      n : ℕ
      n = sixes (worth a) (worth b) (worth c) 0

      go : (t : Bool) → eqb (n % 256) 0 ≡ t → cond t (Some ((n / 65536) ∷ (n / 256 % 256) ∷ [])) None ≡ Some l
          → Written (a ∷ b ∷ c ∷ d ∷ []) l
      go true k q = rw (ed, sym (some_is q)) (two_written a b va vb c vc n refl (eqb-true _ 0 k))
      go false k q = never_some q

  end_written : (w l : List ℕ) → d ≡ 61 → four_ending (worth a) (worth b) (worth c) w ≡ Some l → Written (a ∷ b ∷ c ∷ d ∷ w) l
  unfolding four_ending
  end_written [] l ed e = go (is_value (worth a) && is_value (worth b)) refl (eqb (worth c) 65) refl (is_value (worth c)) refl e
    where
      go : (t : Bool) → (is_value (worth a) && is_value (worth b)) ≡ t → (u : Bool) → eqb (worth c) 65 ≡ u → (v : Bool)
          → is_value (worth c) ≡ v
          → cond t
          (cond u (one_byte (sixes (worth a) (worth b) 0 0)) (cond v (two_bytes (sixes (worth a) (worth b) (worth c) 0)) None))
          None ≡ Some l → Written (a ∷ b ∷ c ∷ d ∷ []) l
      go true x true y v z q = let (va, vb) = and_halves (is_value (worth a)) (is_value (worth b)) x in one_end l va vb (pads c y) ed q
      go true x false y true z q = let (va, vb) = and_halves (is_value (worth a)) (is_value (worth b)) x in two_end l va vb z ed q
      go true x false y false z q = never_some q
      go false x u y v z q = never_some q
  end_written (x ∷ w) l ed e = never_some e

  more_written : (w l : List ℕ) (m : Option (List ℕ)) → ((k : List ℕ) → m ≡ Some k → Written w k)
      → is_value (worth a) ≡ true → is_value (worth b) ≡ true → is_value (worth c) ≡ true → is_value (worth d) ≡ true
      → three_more (sixes (worth a) (worth b) (worth c) (worth d)) m ≡ Some l → Written (a ∷ b ∷ c ∷ d ∷ w) l
  unfolding three_more
  more_written w l None ih va vb vc vd e = never_some e
  more_written w l (Some k) ih va vb vc vd e =
      rw (sym (some_is e))
      (four_written a b va vb c vc d vd (sixes (worth a) (worth b) (worth c) (worth d)) w k refl (ih k refl))

  step_written : (w l : List ℕ) → ((k : List ℕ) → decode w ≡ Some k → Written w k) → decode (a ∷ b ∷ c ∷ d ∷ w) ≡ Some l
      → Written (a ∷ b ∷ c ∷ d ∷ w) l
  unfolding decode four_values
  step_written w l ih e = go (eqb (worth d) 65) refl (four_values (worth a) (worth b) (worth c) (worth d)) refl e
    where
      go : (t : Bool) → eqb (worth d) 65 ≡ t → (u : Bool) → four_values (worth a) (worth b) (worth c) (worth d) ≡ u
          → cond t (four_ending (worth a) (worth b) (worth c) w)
          (cond u (three_more (sixes (worth a) (worth b) (worth c) (worth d)) (decode w)) None) ≡ Some l
          → Written (a ∷ b ∷ c ∷ d ∷ w) l
      go true x u y q = end_written w l (pads d x) q
      go false x true y q =
          let (va, y₁) = and_halves (is_value (worth a)) (is_value (worth b) && (is_value (worth c) && is_value (worth d))) y in
          let (vb, y₂) = and_halves (is_value (worth b)) (is_value (worth c) && is_value (worth d)) y₁ in
          let (vc, vd) = and_halves (is_value (worth c)) (is_value (worth d)) y₂ in
          more_written w l (decode w) ih va vb vc vd q
      go false x false y q = never_some q

pub read_written : (w l : List ℕ) → decode w ≡ Some l → Written w l
unfolding decode encode
read_written [] l e = rw (sym (some_is e)) (record { spelled = refl; bytes = none })
read_written (a ∷ []) l e = never_some e
read_written (a ∷ b ∷ []) l e = never_some e
read_written (a ∷ b ∷ c ∷ []) l e = never_some e
read_written (a ∷ b ∷ c ∷ d ∷ w) l e = step_written a b c d w l (λ k q. read_written w k q) e

-- THE THEOREM: a text holds the bytes that it is written for, its blanks left out, and no others.
pub bytes_iff : (w l : List ℕ) → (bytes_in w ≡ Some l) ↔ Written (unblanked w) l
unfolding bytes_in
bytes_iff w l = (read_written (unblanked w) l, λ t. ap decode t.spelled ∙ written_read l t.bytes)

-- So no two lists of bytes are written alike.
pub unambiguous : (l m : List ℕ) → Bytes l → Bytes m → encode l ≡ encode m → l ≡ m
unambiguous l m h k e = some_is (sym (written_read l h) ∙ ap decode e ∙ written_read m k)

-- What is written has no blanks.
pub encode_unblanked : (l : List ℕ) → Bytes l → unblanked (encode l) ≡ encode l
unfolding encode unblanked those blank first_letter second_letter third_letter fourth_letter
encode_unblanked [] none = refl
encode_unblanked (a ∷ []) (more g none) =
    let n = in_24 a 0 0 g null null in
    rw (letter_kept (bits_of_three a 0 0 / 262144) (omega arith), letter_kept (bits_of_three a 0 0 / 4096 % 64) (omega arith)) refl
encode_unblanked (a ∷ b ∷ []) (more g (more h none)) =
    let n = in_24 a b 0 g h null in
    rw (
      letter_kept (bits_of_three a b 0 / 262144) (omega arith),
      letter_kept (bits_of_three a b 0 / 4096 % 64) (omega arith),
      letter_kept (bits_of_three a b 0 / 64 % 64) (omega arith),
    ) refl
encode_unblanked (a ∷ b ∷ c ∷ l) (more g (more h (more k t))) =
    let n = in_24 a b c g h k in
    rw (
      letter_kept (bits_of_three a b c / 262144) (omega arith),
      letter_kept (bits_of_three a b c / 4096 % 64) (omega arith),
      letter_kept (bits_of_three a b c / 64 % 64) (omega arith),
      letter_kept (bits_of_three a b c % 64) (omega arith),
      encode_unblanked l t,
    ) refl

pub written_found : (l : List ℕ) → Bytes l → bytes_in (encode l) ≡ Some l
written_found l h = (bytes_iff (encode l) l).1 (record { spelled = encode_unblanked l h; bytes = h })
