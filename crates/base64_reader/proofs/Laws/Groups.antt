-- Four letters at a time: one lemma for each way of the code.
use Rattle.std.specs.Prelude.{◌≡◌, List, [], ◌∷◌, ◌++◌, Bool, ◌&&◌, ◌||◌, ℕ, ◌+◌, ◌*◌, ◌/◌, ◌%◌, ◌^◌, ◌<◌, ◌≤◌, leb, Option, Some, None}
use Rattle.std.proofs.Math.Path.{refl, sym, ap}
use Rattle.std.proofs.Common.{◌∙◌, append-nil, rules}
use Rattle.std.proofs.Math.Bool.{true, false, not, cond, and-false}
use native.Mathlib.Omega.{arith}
use Rattle.std.proofs.Math.Dec.{eqb}
use borrow.Author.Tests.{eq-eqb, ne_eqb, le-ltb, leb-true, leb-false}
use Rattle.lists.proofs.Laws.Booleans.{clash, and_halves}
use Rattle.grammar.specs.Look.{Word}
use Rattle.base64_text.specs.Base64.{worth, is_value, sixes, three_bytes, three_more, one_byte, two_bytes, four_ending, four_values, decode}
use Rattle.base64_text.specs.Fours.{bytes_or}
use Rattle.base64_text.proofs.Laws.Letters.{value_below, is_value_lem as a_value}
use Rattle.base64_reader.specs.Groups.{letters_at, Letter, LetterTold, low_bytes, prefixed, bits_of, four_read, four_ahead, bytes_ahead}
use Rattle.base64_reader.specs.Groups.{BytesTaken, GroupRead, GroupTold, FourTold, Lasts, LastTold}
use Rattle.base64_reader.specs.declared.Group.{Group}
use Rattle.base64_reader.specs.declared.Group.TheVariants.{Bytes, End, Bad}

-- ---- The last bytes.

pub last_bytes : {whole : Option (List ℕ)} {at v n j : ℕ} → Lasts whole at v n j → LastTold whole at (Bytes v n j)
last_bytes {whole} {at} {v} {n} {j} h = record {
  on_bytes = λ {v = x} {n = y} {j = z} e. (let p : v ≡ x = cc in let q : n ≡ y = cc in let r : j ≡ z = cc in rw (p, q, r) at h);
  on_end = λ e. clash (cc);
  on_bad = λ e. clash (cc);
}

pub last_bad : {whole : Option (List ℕ)} {at : ℕ} → whole ≡ None → LastTold whole at Bad
last_bad h = record { on_bytes = λ e. clash (cc); on_end = λ e. clash (cc); on_bad = λ e. h }

module _ {n : ℕ} (small : n < 16777216) (at : ℕ) where
  pub one_wrong : (n % 65536 ≡ 0 → ⊥) → LastTold (one_byte n) at Bad
  unfolding one_byte
  one_wrong h = last_bad (rw (ne_eqb (n % 65536) 0 h) refl)

  pub one_right : n % 65536 ≡ 0 → LastTold (one_byte n) at (Bytes (n / 65536) 1 at)
  unfolding one_byte low_bytes
  one_right h =
      let e : n / 65536 / 256 ^ 0 % 256 ≡ n / 65536 = omega arith in
      last_bytes (record {
        some_read = omega arith;
        few = omega arith;
        small = omega arith;
        spelled = rw (eq-eqb (n % 65536) 0 h, e) refl;
        stays = refl;
      })

  pub two_wrong : (n % 256 ≡ 0 → ⊥) → LastTold (two_bytes n) at Bad
  unfolding two_bytes
  two_wrong h = last_bad (rw (ne_eqb (n % 256) 0 h) refl)

  pub two_right : n % 256 ≡ 0 → LastTold (two_bytes n) at (Bytes (n / 256) 2 at)
  unfolding two_bytes low_bytes
  two_right h =
      let e : n / 256 / 256 ^ 1 % 256 ≡ n / 65536 = omega arith in
      let f : n / 256 / 256 ^ 0 % 256 ≡ n / 256 % 256 = omega arith in
      last_bytes (record {
        some_read = omega arith;
        few = omega arith;
        small = omega arith;
        spelled = rw (eq-eqb (n % 256) 0 h, e, f) refl;
        stays = refl;
      })

pub ruleset spare = (one_wrong, one_right, two_wrong, two_right, rules)

no_value : (v : ℕ) → 64 ≤ v → is_value v ≡ false
unfolding is_value
no_value v h = le-ltb v 64 h

module _ (p q r at : ℕ) where
  pub last_first : 64 ≤ p → LastTold (four_ending p q r []) at Bad
  unfolding four_ending
  last_first h = last_bad (rw (no_value p h) refl)

  pub last_second : 64 ≤ q → LastTold (four_ending p q r []) at Bad
  unfolding four_ending
  last_second h = last_bad (rw (no_value q h, and-false (is_value p)) refl)

  module _ (hp : p < 64) (hq : q < 64) where
    pub last_one : r ≡ 65 → {g : Group} → LastTold (one_byte (p * 262144 + q * 4096)) at g → LastTold (four_ending p q r []) at g
    unfolding four_ending sixes
    last_one h t =
        let z : p * 262144 + q * 4096 + 0 * 64 + 0 ≡ p * 262144 + q * 4096 = omega arith in
        rw (a_value p hp, a_value q hq, eq-eqb r 65 h, z) t

    module _ (n : r ≡ 65 → ⊥) where
      pub last_third : 64 ≤ r → LastTold (four_ending p q r []) at Bad
      unfolding four_ending
      last_third h = last_bad (rw (a_value p hp, a_value q hq, ne_eqb r 65 n, no_value r h) refl)

      pub last_two : r < 64 → {g : Group} → LastTold (two_bytes (p * 262144 + q * 4096 + r * 64)) at g → LastTold (four_ending p q r []) at g
      unfolding four_ending sixes
      last_two h t =
          let z : p * 262144 + q * 4096 + r * 64 + 0 ≡ p * 262144 + q * 4096 + r * 64 = omega arith in
          rw (a_value p hp, a_value q hq, ne_eqb r 65 n, a_value r h, z) t

pub ruleset lasting = (last_first, last_second, last_one, last_third, last_two, rules)

-- ---- Four letters.

pub told_bytes : {text : List ℕ} {whole : Option (List ℕ)} {ahead : List ℕ} {most v n j : ℕ} → BytesTaken text whole ahead most v n j
    → GroupRead text whole ahead most (Bytes v n j)
told_bytes {text} {whole} {ahead} {most} {v} {n} {j} h = record {
  on_bytes = λ {v = x} {n = y} {j = z} e. (let p : v ≡ x = cc in let q : n ≡ y = cc in let r : j ≡ z = cc in rw (p, q, r) at h);
  on_end = λ e. clash (cc);
  on_bad = λ e. clash (cc);
}

pub told_end : {text : List ℕ} {whole : Option (List ℕ)} {ahead : List ℕ} {most : ℕ} → whole ≡ Some [] → ahead ≡ []
    → GroupRead text whole ahead most End
told_end h k = record { on_bytes = λ e. clash (cc); on_end = λ e. (h, k); on_bad = λ e. clash (cc) }

pub told_bad : {text : List ℕ} {whole : Option (List ℕ)} {ahead : List ℕ} {most : ℕ} → whole ≡ None → ahead ≡ []
    → GroupRead text whole ahead most Bad
told_bad h k = record { on_bytes = λ e. clash (cc); on_end = λ e. clash (cc); on_bad = λ e. (h, k) }

none_read : decode [] ≡ Some []
unfolding decode
none_read = refl

none_ahead : bytes_ahead [] ≡ []
unfolding bytes_ahead
none_ahead = refl

-- three bytes
module _ (n : ℕ) (h : n < 16777216) where
  pub three_low : (l : List ℕ) → three_bytes n l ≡ low_bytes 3 n ++ l
  unfolding three_bytes low_bytes
  three_low l =
      let x : n / 256 ^ 2 % 256 ≡ n / 65536 = omega arith in
      let y : n / 256 ^ 1 % 256 ≡ n / 256 % 256 = omega arith in
      let z : n / 256 ^ 0 % 256 ≡ n % 256 = omega arith in
      rw (x, y, z) refl

  pub three_prefixed : (m : Option (List ℕ)) → three_more n m ≡ prefixed (low_bytes 3 n) m
  unfolding three_more prefixed
  three_prefixed None = refl
  three_prefixed (Some l) = ap Some (three_low l)

-- ---- The bits of four values.

flip : (v : ℕ) → is_value v ≡ not (leb 64 v)
flip v = go (leb 64 v) refl
  where
    go : (t : Bool) → leb 64 v ≡ t → is_value v ≡ not t
    go true k = no_value v (leb-true 64 v k)
    go false k = a_value v (leb-false 64 v k)

none_of : (a b c d : Bool) → not (a || (b || (c || d))) ≡ (not a && (not b && (not c && not d)))
none_of true b c d = refl
none_of false true c d = refl
none_of false false true d = refl
none_of false false false d = refl

four_tested : (p q r s : ℕ) → four_values p q r s ≡ not (leb 64 p || (leb 64 q || (leb 64 r || leb 64 s)))
unfolding four_values
four_tested p q r s = rw (flip p, flip q, flip r, flip s) (sym (none_of (leb 64 p) (leb 64 q) (leb 64 r) (leb 64 s)))

pub record Values (p q r s n : ℕ) : Type 0 where
  pub first : p < 64
  pub second : q < 64
  pub third : r < 64
  pub fourth : s < 64
  pub values : four_values p q r s ≡ true
  pub bits : n ≡ sixes p q r s

module _ (p q r s : ℕ) where
  below : four_values p q r s ≡ true → {n : ℕ} → n ≡ sixes p q r s → Values p q r s n
  unfolding four_values
  below h e =
      let (a, x) = and_halves (is_value p) (is_value q && (is_value r && is_value s)) h in
      let (b, y) = and_halves (is_value q) (is_value r && is_value s) x in
      let (c, d) = and_halves (is_value r) (is_value s) y in
      record { first = value_below p a; second = value_below q b; third = value_below r c; fourth = value_below s d; values = h; bits = e }

  module _ {n : ℕ} (en : n ≡ bits_of p q r s) where
    pub bits_some : n < 16777216 → Values p q r s n
    unfolding bits_of
    bits_some h = go (four_values p q r s) refl en
      where
        go : (t : Bool) → four_values p q r s ≡ t → n ≡ cond t (sixes p q r s) 16777216 → Values p q r s n
        go true k e = below k e
        go false k e = absurd (omega arith)

    pub bits_none : 16777216 ≤ n → four_values p q r s ≡ false
    unfolding bits_of sixes
    bits_none h = go (four_values p q r s) refl en
      where
        go : (t : Bool) → four_values p q r s ≡ t → n ≡ cond t (sixes p q r s) 16777216 → four_values p q r s ≡ false
        go true k e = let b = below k e in absurd (omega (arith, b.first, b.second, b.third, b.fourth))
        go false k e = k

  pub bits_wrong : (leb 64 p || (leb 64 q || (leb 64 r || leb 64 s))) ≡ true → 16777216 ≡ bits_of p q r s
  unfolding bits_of
  bits_wrong h = rw (four_tested p q r s ∙ ap not h) refl

  module _ (h : (leb 64 p || (leb 64 q || (leb 64 r || leb 64 s))) ≡ false) where
    are : Values p q r s (sixes p q r s)
    are = below (four_tested p q r s ∙ ap not h) refl

    pub bits_right : p * 262144 + q * 4096 + r * 64 + s ≡ bits_of p q r s
    unfolding bits_of sixes
    bits_right = rw are.values refl

    pub bits_p : p * 262144 < 2 ^ 64
    bits_p = omega (arith, are.first)

    pub bits_q : q * 4096 < 2 ^ 64
    bits_q = omega (arith, are.second)

    pub bits_r : r * 64 < 2 ^ 64
    bits_r = omega (arith, are.third)

    pub bits_pq : p * 262144 + q * 4096 < 2 ^ 64
    bits_pq = omega (arith, are.first, are.second)

    pub bits_pqr : p * 262144 + q * 4096 + r * 64 < 2 ^ 64
    bits_pqr = omega (arith, are.first, are.second, are.third)

    pub bits_all : p * 262144 + q * 4096 + r * 64 + s < 2 ^ 64
    bits_all = omega (arith, are.first, are.second, are.third, are.fourth)

pub ruleset bits = (bits_wrong, bits_right, bits_p, bits_q, bits_r, bits_pq, bits_pqr, bits_all, rules)

module _ (text : List ℕ) (p q r s at : ℕ) where
  module _ (pad : s ≡ 65) {c : Option (ℕ × ℕ)} (t : LetterTold text at c) where
    pub four_more : {b j : ℕ} → c ≡ Some (b, j) → FourTold text p q r s at Bad
    unfolding four_read four_ahead four_ending bytes_or
    four_more e = let l = t.on_letter e in told_bad (rw (eq-eqb s 65 pad, l.splits) refl) (rw (eq-eqb s 65 pad, l.splits) refl)

    pub four_last : c ≡ None → {g : Group} → LastTold (four_ending p q r []) at g → FourTold text p q r s at g
    unfolding four_read four_ahead bytes_or prefixed
    four_last e {g} h =
        let nothing = t.on_end e in
        let x = eq-eqb s 65 pad in
        record {
          on_bytes = λ {v} {n} {j} k. (let l = h.on_bytes k in
              record {
                some_read = l.some_read;
                few = l.few;
                small = l.small;
                spelled = rw (x, nothing, l.stays, nothing, none_read, l.spelled) (ap Some (sym (append-nil (low_bytes n v))));
                bytes = rw (x, nothing, l.stays, nothing, none_ahead, l.spelled) (sym (append-nil (low_bytes n v)));
                less = rw l.stays (omega (arith, l.few));
              });
          on_end = λ k. absurd (h.on_end k);
          on_bad = λ k. (rw (x, nothing) (h.on_bad k), rw (x, nothing, h.on_bad k) refl);
        }

  module _ {n : ℕ} (en : n ≡ bits_of p q r s) where
    pub four_wrong : (s ≡ 65 → ⊥) → 16777216 ≤ n → FourTold text p q r s at Bad
    unfolding four_read four_ahead
    four_wrong k h = let no = bits_none p q r s en h in told_bad (rw (ne_eqb s 65 k, no) refl) (rw (ne_eqb s 65 k, no) refl)

    pub four_right : n < 16777216 → FourTold text p q r s at (Bytes n 3 at)
    unfolding four_read four_ahead
    four_right h =
        let b = bits_some p q r s en h in
        let no_pad : eqb s 65 ≡ false = ne_eqb s 65 (λ e. omega (arith, b.fourth)) in
        told_bytes (record {
          some_read = omega arith;
          few = omega arith;
          small = h;
          spelled = rw (no_pad, b.values, sym b.bits) (three_prefixed n h (decode (letters_at text at)));
          bytes = rw (no_pad, b.values, sym b.bits) (three_low n h (bytes_ahead (letters_at text at)));
          less = omega arith;
        })

pub ruleset fours = (four_more, four_last, four_wrong, four_right, rules)

-- ---- The letters themselves.

four_decoded : (a b c d : ℕ) (w : Word) → decode (a ∷ b ∷ c ∷ d ∷ w) ≡ four_read (worth a) (worth b) (worth c) (worth d) w (decode w)
unfolding decode four_read
four_decoded a b c d w = refl

four_found : (a b c d : ℕ) (w : Word)
    → bytes_ahead (a ∷ b ∷ c ∷ d ∷ w) ≡ four_ahead (worth a) (worth b) (worth c) (worth d) w (bytes_ahead w)
unfolding bytes_ahead
four_found a b c d w = refl

retold : {text : List ℕ} {x y : Option (List ℕ)} {k l : List ℕ} {m n : ℕ} {r : Group} → GroupRead text x k m r → y ≡ x → l ≡ k → m ≤ n
    → GroupRead text y l n r
retold t e f h = record {
  on_bytes = λ q. (let b = t.on_bytes q in
      record {
        some_read = b.some_read;
        few = b.few;
        small = b.small;
        spelled = e ∙ b.spelled;
        bytes = f ∙ b.bytes;
        less = omega (arith, b.less);
      });
  on_end = λ q. (let b = t.on_end q in (e ∙ b.0, f ∙ b.1));
  on_bad = λ q. (let b = t.on_bad q in (e ∙ b.0, f ∙ b.1));
}

module _ {text : List ℕ} {at : ℕ} {x : Option (ℕ × ℕ)} (tx : LetterTold text at x) where
  pub group_none : x ≡ None → GroupTold text at End
  group_none e = let n = tx.on_end e in told_end (ap decode n ∙ none_read) (ap bytes_ahead n ∙ none_ahead)

  module _ {a i : ℕ} (ea : x ≡ Some (a, i)) {y : Option (ℕ × ℕ)} (ty : LetterTold text i y) where
    A : Letter text at a i
    A = tx.on_letter ea

    pub group_one : y ≡ None → GroupTold text at Bad
    unfolding decode bytes_ahead
    group_one e = let n = A.splits ∙ ap (λ l. a ∷ l) (ty.on_end e) in told_bad (rw n refl) (rw n refl)

    module _ {b j : ℕ} (eb : y ≡ Some (b, j)) {z : Option (ℕ × ℕ)} (tz : LetterTold text j z) where
      B : Letter text i b j
      B = ty.on_letter eb

      pub group_two : z ≡ None → GroupTold text at Bad
      unfolding decode bytes_ahead
      group_two e = let n = A.splits ∙ ap (λ l. a ∷ l) (B.splits ∙ ap (λ l. b ∷ l) (tz.on_end e)) in told_bad (rw n refl) (rw n refl)

      module _ {c k : ℕ} (ec : z ≡ Some (c, k)) {u : Option (ℕ × ℕ)} (tu : LetterTold text k u) where
        C : Letter text j c k
        C = tz.on_letter ec

        pub group_three : u ≡ None → GroupTold text at Bad
        unfolding decode bytes_ahead
        group_three e =
            let n = A.splits ∙ ap (λ l. a ∷ l) (B.splits ∙ ap (λ l. b ∷ l) (C.splits ∙ ap (λ l. c ∷ l) (tu.on_end e))) in
            told_bad (rw n refl) (rw n refl)

        module _ {d m : ℕ} (ed : u ≡ Some (d, m)) {p q r s : ℕ} (ep : p ≡ worth a) (eq : q ≡ worth b) (er : r ≡ worth c)
            (es : s ≡ worth d) where
          D : Letter text k d m
          D = tu.on_letter ed

          word : letters_at text at ≡ a ∷ b ∷ c ∷ d ∷ letters_at text m
          word = A.splits ∙ ap (λ l. a ∷ l) (B.splits ∙ ap (λ l. b ∷ l) (C.splits ∙ ap (λ l. c ∷ l) D.splits))

          pub group_four : {g : Group} → FourTold text p q r s m g → GroupTold text at g
          group_four t =
              retold (rw (ep, eq, er, es) at t) (ap decode word ∙ four_decoded a b c d (letters_at text m))
              (ap bytes_ahead word ∙ four_found a b c d (letters_at text m))
              (omega (arith, A.less, B.less, C.less, D.less))

pub ruleset grouping = (group_none, group_one, group_two, group_three, group_four, rules)
