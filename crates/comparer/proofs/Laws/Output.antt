-- A line of the comparer: every one fits 128 bytes; a word with the line of a record behind it; the line by what is said.
use Rattle.std.specs.Prelude.{◌≡◌, List, [], ◌∷◌, ◌++◌, Bool, cond, ℕ, zero, suc, ◌+◌, ◌-◌, ◌/◌, ◌%◌, ◌≤◌, ◌<◌, ltb, leb, get_or, take, drop}
use Rattle.std.proofs.Math.Path.{refl}
use Rattle.std.proofs.Common.{sym, ap, ◌∙◌, append_assoc, append-nil, arith, rules, length-append, length-drop, drop_of_length-le, take_all, take_at, drop-drop}
use Rattle.std.proofs.Math.Bool.{true, false}
use borrow.Author.Tests.{le-leb, lt-ltb, le-ltb}
use borrow.Rule.Slice.PartMut.{mid_of, post_of, put_mid}
use Rattle.std.proofs.Math.ListN.{length}
use Rattle.grammar.specs.Bytes.{ascii}
use Rattle.grammar.specs.Look.{Word}
use Rattle.records.specs.Record.{Location, on_surface, in_volume, location_of}
use Rattle.card.specs.Card.{location_line, record_line}
use Rattle.card.specs.declared.line.Line.{Line}
use Rattle.card.specs.declared.line.Line.TheVariants as lines
use Rattle.card.specs.Written.{in_tens_up_to, in_tens, spaced, words_of, line_bytes, WritesOut, Spells}
use Rattle.compare.specs.Change.{of_second, change_at}
use Rattle.compare.specs.declared.changes.Change.{Change}
use Rattle.compare.specs.declared.changes.Change.TheVariants as changes
use Rattle.comparer.specs.Output.{change_bytes, line_at, refusal_bytes}

-- ---- How long a line is.

tens_short : (m n : ℕ) → length (in_tens_up_to m n) ≤ m
unfolding in_tens_up_to
tens_short zero n = omega arith
tens_short (suc m) n = go (ltb n 10) (tens_short m (n / 10))
  where
    go : (b : Bool) → length (in_tens_up_to m (n / 10)) ≤ m
        → length (cond b ((48 + n) ∷ []) (in_tens_up_to m (n / 10) ++ ((48 + n % 10) ∷ []))) ≤ suc m
    go true h = omega arith
    go false h = omega (arith, length-append (in_tens_up_to m (n / 10)) ((48 + n % 10) ∷ []))

short : (n : ℕ) → length (in_tens n) ≤ 20
unfolding in_tens
short n = tens_short 20 n

spaced_one : (w : Word) → length (spaced (w ∷ [])) ≡ length w + 1
unfolding spaced
spaced_one w = length-append w (10 ∷ [])

spaced_more : (w v : Word) (l : List Word) → length (spaced (w ∷ v ∷ l)) ≡ length w + suc (length (spaced (v ∷ l)))
unfolding spaced
spaced_more w v l = length-append w (32 ∷ spaced (v ∷ l))

line_short : (n : ℕ) (l : Location) → length (line_bytes (location_line n l)) ≤ 107
unfolding line_bytes words_of location_line
line_short n (on_surface s v) =
    let a = spaced_more (in_tens n) (ascii "S") (in_tens s ∷ in_tens v ∷ []) in
    let b = spaced_more (ascii "S") (in_tens s) (in_tens v ∷ []) in
    let c = spaced_more (in_tens s) (in_tens v) [] in
    let d = spaced_one (in_tens v) in
    let one : length (ascii "S") ≡ 1 = refl in
    omega (arith, a, b, c, d, one, short n, short s, short v)
line_short n (in_volume s i j k) =
    let a = spaced_more (in_tens n) (ascii "V") (in_tens s ∷ in_tens i ∷ in_tens j ∷ in_tens k ∷ []) in
    let b = spaced_more (ascii "V") (in_tens s) (in_tens i ∷ in_tens j ∷ in_tens k ∷ []) in
    let c = spaced_more (in_tens s) (in_tens i) (in_tens j ∷ in_tens k ∷ []) in
    let d = spaced_more (in_tens i) (in_tens j) (in_tens k ∷ []) in
    let e = spaced_more (in_tens j) (in_tens k) [] in
    let f = spaced_one (in_tens k) in
    let one : length (ascii "V") ≡ 1 = refl in
    omega (arith, a, b, c, d, e, f, one, short n, short s, short i, short j, short k)

pub record_short : (n r : ℕ) → length (line_bytes (record_line n r)) ≤ 107
unfolding record_line
record_short n r = line_short n (location_of r)

change_fits : (c : Change) (n r : ℕ) → length (change_bytes c n r) ≤ 128
unfolding change_bytes
change_fits changes.Same n r = omega arith
change_fits changes.Moved n r = omega (arith, length-append (ascii "moved ") (line_bytes (record_line n r)), record_short n r)
change_fits changes.First n r = omega (arith, length-append (ascii "first ") (line_bytes (record_line n r)), record_short n r)
change_fits changes.Second n r = omega (arith, length-append (ascii "second ") (line_bytes (record_line n r)), record_short n r)

-- a refusal fits it too
pub refusal_all : (n : ℕ) {out : List ℕ} {k : ℕ} {t : List ℕ} → WritesOut (line_bytes (lines.Refused n)) out k t → 128 ≤ length out
    → k ≡ length (refusal_bytes n)
unfolding refusal_bytes line_bytes words_of
refusal_all n {out} written room =
    let a = spaced_more (ascii "refused") (in_tens n) [] in
    let b = spaced_one (in_tens n) in
    let seven : length (ascii "refused") ≡ 7 = refl in
    let l = spaced (ascii "refused" ∷ in_tens n ∷ []) in
    let e : leb (length l) (length out) ≡ true = le-leb (length l) (length out) (omega (arith, a, b, seven, short n)) in
    written.counted ∙ rw e refl

-- ---- A word, and a line behind it.

module _ (w s : List ℕ) (room : (length w ≤ 20) × (128 ≤ length s)) {o v : List ℕ} (copied : v ≡ w) (put : o ≡ v ++ drop (length w) s) where
  is : o ≡ w ++ drop (length w) s
  is = put ∙ ap (λ l. l ++ drop (length w) s) copied

  long : length o ≡ length s
  long = omega (arith, ap length is, length-append w (drop (length w) s), length-drop (length w) s)

  mid : mid_of (length w) (length o - length w) o ≡ drop (length w) o
  mid = take_all (length o - length w) (drop (length w) o) (omega (arith, length-drop (length w) o))

  post : post_of (length w) (length o - length w) o ≡ []
  post =
      drop-drop (length o - length w) (length w) o
      ∙ (let h : length o ≤ length w + (length o - length w) = omega arith in drop_of_length-le o h)

  front : take (length w) o ≡ w
  front = ap (take (length w)) is ∙ take_at w (drop (length w) s) (length w) refl

  module _ (n r : ℕ) {l : Line} (told : l ≡ record_line n r) {k : ℕ} {t : List ℕ}
      (written : WritesOut (line_bytes l) (mid_of (length w) (length o - length w) o) k t) where
    abbrev bytes : List ℕ
    bytes = line_bytes (record_line n r)

    abbrev under : List ℕ
    under = mid_of (length w) (length o - length w) o

    goes : WritesOut bytes under k t
    goes = rw (sym told) written

    fits : leb (length bytes) (length under) ≡ true
    fits = le-leb (length bytes) (length under)
        (omega (arith, ap length mid, length-drop (length w) o, long, record_short n r))

    all : k ≡ length bytes
    all = goes.counted ∙ rw fits refl

    filled : t ≡ bytes ++ drop (0 + length bytes) under
    filled = goes.filled ∙ rw fits refl

    whole : put_mid (length w) (length o - length w) o t ≡ w ++ bytes ++ drop (0 + length bytes) under
    whole =
        rw (post, front, filled, append-nil (bytes ++ drop (0 + length bytes) under))
        (sym (append_assoc w bytes (drop (0 + length bytes) under)))

    pub spelled_behind : Spells (w ++ bytes) (length w + k) (put_mid (length w) (length o - length w) o t)
    spelled_behind =
        let sum : length (w ++ bytes) ≡ length w + k = omega (arith, length-append w bytes, all) in
        record {
          counted = sym sum;
          short = omega (arith, all, record_short n r);
          are = ap (take (length w + k)) whole ∙ take_at (w ++ bytes) (drop (0 + length bytes) under) (length w + k) sum;
        }

-- ---- A line, by what is said.

pub spell_same : {c : Change} (i r : ℕ) (t : List ℕ) → c ≡ changes.Same → Spells (change_bytes c i r) 0 t
unfolding change_bytes
spell_same i r t e = rw e (record { counted = refl; short = omega arith; are = refl })

module _ {c : Change} (i r : ℕ) {n : ℕ} {t : List ℕ} where
  pub spell_moved : c ≡ changes.Moved → Spells (ascii "moved " ++ line_bytes (record_line i r)) n t → Spells (change_bytes c i r) n t
  unfolding change_bytes
  spell_moved e p = rw e p

  pub spell_first : c ≡ changes.First → Spells (ascii "first " ++ line_bytes (record_line i r)) n t → Spells (change_bytes c i r) n t
  unfolding change_bytes
  spell_first e p = rw e p

  pub spell_second : c ≡ changes.Second → Spells (ascii "second " ++ line_bytes (record_line i r)) n t → Spells (change_bytes c i r) n t
  unfolding change_bytes
  spell_second e p = rw e p

-- ---- The n-th line.

module _ (a b : List ℕ) (n : ℕ) where
  pub at_first : n < length a → line_at a b n ≡ change_bytes (change_at a b n) n (get_or a n 0)
  unfolding line_at
  at_first h = rw (lt-ltb n (length a) h) refl

  pub at_second : length a ≤ n → line_at a b n ≡ change_bytes (change_at a b n) (n - length a) (get_or b (n - length a) 0)
  unfolding line_at
  at_second h = rw (le-ltb n (length a) h) refl

  -- every line of the comparer fits the room that it is written to
  pub line_fits : length (line_at a b n) ≤ 128
  unfolding line_at
  line_fits = by (ltb n (length a))
    where
      by : (x : Bool) → length (cond x (change_bytes (change_at a b n) n (get_or a n 0))
          (change_bytes (change_at a b n) (n - length a) (get_or b (n - length a) 0))) ≤ 128
      by true = change_fits (change_at a b n) n (get_or a n 0)
      by false = change_fits (change_at a b n) (n - length a) (get_or b (n - length a) 0)

  past : length a ≤ n → length b ≤ n - length a → change_at a b n ≡ changes.Same
  unfolding change_at of_second
  past h g = rw (le-ltb n (length a) h, le-ltb (n - length a) (length b) g) refl

  pub spell_past : length a ≤ n → length b ≤ n - length a → (t : List ℕ) → Spells (line_at a b n) 0 t
  spell_past h g t = rw (at_second h) (spell_same (n - length a) (get_or b (n - length a) 0) t (past h g))

  module _ {c : Change} (said : c ≡ change_at a b n) {k : ℕ} {t : List ℕ} where
    pub spell_of_first : n < length a → Spells (change_bytes c n (get_or a n 0)) k t → Spells (line_at a b n) k t
    spell_of_first h p = rw (at_first h, sym said) p

    pub spell_of_second : length a ≤ n → Spells (change_bytes c (n - length a) (get_or b (n - length a) 0)) k t → Spells (line_at a b n) k t
    spell_of_second h p = rw (at_second h, sym said) p

pub ruleset atSteps = (spell_past, spell_of_first, spell_of_second, rules)

pub ruleset behindSteps = (spelled_behind, rules)

pub ruleset changeSteps = (spell_same, spell_moved, spell_first, spell_second, rules)
