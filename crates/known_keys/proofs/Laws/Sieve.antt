-- Marking the numbers of a part one after the other.
use Rattle.std.specs.Prelude.{◌≡◌, Bool, ◌||◌, List, ℕ, ◌+◌, ◌≤◌, ◌<◌, ltb, get_or, take}
use Rattle.std.proofs.Math.Path.{refl, ap}
use Rattle.std.proofs.Common.{sym, ◌∙◌, arith, rules, lt-ltb, le-ltb, eq-eqb}
use Rattle.std.proofs.Math.Bool.{true}
use Rattle.std.proofs.Math.Decide.{dec_lt}
use Rattle.std.proofs.Math.Dec.{eqb}
use Rattle.std.proofs.Math.ListN.{length}
use Rattle.lists.proofs.Laws.Booleans.{or_true}
use Rattle.marks.specs.Marks.{marked, Marked}
use Rattle.known_keys.specs.Order.{in_order}
use Rattle.known_keys.specs.Sieve.{sieve_place, sifted, Sieve, Sifting}
use Rattle.known_keys.proofs.Laws.Search.{At, stands}

-- the first so many are marked, where there is room
pub record Sieving (codes words₀ words : List ℕ) (i : ℕ) : Type 0 where
  pub long : length words ≡ length words₀
  pub so_far : 8192 ≤ length words → (k : ℕ) → k < i → marked words (sieve_place (get_or codes k 0)) ≡ 1

pub sieving_start : (codes words : List ℕ) → Sieving codes words words 0
sieving_start codes words = record { long = refl; so_far = λ r k u. absurd (omega arith) }

module _ {codes words₀ words : List ℕ} {i : ℕ} (go : Sieving codes words₀ words i) where
  pub sieving_long : length words ≡ length words₀
  sieving_long = go.long

  pub sieving_more : {p : ℕ} → p ≡ sieve_place (get_or codes i 0) → {new : Bool} {after : List ℕ} → Marked words p new after
      → Sieving codes words₀ after (i + 1)
  unfolding sieve_place
  sieving_more {p} e {after = after} m =
      let l = m.kept.long in
      record { long = l ∙ go.long; so_far = λ r k u. by (omega arith) k u (dec_lt k i) }
    where
      here : 8192 ≤ length words → marked after (sieve_place (get_or codes i 0)) ≡ 1
      here r = ap (marked after) (sym e) ∙ m.with_room (omega arith)

      by : 8192 ≤ length words → (k : ℕ) → k < i + 1 → Dec (k < i) → marked after (sieve_place (get_or codes k 0)) ≡ 1
      by r k u (yes h) = m.kept.stays (sieve_place (get_or codes k 0)) (go.so_far r k h)
      by r k u (no h) =
          let q : i ≡ k = omega arith in
          ap (λ (n : ℕ). marked after (sieve_place (get_or codes n 0))) (sym q) ∙ here r

  pub sieving_done : length codes ≤ i → Sieve codes words
  unfolding sifted
  sieving_done h = record { passing = λ c m. by c (stands c codes m) (dec_lt (length words) 8192) }
    where
      by : (c : ℕ) → At c codes → Dec (length words < 8192)
          → (ltb (length words) 8192 || eqb (marked words (sieve_place c)) 1) ≡ true
      by c a (yes s) = rw (lt-ltb (length words) 8192 s) refl
      by c a (no s) =
          let u = a.inside in
          let z : marked words (sieve_place c) ≡ 1
          = ap (λ (n : ℕ). marked words (sieve_place n)) (sym a.holds) ∙ go.so_far (omega arith) a.place (omega arith) in
          rw (eq-eqb (marked words (sieve_place c)) 1 z) (or_true (ltb (length words) 8192))

pub ruleset sieving = (sieving_start, sieving_long, sieving_more, sieving_done, rules)

-- ---- Passing.

pub passes_all : (words : List ℕ) (c : ℕ) → length words < 8192 → true ≡ sifted words c
unfolding sifted
passes_all words c h = rw (lt-ltb (length words) 8192 h) refl

pub passes_marked : (words : List ℕ) (c : ℕ) → 8192 ≤ length words → {p : ℕ} → p ≡ sieve_place c → {r : Bool} → r ≡ eqb (marked words p) 1
    → r ≡ sifted words c
unfolding sifted
passes_marked words c h e q = q ∙ rw (le-ltb (length words) 8192 h, e) refl

pub ruleset passing = (passes_all, passes_marked, rules)

-- no word at all
pub sifting_none : {codes : List ℕ} → in_order codes ≡ true → Sifting codes (take 0 codes)
unfolding sifted
sifting_none o = record { in_order_so = o; passes = record { passing = λ c m. refl } }

pub ruleset sifting = (sifting_none, rules)
