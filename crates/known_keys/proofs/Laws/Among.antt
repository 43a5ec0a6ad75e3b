-- A row of keys, counted one after the other.
use Rattle.std.specs.Prelude.{◌≡◌, Bool, true, false, List, ◌∷◌, ℕ, suc, ◌+◌, ◌≤◌, ◌<◌, ◌^◌, ℤ, pos, negsuc, length, get_or, drop}
use Rattle.std.proofs.Math.Path.{refl, ap}
use Rattle.std.proofs.Common.{sym, ◌∙◌, arith, drop-cons, SFits, to_z, of_z, rules, le-leb}
use Rattle.std.proofs.Math.Bool.{cond}
use Rattle.std.proofs.lemmas.Bool.{false≢true}
use Rattle.std.proofs.Math.ListN.{drop_of_length-le}
use Rattle.std.specs.Int.{w32}
use Rattle.std.proofs.lemmas.Int.{to_z-of_z}
use Rattle.lists.specs.Lists.{all, count, each}
use Rattle.lists.proofs.Laws.Booleans.{refute, and_both}
use Rattle.numbers.specs.Numbers.{in_keys, with_sign}
use Rattle.lists.specs.Reordered.{member}
use Rattle.label_table.specs.Codes.{code_of}
use Rattle.known_keys.specs.Order.{in_order}
use Rattle.known_keys.specs.Known.{known_in, codes_of, KnownAmong, Placed}
use Rattle.known_keys.specs.Sieve.{sifted, Sifting}
use Rattle.known_keys.proofs.Laws.Search.{placed_member}

-- a key of 32 bits is in the range of keys
fits_in : (z : ℤ) → SFits w32 z → in_keys z ≡ true
unfolding in_keys with_sign
fits_in (pos n) f = let s = f.sfits in and_both refl (le-leb n 2147483647 (omega arith))
fits_in (negsuc n) f = let s = f.sfits in and_both (le-leb n 2147483647 (omega arith)) refl

-- so many of the first i are known
pub record Counting (codes words : List ℕ) (keys : List ℤ) (known i : ℕ) : Type 0 where
  pub sifting : Sifting codes words
  pub found : known + known_in codes (codes_of (drop i keys)) ≡ known_in codes (codes_of keys)
  pub in_range_lem : all in_keys keys ≡ all in_keys (drop i keys)
  pub few : known ≤ i

pub counting_start : {codes words : List ℕ} (keys : List ℤ) → Sifting codes words → Counting codes words keys 0 0
counting_start keys s = record { sifting = s; found = omega arith; in_range_lem = refl; few = omega arith }

module _ {codes words : List ℕ} {keys : List ℤ} {known i : ℕ} (go : Counting codes words keys known i) where
  pub counting_done : length keys ≤ i → KnownAmong keys codes known
  unfolding codes_of each known_in count all
  counting_done h =
      let e = drop_of_length-le keys h in
      let z : known_in codes (codes_of (drop i keys)) ≡ 0 = ap (λ l. known_in codes (codes_of l)) e in
      let f = go.found in
      record { found = omega arith; in_range_lem = go.in_range_lem ∙ ap (all in_keys) e }

  pub counting_order : in_order codes ≡ true
  counting_order = go.sifting.in_order_so

  pub counting_room : i < length keys → length keys < 2 ^ 64 → known + 1 < 2 ^ 64
  counting_room h l = let f = go.few in omega arith

  module _ (inside : i < length keys) {c : ℕ} (told : c ≡ code_of (to_z w32 (of_z w32 (get_or keys i (pos 0)))))
      (fits : SFits w32 (get_or keys i (pos 0))) where
    is_code : c ≡ code_of (get_or keys i (pos 0))
    is_code = told ∙ ap code_of (to_z-of_z w32 (get_or keys i (pos 0)) fits)

    split : drop i keys ≡ get_or keys i (pos 0) ∷ drop (i + 1) keys
    split = let z : suc i ≡ i + 1 = omega arith in drop-cons keys i (pos 0) inside ∙ ap (λ n. get_or keys i (pos 0) ∷ drop n keys) z

    one_more : known_in codes (codes_of (drop i keys)) ≡ cond (member c codes) 1 0 + known_in codes (codes_of (drop (i + 1) keys))
    unfolding codes_of each known_in count
    one_more =
        ap (λ l. known_in codes (codes_of l)) split
        ∙ ap (λ x. cond (member x codes) 1 0 + known_in codes (codes_of (drop (i + 1) keys))) (sym is_code)

    range_so : all in_keys (drop i keys) ≡ all in_keys (drop (i + 1) keys)
    unfolding all
    range_so = ap (all in_keys) split ∙ rw (fits_in (get_or keys i (pos 0)) fits) refl

    counting_on : {x : ℕ} → x ≤ 1 → cond (member c codes) 1 0 ≡ x → Counting codes words keys (known + x) (i + 1)
    counting_on {x} u m =
        let o : known_in codes (codes_of (drop i keys)) ≡ x + known_in codes (codes_of (drop (i + 1) keys))
        = one_more ∙ ap (λ y. y + known_in codes (codes_of (drop (i + 1) keys))) m in
        let f = go.found in
        let w = go.few in
        record { sifting = go.sifting; found = omega arith; in_range_lem = go.in_range_lem ∙ range_so; few = omega arith }

    counting_not : member c codes ≡ false → Counting codes words keys known (i + 1)
    counting_not m =
        let z : known + 0 ≡ known = omega arith in
        rw z at (counting_on {x = 0} (omega arith) (rw m refl))

    pub counting_sifted : {b : Bool} → b ≡ sifted words c → b ≡ false → Counting codes words keys known (i + 1)
    counting_sifted e f =
        counting_not (refute (member c codes) (λ m. false≢true (sym f ∙ e ∙ go.sifting.passes.passing c m)))

    module _ {at : ℕ} (w : Placed codes c at) where
      pub counting_known : at < length codes → Counting codes words keys (known + 1) (i + 1)
      counting_known u = counting_on (omega arith) (rw (placed_member w u) refl)

      pub counting_unknown : length codes ≤ at → Counting codes words keys known (i + 1)
      counting_unknown u = counting_not (w.missed u)

pub ruleset counting = (
  counting_start,
  counting_done,
  counting_order,
  counting_room,
  counting_sifted,
  counting_known,
  counting_unknown,
  rules,
)
