-- The numbers of a table where a place is capped at the greatest number, which is past every table.
use Rattle.std.specs.Prelude.{◌≡◌, List, [], ℕ, ◌+◌, ◌*◌, ◌<◌, ◌≤◌, get_or, length, min, max, Option, Some, None}
use Rattle.std.proofs.Math.Path.{refl, sym, ap}
use Rattle.std.proofs.Common.{◌∙◌, rules}
use native.Mathlib.Omega.{arith}
use Rattle.std.proofs.Math.Decide.{dec_lt, dec_le}
use Rattle.std.proofs.Math.Nat.{min-le_left, min-eq_left, min-eq_right, max-eq_left, max-eq_right}
use Rattle.std.proofs.Math.ListN.{get_or-eq_default}
use denote.Ref.{Bor}
use Rattle.std.proofs.Common.{⊎_elim}
use Rattle.std.specs.Option.{unwrap_or}
use Rattle.std.specs.List.{PartBy}
use Rattle.grammar.specs.Bytes.{ascii}
use Rattle.schema.specs.Table.{entry, bound, kind_cell, lines_to, word_at}
use Rattle.schema.proofs.Laws.Table.{end_text, end_few, end_many, word_turned, word_out, word_there}

abbrev most : ℕ
most = 18446744073709551615

module _ {x y : ℕ} (e : y ≡ min x most) where
  under : y < most → y ≡ x
  under h = go (dec_le x most)
    where
      go : Dec (x ≤ most) → y ≡ x
      go (yes k) = e ∙ min-eq_left k
      go (no k) = let z : min x most ≡ most = min-eq_right (omega arith) in absurd (omega (arith, e, z))

  over : most ≤ y → most ≤ x
  over h = let z = min-le_left x most in omega (arith, e, z)

module _ (t : List ℕ) (long : length t < 18446744073709551616) where
  both_past : (i j : ℕ) → most ≤ i → most ≤ j → get_or t i 0 ≡ get_or t j 0
  both_past i j h k = get_or-eq_default t 0 (omega arith) ∙ sym (get_or-eq_default t 0 (omega arith))

  pub capped : (p from column : ℕ) {a b c : ℕ} → a ≡ min p most → b ≡ min (a + from) most → c ≡ min (b + column) most
      → get_or t c 0 ≡ get_or t (from + p + column) 0
  capped p from column {a} {b} {c} ea eb ec = go (dec_lt c most)
    where
      go : Dec (c < most) → get_or t c 0 ≡ get_or t (from + p + column) 0
      go (yes h) =
          let x = under ec h in
          let y = under eb (omega arith) in
          let z = under ea (omega arith) in
          ap (λ i. get_or t i 0) (omega arith)
      go (no h) =
          let x = over ec (omega arith) in
          both_past c (from + p + column) (omega arith) (over_all (dec_lt b most) x)
        where
          over_more : Dec (a < most) → most ≤ a + from + column → most ≤ from + p + column
          over_more (yes u) q = let z = under ea u in omega arith
          over_more (no u) q = let z = over ea (omega arith) in omega arith

          over_all : Dec (b < most) → most ≤ b + column → most ≤ from + p + column
          over_all (yes u) q = let z = under eb u in over_more (dec_lt a most) (omega arith)
          over_all (no u) q = let z = over eb (omega arith) in over_more (dec_lt a most) (omega arith)

  pub capped_entry : (p n row column : ℕ) {from a b c r : ℕ} → from ≡ get_or t p 0 → a ≡ min (n * row) most → b ≡ min (a + from) most
      → c ≡ min (b + column) most → r ≡ get_or t c 0 → r ≡ entry t p n row column
  unfolding entry
  capped_entry p n row column {from} ef ea eb ec er = er ∙ capped (n * row) from column ea eb ec ∙ rw ef refl

  pub capped_bound : (w : ℕ) {a to : ℕ} → a ≡ min (w + 1) most → to ≡ bound t a → to ≡ bound t (w + 1)
  unfolding entry
  capped_bound w {a} {to} ea e = e ∙ go (dec_lt a most)
    where
      go : Dec (a < most) → bound t a ≡ bound t (w + 1)
      go (yes h) = ap (bound t) (under ea h)
      go (no h) = let x = over ea (omega arith) in both_past _ _ (omega arith) (omega arith)

-- the end of the lines of a kind
module _ (t : List ℕ) (k : ℕ) {from x to r : ℕ} (f : from ≡ kind_cell t k 2) (g : x ≡ kind_cell t k 4) (h : x ≡ 0) (e : to ≡ kind_cell t k 3)
    (m : r ≡ min to (from + 8)) where
  pub end_min : r ≡ lines_to t k
  end_min = go (dec_le to (from + 8))
    where
      go : Dec (to ≤ from + 8) → r ≡ lines_to t k
      go (yes u) = m ∙ min-eq_left u ∙ end_few t k f g h e u
      go (no u) = m ∙ min-eq_right (omega arith) ∙ end_many t k f g h e (omega arith)

  pub end_small : from < 4294967296 → to < 4294967296 → r < 4294967304
  end_small u v = let z = min-le_left to (from + 8) in omega arith

pub ruleset lines_ending = (end_text, end_min, end_small, rules)

-- the greater of two places
pub greater_is : (from to n : ℕ) {r : ℕ} → r ≡ max from to → (from < to → to ≡ from + n) → (to ≤ from → from ≡ from + n) → r ≡ from + n
greater_is from to n {r} m g h = go (dec_lt from to)
  where
    go : Dec (from < to) → r ≡ from + n
    go (yes u) = m ∙ max-eq_right (omega arith) ∙ g u
    go (no u) = m ∙ max-eq_left (omega arith) ∙ h (omega arith)

-- the letters of a word, or none
module _ (t l : List ℕ) (w : ℕ) {from to : ℕ} (f : from ≡ bound t w) (g : to ≡ bound t (w + 1)) (b : (i : ℕ) → get_or l i 0 < 256)
    (d : Bor (List ℕ)) (e : d.now ≡ []) where
  pub word_got : (r : Option (Bor (List ℕ))) → PartBy (λ (x : Bor (List ℕ)). x.now) l from to r → (unwrap_or r d).now ≡ ascii (word_at t l w)
  word_got None k = ⊎_elim (λ (h : to < from). word_turned t l w f g h e) (λ (h : length l < to). late h (dec_le from to)) k.0
    where
      late : length l < to → Dec (from ≤ to) → d.now ≡ ascii (word_at t l w)
      late h (yes u) = word_out t l w f g u h e
      late h (no u) = word_turned t l w f g (omega arith) e
  word_got (Some x) k = let p = k.0 in word_there t l w f g p.0 p.1 p.2 b
