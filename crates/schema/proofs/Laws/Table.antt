-- The numbers of a table and its words.
use Rattle.std.specs.Prelude.{◌≡◌, refl, List, [], ◌∷◌, ℕ, zero, suc, ◌+◌, ◌-◌, ◌*◌, ◌<◌, ◌≤◌, get_or, length, take, drop}
use Rattle.std.proofs.Common.{sym, ◌∙◌, arith, mul-le-mul_right, rules}
use borrow.Author.Tests.{le-leb, lt-leb, eq-eqb, ne_eqb}
use Rattle.grammar.specs.Bytes.{ascii}
use Rattle.schema.specs.Letters.{lettered}
use Rattle.schema.proofs.Laws.Letters.{lettered_bytes}
use Rattle.schema.specs.Asked.{Cell}
use Rattle.schema.specs.Table.{entry, kind_cell, bound, lines_from, lines_to, text_at, letters_of, word_at, front_letters, front_at}

past : (l : List ℕ) (i : ℕ) → length l ≤ i → get_or l i 0 ≡ 0
past [] i h = refl
past (a ∷ l) zero h = absurd (omega arith)
past (a ∷ l) (suc i) h = past l i (omega arith)

pub cell_past : (t : List ℕ) (i : ℕ) → length t ≤ i → (0 ≡ get_or t i 0) × (0 < 4294967296)
cell_past t i h = (sym (past t i h), omega arith)

module _ {n row column : ℕ} (c : Cell n row column) where
  scaled : n * row ≤ 8 * row
  scaled = mul-le-mul_right row c.narrow

  pub cell_times : n * row < 18446744073709551616
  cell_times = let s = scaled in let k = c.known in omega arith

  module _ {from : ℕ} (h : from < 4294967296) where
    pub cell_from : from + n * row < 18446744073709551616
    cell_from = let s = scaled in let k = c.known in omega arith

    pub cell_room : from + n * row + column < 18446744073709551616
    cell_room = let s = scaled in let k = c.known in let i = c.column_in in omega arith

pub entry_is : (t : List ℕ) (p n row column : ℕ) {from r : ℕ} → from ≡ get_or t p 0 → r ≡ get_or t (from + n * row + column) 0
    → r ≡ entry t p n row column
unfolding entry
entry_is t p n row column e f = f ∙ rw e

pub ruleset celling = (cell_past, cell_times, cell_from, cell_room, entry_is, rules)

-- the end of the lines of a kind
module _ (t : List ℕ) (k : ℕ) {from x : ℕ} (f : from ≡ kind_cell t k 2) (g : x ≡ kind_cell t k 4) where
  pub end_text : (x ≡ 0 → ⊥) → from ≡ lines_to t k
  unfolding lines_to text_at lines_from
  end_text h = rw (← g, ← f, ne_eqb x 0 h)

  module _ (h : x ≡ 0) {to : ℕ} (e : to ≡ kind_cell t k 3) where
    pub end_few : to ≤ from + 8 → to ≡ lines_to t k
    unfolding lines_to text_at lines_from
    end_few u = rw (← g, ← f, ← e, eq-eqb x 0 h, le-leb to (from + 8) u)

    pub end_many : from + 8 < to → from + 8 ≡ lines_to t k
    unfolding lines_to text_at lines_from
    end_many u = rw (← g, ← f, ← e, eq-eqb x 0 h, lt-leb to (from + 8) u)

pub ruleset ending = (end_text, end_few, end_many, rules)

-- WORDS
drop_bytes : (l : List ℕ) → ((i : ℕ) → get_or l i 0 < 256) → (n i : ℕ) → get_or (drop n l) i 0 < 256
drop_bytes l h zero i = h i
drop_bytes [] h (suc n) i = omega arith
drop_bytes (a ∷ l) h (suc n) i = drop_bytes l (λ j. h (suc j)) n i

take_bytes : (l : List ℕ) → ((i : ℕ) → get_or l i 0 < 256) → (n i : ℕ) → get_or (take n l) i 0 < 256
take_bytes l h zero i = omega arith
take_bytes [] h (suc n) i = omega arith
take_bytes (a ∷ l) h (suc n) zero = h 0
take_bytes (a ∷ l) h (suc n) (suc i) = take_bytes l (λ j. h (suc j)) n i

module _ (t l : List ℕ) (w : ℕ) {from to : ℕ} (f : from ≡ bound t w) (g : to ≡ bound t (w + 1)) {r : List ℕ} where
  pub word_turned : to < from → r ≡ take (0 - 0) (drop 0 l) → r ≡ ascii (word_at t l w)
  unfolding word_at letters_of lettered
  word_turned h e = e ∙ rw (← f, ← g, lt-leb from to h)

  pub word_out : from ≤ to → length l < to → r ≡ take (0 - 0) (drop 0 l) → r ≡ ascii (word_at t l w)
  unfolding word_at letters_of lettered
  word_out h k e = e ∙ rw (← f, ← g, le-leb from to h, lt-leb to (length l) k)

  pub word_there : from ≤ to → to ≤ length l → r ≡ take (to - from) (drop from l) → ((i : ℕ) → get_or l i 0 < 256) → r ≡ ascii (word_at t l w)
  unfolding word_at letters_of
  word_there h k e b =
      e
      ∙ rw (← f, ← g, le-leb from to h, le-leb to (length l) k)
      (sym (lettered_bytes (take (to - from) (drop from l)) (take_bytes (drop from l) (drop_bytes l b from) (to - from))))

pub ruleset wording = (word_turned, word_out, word_there, rules)

-- a front part: no letters, or those of a word
front_so : (t l : List ℕ) (w : ℕ) → ascii (word_at t l w) ≡ ascii (front_at t l (suc w))
unfolding word_at front_at front_letters
front_so t l w = refl

module _ (t l : List ℕ) (front : ℕ) {r : List ℕ} where
  pub front_none : front ≡ 0 → r ≡ take (0 - 0) (drop 0 l) → r ≡ ascii (front_at t l front)
  unfolding front_at front_letters lettered
  front_none h e = e ∙ rw h

  pub front_word : (front ≡ 0 → ⊥) → r ≡ ascii (word_at t l (front - 1)) → r ≡ ascii (front_at t l front)
  front_word h e = go front h e
    where
      go : (n : ℕ) → (n ≡ 0 → ⊥) → r ≡ ascii (word_at t l (n - 1)) → r ≡ ascii (front_at t l n)
      go zero h e = absurd (h refl)
      go (suc n) h e = let z : suc n - 1 ≡ n = omega arith in e ∙ rw z (front_so t l n)

pub ruleset fronting = (front_none, front_word, rules)
