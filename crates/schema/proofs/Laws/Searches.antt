-- A search for a word among those of a table: one law for every loop that seeks the first, and what the place found says.
use Rattle.std.specs.Prelude.{◌≡◌, refl, List, Bool, true, false, ◌||◌, cond, ltb}
use Rattle.std.proofs.Math.Path.{ap, sym}
use Rattle.std.proofs.Common.{◌∙◌, arith, rules, ltb-true, ltb-false, lt-ltb, le-ltb}
use Prim.Native.Nat.{ℕ, zero, suc, ◌+◌, ◌-◌, ◌<◌, ◌≤◌}
use Prim.Native.String.{String}
use Rattle.lists.specs.Lists.{any, count_up}
use Rattle.lists.proofs.Laws.Tables.{up_one, up_done}
use Rattle.grammar.specs.Bytes.{ascii}
use Rattle.grammar.specs.Look.{Word, is}
use Rattle.grammar.specs.Parser.{same_bytes}
use Rattle.schema.specs.Words.{number_in}
use Rattle.schema.specs.Table.{entry, word_at, entry_word}
use Rattle.schema.specs.Parts.{among_words}
use Rattle.schema.specs.Asked.{Cell}

-- THE LOOP
pub record Searching (f : ℕ → String) (x : Word) (from to i : ℕ) : Type 0 where
  pub same_place : from + number_in (count_up f from (to - from)) x ≡ i + number_in (count_up f i (to - i)) x

pub search_start : (f : ℕ → String) (x : Word) (from to : ℕ) → Searching f x from to from
search_start f x from to = record { same_place = refl }

module _ {f : ℕ → String} {x : Word} {from to i : ℕ} (go : Searching f x from to i) where
  pub search_end : to ≤ i → i ≡ from + number_in (count_up f from (to - from)) x
  unfolding number_in
  search_end h = let z : number_in (count_up f i (to - i)) x ≡ 0 = rw (up_done f i to h) in omega (arith, go.same_place)

  module _ (h : i < to) {b : Bool} (e : b ≡ is (f i) x) where
    found : b ≡ true → i ≡ from + number_in (count_up f from (to - from)) x
    unfolding number_in
    found k = let z : number_in (count_up f i (to - i)) x ≡ 0 = rw (up_one f i to h, sym e ∙ k) in omega (arith, go.same_place)

    onward : b ≡ false → Searching f x from to (i + 1)
    unfolding number_in
    onward k =
        let z : number_in (count_up f i (to - i)) x ≡ suc (number_in (count_up f (i + 1) (to - (i + 1))) x) = rw (up_one f i to h, sym e ∙ k) in
        record { same_place = omega (arith, go.same_place) }

-- among words
module _ (t l : List ℕ) {x : Word} {from to i : ℕ} (go : Searching (word_at t l) x from to i) (h : i < to) {w : List ℕ}
    (e : w ≡ ascii (word_at t l i)) {b : Bool} (k : b ≡ same_bytes x w) where
  word_said : b ≡ is (word_at t l i) x
  unfolding is
  word_said = k ∙ ap (same_bytes x) e

  pub word_hit : b ≡ true → i ≡ from + number_in (count_up (word_at t l) from (to - from)) x
  word_hit = found go h word_said

  pub word_on : b ≡ false → Searching (word_at t l) x from to (i + 1)
  word_on = onward go h word_said

pub ruleset searching_words = (search_start, search_end, word_hit, word_on, rules)

-- among the words of entries
module _ (t l : List ℕ) (p n : ℕ) {x : Word} {from to i : ℕ} (go : Searching (entry_word t l p n) x from to i) (h : i < to) {c : ℕ}
    (ce : c ≡ entry t p n i 0) {w : List ℕ} (e : w ≡ ascii (word_at t l c)) {b : Bool} (k : b ≡ same_bytes x w) where
  entry_said : b ≡ is (entry_word t l p n i) x
  unfolding is entry_word
  entry_said = k ∙ rw (e, ce)

  pub entry_hit : b ≡ true → i ≡ from + number_in (count_up (entry_word t l p n) from (to - from)) x
  entry_hit = found go h entry_said

  pub entry_on : b ≡ false → Searching (entry_word t l p n) x from to (i + 1)
  entry_on = onward go h entry_said

pub entry_cell : {n to i c : ℕ} → Cell n to c → i < to → Cell n i c
entry_cell p h = record { narrow = p.narrow; known = let u = p.known in omega arith; column_in = p.column_in }

pub entry_next : {n to i c : ℕ} → Cell n to c → i < to → i + 1 < 18446744073709551616
entry_next p h = let u = p.known in omega arith

pub ruleset searching_entries = (search_start, search_end, entry_hit, entry_on, entry_cell, entry_next, rules)

-- WHAT THE PLACE SAYS
pub less_suc : (p n : ℕ) → ltb p n ≡ ltb (suc p) (suc n)
less_suc p n = go (ltb p n) refl
  where
    go : (b : Bool) → ltb p n ≡ b → ltb p n ≡ ltb (suc p) (suc n)
    go true e = e ∙ sym (lt-ltb (suc p) (suc n) (omega (arith, ltb-true p n e)))
    go false e = e ∙ sym (le-ltb (suc p) (suc n) (omega (arith, ltb-false p n e)))

-- one of the words: the place is one of theirs
among_place : (f : ℕ → String) (x : Word) (n i : ℕ) → among_words (count_up f i n) x ≡ ltb (number_in (count_up f i n) x) n
unfolding among_words any count_up number_in
among_place f x zero i = refl
among_place f x (suc n) i = go (is (f i) x) (number_in (count_up f (suc i) n) x) (among_place f x n (suc i))
  where
    go : (b : Bool) (p : ℕ) → among_words (count_up f (suc i) n) x ≡ ltb p n
        → (b || among_words (count_up f (suc i) n) x) ≡ ltb (cond b 0 (suc p)) (suc n)
    go true p h = sym (lt-ltb 0 (suc n) (omega arith))
    go false p h = h ∙ less_suc p n

pub among_found : (f : ℕ → String) (x : Word) (from to : ℕ) {p : ℕ} → p ≡ from + number_in (count_up f from (to - from)) x
    → ltb p to ≡ among_words (count_up f from (to - from)) x
among_found f x from to {p} e = go (ltb p to) refl
  where
    go : (b : Bool) → ltb p to ≡ b → ltb p to ≡ among_words (count_up f from (to - from)) x
    go true h =
        h ∙ sym (among_place f x (to - from) from
        ∙ lt-ltb (number_in (count_up f from (to - from)) x) (to - from) (omega (arith, e, ltb-true p to h)))
    go false h =
        h ∙ sym (among_place f x (to - from) from
        ∙ le-ltb (number_in (count_up f from (to - from)) x) (to - from) (omega (arith, e, ltb-false p to h)))
