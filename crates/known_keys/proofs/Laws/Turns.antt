-- The keys of a table, so many at a time; those of a list that stand in it, counted over the turns.
use Rattle.std.specs.Prelude.{◌≡◌, Bool, true, false, ◌||◌, cond, leb, ℤ, length, set, drop, Option, Some, None, ℕ}
use Rattle.std.proofs.Math.Path.{refl, ap}
use Rattle.std.proofs.Common.{sym, ◌∙◌, length-set, length-append, length-take-le, take-suc-set, take_at, rules, le-leb}
use mathlib.Core.List.{List, [], ◌∷◌, ◌++◌, append_assoc}
use Prim.Native.Nat.{ℕ, zero, suc, ◌+◌, ◌^◌, ◌≤◌, ◌<◌}
use native.Mathlib.Omega.{arith}
use Rattle.std.proofs.Math.Dec.{eqb}
use Rattle.std.proofs.Math.ListN.{take}
use Rattle.std.proofs.Math.Seq.{length_front}
use Rattle.lists.specs.Lists.{all, any, count, two_of, each}
use Rattle.lists.proofs.Laws.Lists.{all_append, count_append, two_append, any_each, any_same}
use Rattle.lists.proofs.Laws.Booleans.{and_left, and_both, or_right, clash}
use Rattle.lists.proofs.Laws.Numbers.{eqb_turned}
use Rattle.lists.proofs.Laws.Reordered.{once}
use Rattle.grammar.specs.Bytes.{between}
use Rattle.numbers.specs.Numbers.{in_keys, same_key}
use Rattle.lists.specs.Reordered.{member}
use Rattle.label_table.specs.Labels.{labels, key_here, table_keys_at, next_label}
use Rattle.label_table.specs.Walks.{row}
use Rattle.label_table.specs.Codes.{code_of, code_here, codes_at}
use Rattle.label_table.proofs.Laws.Codes.{code_small, code_same, here_in}
use Rattle.label_table.proofs.Laws.Walks.{come_more, walk_less}
use Rattle.label_table.specs.Walks.{to_come}
use Rattle.known_keys.specs.Order.{Arranged, Bounded}
use Rattle.known_keys.specs.Known.{known_in, KeysGathered, Taken}
use Rattle.known_keys.proofs.Laws.Order.{all_within, member_kept}

-- ---- Gathering.

ends : Option ℕ → ℕ
ends None = 0
ends (Some k) = 1

pub record Gathering (text : List ℕ) (from : Option ℕ) (work₀ work : List ℕ) (n : ℕ) (kid : Option ℕ) : Type 0 where
  pub so_far : take n work ++ to_come text kid ≡ to_come text from
  pub inside : n ≤ length work
  pub long : length work ≡ length work₀
  pub begun : n ≡ 0 → kid ≡ from

pub gathering_start : (text : List ℕ) (from : Option ℕ) (work : List ℕ) → Gathering text from work work 0 from
gathering_start text from work = record { so_far = refl; inside = omega arith; long = refl; begun = λ e. refl }

module _ {text : List ℕ} {from : Option ℕ} {work₀ work : List ℕ} {n : ℕ} {kid : Option ℕ} (go : Gathering text from work₀ work n kid) where
  pub gathering_done : kid ≡ None → KeysGathered text from work n None
  unfolding ends
  gathering_done e = record {
    inside = go.inside;
    parts = ap (λ k. take n work ++ to_come text k) (sym e) ∙ go.so_far;
    moves = λ f h. some n go f;
  }
    where
      some : (m : ℕ) → Gathering text from work₀ work m kid → {k : ℕ} → from ≡ Some k → 0 < m
      some zero g f = clash (ap ends (sym e ∙ g.begun refl ∙ f))
      some (suc m) g f = omega arith

  pub gathering_full : length work ≤ n → KeysGathered text from work n kid
  gathering_full h = record { inside = go.inside; parts = go.so_far; moves = λ f u. omega arith }

  pub gathering_long : length work ≡ length work₀
  gathering_long = go.long

  module _ {k : ℕ} (is_child : kid ≡ Some k) {kid₁ : Option ℕ} (e : kid₁ ≡ next_label text k) {c : ℕ}
      (q : (c ≡ code_here text k) × (c < 2 ^ 32)) (h : n < length work) where
    pub gathering_more : Gathering text from work₀ (set work n c) (n + 1) kid₁
    gathering_more =
        let l = length-set work n c in
        let i : suc n ≡ n + 1 = omega arith in
        record {
          so_far = ap (λ m. take m (set work n c) ++ to_come text kid₁) (sym i)
              ∙ ap (λ x. x ++ to_come text kid₁) (take-suc-set work n c h) ∙ append_assoc (take n work) (c ∷ []) (to_come text kid₁)
              ∙ ap (λ d. take n work ++ (d ∷ to_come text kid₁)) q.0
              ∙ ap (λ x. take n work ++ x) (sym (come_more text is_child e)) ∙ go.so_far;
          inside = omega arith;
          long = l ∙ go.long;
          begun = λ z. absurd (omega arith);
        }

pub ruleset gathering = (gathering_start, gathering_done, gathering_full, gathering_long, walk_less, gathering_more, rules)

-- ---- A turn.

small_codes : (text l : List ℕ) → all (between 0 4294967295) (each (code_here text) l) ≡ true
unfolding all each
small_codes text [] = refl
small_codes text (k ∷ l) =
    let s = code_small text k in
    and_both (and_both (le-leb 0 (code_here text k) (omega arith)) (le-leb (code_here text k) 4294967295 (omega arith))) (small_codes text l)

module _ {text : List ℕ} {from : Option ℕ} {work : List ℕ} {n : ℕ} {next : Option ℕ} (g : KeysGathered text from work n next) where
  pub codes_small : Bounded 0 4294967295 (take n work)
  codes_small =
      all_within 0 4294967295 (take n work)
      (and_left (all (between 0 4294967295) (take n work)) (all (between 0 4294967295) (to_come text next))
      (sym (all_append (between 0 4294967295) (take n work) (to_come text next)) ∙ ap (all (between 0 4294967295)) g.parts
      ∙ small_codes text (row text from)))

  pub taken_so : {ys : List ℕ} → Arranged (take n work) ys → Taken text from (ys ++ drop n work) n next
  taken_so {ys} a =
      let i = g.inside in
      let l : length (take n work) ≡ n = length-take-le n work i in
      let f : length (ys ++ drop n work) ≡ length work = length_front work ys n a.reordered.long in
      let t : take n (ys ++ drop n work) ≡ ys = take_at ys (drop n work) n (a.reordered.long ∙ l) in
      record {
        codes = take n work;
        inside = omega arith;
        as_many = l;
        parts = g.parts;
        moves = λ e u. g.moves e (omega arith);
        ordered = rw t a.ordered;
        reordered = rw t a.reordered;
        same = λ c. rw t (member_kept a.reordered c);
      }

-- a turn brings the walk on
pub taken_less : {text : List ℕ} {from : Option ℕ} {work : List ℕ} {n : ℕ} {next : Option ℕ} → Taken text from work n next
    → {k : ℕ} → from ≡ Some k → 0 < length work → length (to_come text next) < length (to_come text from)
taken_less {text} {from} {work} {n} {next} t e u =
    let m = t.moves e u in
    let a = t.as_many in
    let l : length (t.codes ++ to_come text next) ≡ length (to_come text from) = ap length t.parts in
    let s = length-append t.codes (to_come text next) in
    omega arith

-- ---- Those of a list that stand in the table, counted over the turns.

-- of two numbers one is 0, and the other 0 or 1
one_of : (x y : ℕ) → x + y ≤ 1 → cond (leb 1 (x + y)) 1 0 ≡ cond (leb 1 x) 1 0 + cond (leb 1 y) 1 0
one_of zero zero h = refl
one_of zero (suc zero) h = refl
one_of zero (suc (suc y)) h = absurd (omega arith)
one_of (suc zero) zero h = refl
one_of (suc zero) (suc y) h = absurd (omega arith)
one_of (suc (suc x)) y h = absurd (omega arith)

module _ (a b : List ℕ) (h : two_of eqb (a ++ b) ≡ false) where
  in_one : (c : ℕ) → cond (member c (a ++ b)) 1 0 ≡ cond (member c a) 1 0 + cond (member c b) 1 0
  unfolding member
  in_one c =
      let s = count_append (λ y. eqb y c) a b in
      let o = once c (a ++ b) h in
      rw s (one_of (count (λ y. eqb y c) a) (count (λ y. eqb y c) b) (omega arith))

  -- a key is in one turn at most
  pub known_parts : (l : List ℕ) → known_in (a ++ b) l ≡ known_in a l + known_in b l
  unfolding known_in count
  known_parts [] = refl
  known_parts (c ∷ l) = let e = in_one c in let r = known_parts l in omega arith

  pub two_rest : two_of eqb b ≡ false
  two_rest = or_right (two_of eqb a || any (λ x. any (eqb x) b) a) (two_of eqb b) (sym (two_append eqb a b) ∙ h)

pub known_none : (l : List ℕ) → known_in [] l ≡ 0
unfolding known_in count member
known_none [] = refl
known_none (c ∷ l) = let r = known_none l in omega arith

-- ---- A key stands in the table where its code does.

pub member_any : (c : ℕ) (l : List ℕ) → member c l ≡ any (eqb c) l
unfolding member count any
member_any c [] = refl
member_any c (y ∷ l) = go (eqb y c) (eqb_turned y c) (member_any c l)
  where
    go : (b : Bool) → b ≡ eqb c y → member c l ≡ any (eqb c) l → leb 1 (cond b 1 0 + count (λ z. eqb z c) l) ≡ (eqb c y || any (eqb c) l)
    go true e on = rw (← e) (le-leb 1 (1 + count (λ z. eqb z c) l) (omega arith))
    go false e on = let z : 0 + count (λ z. eqb z c) l ≡ count (λ z. eqb z c) l = omega arith in rw (← e, z) on

pub member_key : (k : ℤ) → in_keys k ≡ true → (text : List ℕ) (at : ℕ)
    → member (code_of k) (codes_at text at) ≡ any (same_key k) (table_keys_at text at)
unfolding codes_at code_here table_keys_at
member_key k h text at =
    member_any (code_of k) (codes_at text at)
    ∙ any_each (code_here text) (eqb (code_of k)) (labels text at)
    ∙ any_same (λ l. sym (code_same k (key_here text l) h (here_in text l))) (labels text at)
    ∙ sym (any_each (key_here text) (same_key k) (labels text at))
