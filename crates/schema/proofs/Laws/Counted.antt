-- What the tally says of the children passed: how often each line is met, in which order, and what was seen.
use Rattle.std.specs.Prelude.{◌≡◌, List, [], ◌∷◌, Bool, ◌&&◌, ◌||◌, ℕ, zero, suc, ◌+◌, ◌-◌, ◌<◌, ◌≤◌, eqb, leb, get_or, length}
use Rattle.std.proofs.Math.Path.{refl}
use Rattle.std.proofs.Common.{◌∙◌, arith}
use Rattle.std.proofs.Math.Bool.{true, false, cond}
use Rattle.lists.specs.Lists.{all, any, count, count_up}
use Rattle.lists.proofs.Laws.Booleans.{or_assoc}
use Rattle.grammar.specs.Document.{Element}
use Rattle.grammar.specs.Look.{is, name_of}
use Rattle.schema.specs.Schema.{once, at_most_once, any_times, at_least_once, needed_below, stands_so, child_shaped, row_place, in_order_of}
use Rattle.schema.specs.Schema.{orderly}
use Rattle.schema.proofs.Laws.Everywhere.{called}
use Rattle.schema.specs.Table.{word_at, entry_word, line_cell, line_at, lines_of_kind, lines_from, lines_to, order_at, order_by, times_at}
use Rattle.schema.specs.Table.{watched_word}
use Rattle.schema.specs.Lines.{line_name, in_turn, order_from}
use Rattle.schema.specs.Tallied.{stands_by, line_stands, times_by, here_one, watched_name, holding, OneMore}
use Rattle.schema.specs.Parts.{times_right, order_right}
use Rattle.schema.specs.declared.Tally.{Tally}

-- THE LAW OF TIMES
unfoldable pub named_line : (t l : List ℕ) → ℕ → Element → Bool
named_line t l i e = is (line_name t l i) (name_of e)

module _ (t l : List ℕ) (es : List Element) (n : ℕ) where
  times_are : (x : ℕ) → stands_so (times_at t l x) n es ≡ stands_by x n (any (holding t l) es)
  unfolding times_at stands_by stands_so holding
  times_are x = go (eqb x 0) (eqb x 1) (eqb x 2) (eqb x 3)
    where
      go : (a b c d : Bool)
          → stands_so (cond a once (cond b at_most_once (cond c any_times (cond d at_least_once (needed_below (watched_word t l)))))) n es
          ≡ cond a (eqb n 1) (cond b (leb n 1) (cond c true (cond d (leb 1 n) (cond (any (holding t l) es) (eqb n 1) (leb n 1)))))
      go true b c d = refl
      go false true c d = refl
      go false false true d = refl
      go false false false true = refl
      go false false false false = refl

all_alike : {A : Type 0} (p : A → Bool) (f : ℕ → A) (q : ℕ → Bool) (n i : ℕ) → ((j : ℕ) → i ≤ j → j < i + n → p (f j) ≡ q j)
    → all p (count_up f i n) ≡ all q (count_up (λ j. j) i n)
unfolding all count_up
all_alike p f q zero i h = refl
all_alike p f q (suc n) i h = rw (h i (omega arith) (omega arith), all_alike p f q n (suc i) (λ j u v. h j (omega arith) (omega arith)))

line_stands_lem : (t l : List ℕ) (es : List Element) (from : ℕ) (counts : List ℕ) (met : Bool) (j : ℕ)
    → count (named_line t l j) es ≡ get_or counts (j - from) 0 → any (holding t l) es ≡ met
    → child_shaped es (line_at t l j) ≡ line_stands t from counts met j
unfolding line_stands child_shaped line_at named_line entry_word
line_stands_lem t l es from counts met j c m =
    times_are t l es (count (λ e. is (word_at t l (line_cell t j 0)) (name_of e)) es) (line_cell t j 1) ∙ rw (c, m)

pub times_law : (t l : List ℕ) (k from to : ℕ) → from ≡ lines_from t k → to ≡ lines_to t k
    → (es : List Element) (counts : List ℕ) (met : Bool)
    → ((p : ℕ) → from + p < to → count (named_line t l (from + p)) es ≡ get_or counts p 0) → any (holding t l) es ≡ met
    → times_right t l k es ≡ times_by t from to counts met
unfolding times_right times_by lines_of_kind
times_law t l k from to ef et es counts met c m =
    rw (← ef, ← et) (all_alike (child_shaped es) (line_at t l) (line_stands t from counts met) (to - from) from one)
  where
    one : (j : ℕ) → from ≤ j → j < from + (to - from) → child_shaped es (line_at t l j) ≡ line_stands t from counts met j
    one j u v = line_stands_lem t l es from counts met j (let z : from + (j - from) ≡ j = omega arith in rw z at (c (j - from) (omega arith))) m

-- IN ORDER
pub order_start : (t l : List ℕ) (k : ℕ) (es : List Element) → order_right t l k es ≡ order_from (order_at t k) (lines_of_kind t l k) 0 es
unfolding order_right orderly order_by order_from
order_start t l k es = go (order_at t k)
  where
    go : (o : ℕ) → orderly (order_by o) (lines_of_kind t l k) es ≡ order_from o (lines_of_kind t l k) 0 es
    go zero = refl
    go (suc o) = refl

order_more : (t l : List ℕ) (k o last : ℕ) (e : Element) (es : List Element)
    → order_from o (lines_of_kind t l k) last (e ∷ es)
    ≡ (in_turn o last (row_place (lines_of_kind t l k) e) && order_from o (lines_of_kind t l k) (row_place (lines_of_kind t l k) e) es)
unfolding order_from in_turn in_order_of
order_more t l k zero last e es = refl
order_more t l k (suc o) last e es = refl

pub order_end : (t l : List ℕ) (k o last : ℕ) → order_from o (lines_of_kind t l k) last [] ≡ true
unfolding order_from in_order_of
order_end t l k zero last = refl
order_end t l k (suc o) last = refl

-- THE TALLY OF THE CHILDREN PASSED
pub record Counted (t l : List ℕ) (kind from to : ℕ) (y : Tally) (es rest : List Element) : Type 0 where
  pub size : length y.counts ≡ 8
  pub lines : (p : ℕ) → from + p < to → count (named_line t l (from + p)) es ≡ get_or y.counts p 0 + count (named_line t l (from + p)) rest
  pub seen_so : any (called (watched_word t l)) es ≡ (y.seen || any (called (watched_word t l)) rest)
  pub met_so : any (holding t l) es ≡ (y.met || any (holding t l) rest)
  pub order_so : order_right t l kind es ≡ order_from (order_at t kind) (lines_of_kind t l kind) y.place rest

add_three : (a b c : ℕ) → a + (b + c) ≡ a + b + c
add_three a b c = omega arith

module _ {t l : List ℕ} {kind from to : ℕ} {y : Tally} {es rest : List Element} {e : Element}
    (go : Counted t l kind from to y es (e ∷ rest)) where
  pub counted_turn : in_turn (order_at t kind) y.place (row_place (lines_of_kind t l kind) e) ≡ false → order_right t l kind es ≡ false
  counted_turn h = go.order_so ∙ order_more t l kind (order_at t kind) y.place e rest ∙ rw h

  pub counted_on : in_turn (order_at t kind) y.place (row_place (lines_of_kind t l kind) e) ≡ true → {z : Tally}
      → OneMore t l (name_of e) from to y z → z.place ≡ row_place (lines_of_kind t l kind) e
      → {b : Bool} → b ≡ holding t l e
      → Counted t l kind from to (record { counts = z.counts; place = z.place; seen = z.seen; met = z.met || b }) es
      rest
  unfolding count any here_one named_line watched_name called
  counted_on h {z} m q {b} hb = record {
    size = m.size;
    lines = λ p u. go.lines p u ∙ rw (m.counted p u) (add_three (get_or y.counts p 0) _ _);
    seen_so = go.seen_so ∙ rw m.seen_is (or_assoc y.seen _ _);
    met_so = go.met_so ∙ rw (m.met_is, hb) (or_assoc y.met _ _);
    order_so = go.order_so ∙ order_more t l kind (order_at t kind) y.place e rest ∙ rw (h, q);
  }
