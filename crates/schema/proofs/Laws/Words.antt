-- The number of a word of a form: by its front part, and by its rest.
use Rattle.std.specs.Prelude.{◌≡◌, List, [], ◌∷◌, ◌++◌, Bool, true, false, ◌&&◌, eqb, drop, get_or, Option, Some, None, ℕ}
use Rattle.std.proofs.Math.Path.{refl, ap₂}
use Rattle.std.proofs.Common.{ap, sym, ◌∙◌, arith, rules, eq-eqb}
use Rattle.std.proofs.Math.Bool.{cond}
use Rattle.std.proofs.lemmas.Bool.{false≢true}
use Prim.Native.Nat.{ℕ, zero, suc, ◌+◌, ◌-◌, ◌<◌, ◌≤◌}
use Rattle.lists.specs.Lists.{count_up}
use Rattle.grammar.specs.Bytes.{ascii, begins}
use Rattle.grammar.specs.Look.{Word, is}
use Rattle.grammar.specs.Parser.{same_bytes}
use Rattle.nodes.specs.Values.{value_there, tells}
use Rattle.nodes.specs.Fronts.{begins_at_lem}
use Rattle.nodes.proofs.Laws.Fronts.{begins_so, begins_not}
use Rattle.schema.specs.Words.{number_in}
use Rattle.schema.specs.Letters.{lettered}
use Rattle.schema.specs.Table.{word_at, front_at, fronted_at, form_cell, words_at}

-- WORDS BEHIND A FRONT PART
lettered_both : (a b : List ℕ) → ascii (lettered (a ++ b)) ≡ ascii (lettered a) ++ ascii (lettered b)
unfolding lettered
lettered_both [] b = refl
lettered_both (x ∷ a) b = ap₂ (λ c l. c ∷ l) refl (lettered_both a b)

same_behind : (f x w : List ℕ) → same_bytes (f ++ x) (f ++ w) ≡ same_bytes x w
unfolding same_bytes
same_behind [] x w = refl
same_behind (a ∷ f) x w = rw (eq-eqb a a refl) (same_behind f x w)

other_front : (f x w : List ℕ) → begins f x ≡ false → same_bytes x (f ++ w) ≡ false
unfolding same_bytes begins
other_front [] x w h = absurd (false≢true (sym h))
other_front (a ∷ f) [] w h = refl
other_front (a ∷ f) (b ∷ x) w h = go (eqb b a) h (λ k. other_front f x w k)
  where
    go : (t : Bool) → (t && begins f x) ≡ false → (begins f x ≡ false → same_bytes x (f ++ w) ≡ false) → (t && same_bytes x (f ++ w)) ≡ false
    go true k ih = ih k
    go false k ih = refl

module _ (t l : List ℕ) (front : ℕ) where
  fronted : (w : ℕ) → ascii (fronted_at t l front w) ≡ ascii (front_at t l front) ++ ascii (word_at t l w)
  unfolding fronted_at front_at word_at
  fronted w = lettered_both _ _

  -- a word is the front part and a rest: by the rest
  is_behind : (w : ℕ) (x : Word) → is (fronted_at t l front w) (ascii (front_at t l front) ++ x) ≡ is (word_at t l w) x
  unfolding is
  is_behind w x = rw (fronted w) (same_behind (ascii (front_at t l front)) x (ascii (word_at t l w)))

  -- what does not begin with the front part is none of the words
  is_not : (w : ℕ) (x : Word) → begins (ascii (front_at t l front)) x ≡ false → is (fronted_at t l front w) x ≡ false
  unfolding is
  is_not w x h = rw (fronted w) (other_front (ascii (front_at t l front)) x (ascii (word_at t l w)) h)

  -- THE LAWS: the number of the front part with a rest is the place of the rest; what begins otherwise is none of them
  rest_number : (n from : ℕ) (x : Word)
      → number_in (count_up (fronted_at t l front) from n) (ascii (front_at t l front) ++ x) ≡ number_in (count_up (word_at t l) from n) x
  unfolding count_up number_in
  rest_number zero from x = refl
  rest_number (suc n) from x = ap₂ (λ b r. cond b 0 (suc r)) (is_behind from x) (rest_number n (suc from) x)

  no_number : (n from : ℕ) (x : Word) → begins (ascii (front_at t l front)) x ≡ false → number_in (count_up (fronted_at t l front) from n) x ≡ n
  unfolding count_up number_in
  no_number zero from x h = refl
  no_number (suc n) from x h = ap₂ (λ b r. cond b 0 (suc r)) (is_not from x h) (no_number n (suc from) x h)

  -- THE PLACE of the value at a position: behind the front part that it begins with, or none
  module _ (text : List ℕ) (v from to : ℕ) {w : List ℕ} (we : w ≡ ascii (front_at t l front)) {f : Option ℕ} (fe : f ≡ begins_at_lem text v w) where
    pub place_behind : {i : ℕ} → f ≡ Some i → {q : ℕ} → q ≡ get_or text v 0 → {p : ℕ}
        → p ≡ from + number_in (count_up (word_at t l) from (to - from)) (tells q (drop i text))
        → p ≡ from + number_in (count_up (fronted_at t l front) from (to - from)) (value_there text v)
    place_behind {i} h {q} e {p} k =
        k ∙ ap (λ n. from + n) (sym (rw (begins_so text v w fe h, we, ← e) (rest_number (to - from) from (tells q (drop i text)))))

    nowhere : f ≡ None → number_in (count_up (fronted_at t l front) from (to - from)) (value_there text v) ≡ to - from
    nowhere h = no_number (to - from) from (value_there text v) (rw we at (begins_not text v w fe h))

    pub place_none : f ≡ None → from < to → to ≡ from + number_in (count_up (fronted_at t l front) from (to - from)) (value_there text v)
    place_none h k = let z = nowhere h in omega arith

    pub place_empty : f ≡ None → to ≤ from → from ≡ from + number_in (count_up (fronted_at t l front) from (to - from)) (value_there text v)
    place_empty h k = let z = nowhere h in omega arith

pub ruleset placing = (place_behind, place_none, place_empty, rules)

-- THE NUMBER
pub number_behind : {from : ℕ} (n : ℕ) {p : ℕ} → p ≡ from + n → from ≤ p
number_behind n e = omega arith

pub number_is : (t l : List ℕ) (x : Word) {f g : ℕ} → g ≡ f → {from : ℕ} → from ≡ form_cell t g 1 → {to : ℕ} → to ≡ form_cell t g 2
    → {front : ℕ} → front ≡ form_cell t g 3 → {p : ℕ} → p ≡ from + number_in (count_up (fronted_at t l front) from (to - from)) x
    → p - from ≡ number_in (words_at t l f) x
unfolding words_at
number_is t l x e {from} f {to} g {front} k {p} h =
    let z : p - from ≡ number_in (count_up (fronted_at t l front) from (to - from)) x = omega arith in z ∙ rw (f, g, k, e)

pub ruleset numbered = (number_behind, number_is, rules)
