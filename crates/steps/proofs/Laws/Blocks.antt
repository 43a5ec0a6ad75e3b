-- Blocks of sixteen bytes: one law for each way through the code, for any test of a byte.
use Rattle.std.specs.Prelude.{◌≡◌, refl, List, [], ◌∷◌, ◌++◌, ℕ, ◌+◌, ◌-◌, ◌≤◌, ◌<◌, Bool, true, false, not, ◌&&◌, ◌||◌, eqb, leb, ltb, length, drop, get_or}
use Rattle.std.proofs.Common.{ap, sym, ◌∙◌, rules, eqb-true, ltb-true, ne_eqb, take-append-drop}
use native.Mathlib.Omega.{arith}
use Rattle.std.proofs.lemmas.Bool.{not-false, not-true}
use Rattle.std.proofs.Math.Seq.{take-add, drop-drop}
use Rattle.lists.specs.Lists.{all}
use Rattle.lists.proofs.Laws.Lists.{all_append}
use Rattle.lists.proofs.Laws.Booleans.{and_left, and_right, and_both, and_true, or_elim, or_first, or_second}
use Rattle.grammar.specs.Bytes.{blank, special}
use Rattle.grammar.specs.Characters.{lead1}
use Rattle.grammar.specs.Read.{span}
use Rattle.steps.specs.Step.{stepped}
use Rattle.steps.proofs.Laws.Step.{at_byte}
use Rattle.steps.specs.Noted.{part}
use Rattle.steps.specs.Leaves.{data_plain}
use Rattle.steps.specs.Pieces.{plain}
use Rattle.steps.specs.Blocks.{through, Through, other, shown, quick}
use Rattle.steps.proofs.Laws.Steps.{Spanning, span_on, span_start, span_all, span_rest, span_more, span_stops}

-- BYTES IN A ROW
module _ (p : ℕ → Bool) (text : List ℕ) where
  through_none : (at : ℕ) → through p text at at ≡ true
  unfolding through all
  through_none at = let z : at - at ≡ 0 = omega arith in rw z

  through_one : (i : ℕ) → i < length text → through p text i (i + 1) ≡ p (get_or text i 0)
  unfolding through all
  through_one i h = let n : i + 1 - i ≡ 1 = omega arith in rw (n, at_byte text i h) (and_true (p (get_or text i 0)))

  through_join : (at i to : ℕ) → at ≤ i → i ≤ to → through p text at to ≡ (through p text at i && through p text i to)
  unfolding through
  through_join at i to h k =
      let n : to - at ≡ i - at + (to - i) = omega arith in
      let m : at + (i - at) ≡ i = omega arith in
      rw (n, take-add (i - at) (to - i) (drop at text), drop-drop (i - at) at text, m) (all_append p (part at i text) (part i to text))

-- two tests at once
all_both : (p q : ℕ → Bool) (l : List ℕ) → all (λ a. p a && q a) l ≡ (all p l && all q l)
unfolding all
all_both p q [] = refl
all_both p q (a ∷ l) = ap (λ t. (p a && q a) && t) (all_both p q l) ∙ turn (p a) (q a) (all p l) (all q l)
  where
    turn : (a b c d : Bool) → ((a && b) && (c && d)) ≡ ((a && c) && (b && d))
    turn false b c d = refl
    turn true false false d = refl
    turn true false true d = refl
    turn true true c d = refl

-- what no byte that passes changes, none of them changes
all_passed : {A : Type 0} (p : ℕ → Bool) (f : List ℕ → A) → ((a : ℕ) (s : List ℕ) → p a ≡ true → f (a ∷ s) ≡ f s)
    → (w s : List ℕ) → all p w ≡ true → f (w ++ s) ≡ f s
unfolding all
all_passed p f g [] s h = refl
all_passed p f g (a ∷ w) s h = g a (w ++ s) (and_left (p a) (all p w) h) ∙ all_passed p f g w s (and_right (p a) (all p w) h)

pub through_passed : {A : Type 0} (p : ℕ → Bool) (f : List ℕ → A) → ((a : ℕ) (s : List ℕ) → p a ≡ true → f (a ∷ s) ≡ f s)
    → {text : List ℕ} {at to : ℕ} → Through p text at to → f (drop at text) ≡ f (drop to text)
unfolding through
through_passed p f g {text} {at} {to} k =
    let a = k.ahead in
    let m : at + (to - at) ≡ to = omega arith in
    let parts : drop at text ≡ part at to text ++ drop to text = sym (take-append-drop (to - at) (drop at text))
    ∙ ap (λ s. part at to text ++ s) (drop-drop (to - at) at text ∙ ap (λ n. drop n text) m) in
    ap f parts ∙ all_passed p f g (part at to text) (drop to text) k.pass

-- ONE BLOCK: `free` tells of the first `k` of its bytes
pub record Blocking (p : ℕ → Bool) (text : List ℕ) (at k : ℕ) (free : Bool) : Type 0 where
  pub within : k ≤ 16
  pub inside : at + 16 ≤ length text
  pub so_far : free ≡ through p text at (at + k)

pub block_start : (p : ℕ → Bool) {text : List ℕ} {at : ℕ} → at + 16 ≤ length text → Blocking p text at 0 true
block_start p {text} {at} h = let z : at + 0 ≡ at = omega arith in
    record { within = omega arith; inside = h; so_far = rw z (sym (through_none p text at)) }

module _ {p : ℕ → Bool} {text : List ℕ} {at k : ℕ} {free : Bool} (go : Blocking p text at k free) where
  pub block_done : 16 ≤ k → free ≡ through p text at (at + 16)
  block_done h = let l = go.within in let z : k ≡ 16 = omega arith in go.so_far ∙ ap (λ n. through p text at (at + n)) z

  module _ (u : k < 16) where
    pub block_inside : at + k < length text
    block_inside = let h = go.inside in omega arith

    block_on : Blocking p text at (k + 1) (free && p (get_or text (at + k) 0))
    block_on =
        let a : at + (k + 1) ≡ at + k + 1 = omega arith in
        let join = through_join p text at (at + k) (at + k + 1) (omega arith) (omega arith) in
        record {
          within = omega arith;
          inside = go.inside;
          so_far = rw (a, join, through_one p text (at + k) block_inside, sym go.so_far);
        }

module _ {text : List ℕ} {at k : ℕ} {free : Bool} where
  pub other_on : (b : ℕ) → Blocking (other b) text at k free → k < 16
      → Blocking (other b) text at (k + 1) (free && not (eqb (get_or text (at + k) 0) b))
  unfolding other
  other_on b go u = block_on go u

  pub shown_on : Blocking shown text at k free → k < 16
      → Blocking shown text at (k + 1)
      (free && ((ltb 31 (get_or text (at + k) 0) && leb (get_or text (at + k) 0) 127) || eqb (get_or text (at + k) 0) 10))
  unfolding shown
  shown_on go u = block_on go u

pub ruleset blocking = (block_start, block_done, block_inside, other_on, shown_on, rules)

-- four tests of one block
pub quick_block : (text : List ℕ) (at to : ℕ) {a b c d : Bool} → a ≡ through (other 60) text at to → b ≡ through (other 38) text at to
    → c ≡ through (other 93) text at to → d ≡ through shown text at to → (a && (b && (c && d))) ≡ through quick text at to
unfolding through quick
quick_block text at to ha hb hc hd =
    let l = part at to text in
    rw (
      ha,
      hb,
      hc,
      hd,
      all_both (other 60) (λ a. other 38 a && (other 93 a && shown a)) l,
      all_both (other 38) (λ a. other 93 a && shown a) l,
      all_both (other 93) shown l,
    )

pub ruleset quick_blocks = (quick_block, rules)

-- BLOCK BY BLOCK
pub through_start : (p : ℕ → Bool) (text : List ℕ) (at : ℕ) → Through p text at at
through_start p text at = record { ahead = omega arith; pass = through_none p text at }

pub through_on : {p : ℕ → Bool} {text : List ℕ} {at i : ℕ} → Through p text at i → {t : Bool} → t ≡ through p text i (i + 16)
    → not t ≡ false → Through p text at (i + 16)
through_on {p} {text} {at} {i} k {t} e n =
    let a = k.ahead in
    record {
      ahead = omega arith;
      pass = through_join p text at i (i + 16) a (omega arith) ∙ and_both k.pass (sym e ∙ not-false t n);
    }

pub ruleset by_blocks = (through_start, through_on, rules)

-- PLAIN TEXT AND CDATA
quick_plain : (a : ℕ) → quick a ≡ true → plain a ≡ true
unfolding quick plain lead1 blank special other shown
quick_plain a h =
    let h₁ = and_right (not (eqb a 60)) _ h in
    let h₂ = and_right (not (eqb a 38)) _ h₁ in
    let h₃ = and_right (not (eqb a 93)) _ h₂ in
    let tag = not-true (eqb a 60) (and_left (not (eqb a 60)) _ h) in
    let reference = not-true (eqb a 38) (and_left (not (eqb a 38)) _ h₁) in
    let bracket = not-true (eqb a 93) (and_left (not (eqb a 93)) _ h₂) in
    or_elim (plain a ≡ true) (ltb 31 a && leb a 127) (eqb a 10) h₃
    (λ range. and_both (or_second (blank a) range) (rw (tag, reference, bracket)))
    (λ feed. and_both (or_first (blank a) _ (rw (eqb-true a 10 feed))) (rw (tag, reference, bracket)))

quick_data : (a : ℕ) → quick a ≡ true → data_plain a ≡ true
unfolding quick data_plain lead1 blank other shown
quick_data a h =
    let h₂ = and_right (not (eqb a 38)) _ (and_right (not (eqb a 60)) _ h) in
    let h₃ = and_right (not (eqb a 93)) _ h₂ in
    let bracket = not-true (eqb a 93) (and_left (not (eqb a 93)) _ h₂) in
    or_elim (data_plain a ≡ true) (ltb 31 a && leb a 127) (eqb a 10) h₃
    (λ range.
    let above = ltb-true 31 a (and_left (ltb 31 a) _ range) in
    let return = ne_eqb a 13 (λ e. omega arith) in
    and_both (or_second (blank a) range) (rw (bracket, return)))
    (λ feed. rw (eqb-true a 10 feed))

-- what each quick byte passes, blocks of them pass
quick_through : (p : ℕ → Bool) → ((a : ℕ) → quick a ≡ true → p a ≡ true) → {text : List ℕ} {at i : ℕ} → Through quick text at i
    → Spanning p text at i
quick_through p q {text} k = record {
  same_end = through_passed quick (λ s. stepped (length text) (span p s)) (λ a s h. span_on p (length text) a s (q a h)) k;
}

pub span_through : {text : List ℕ} {at i : ℕ} → Through quick text at i → Spanning plain text at i
span_through = quick_through plain quick_plain

pub data_through : {text : List ℕ} {at i : ℕ} → Through quick text at i → Spanning data_plain text at i
data_through = quick_through data_plain quick_data

-- behind the blocks, and before them
pub ruleset far_spanning = (span_through, span_all, span_more, span_stops, rules)

pub ruleset far_data_spanning = (data_through, span_all, span_more, span_stops, rules)

pub ruleset near_spanning = (span_start, span_rest, span_more, span_stops, rules)
