-- The next number of a list where plain bytes write it: six digits counted, a blank on each side, all in one number.
use Rattle.std.specs.Prelude.{◌≡◌, List, Bool, not, ℕ, ◌+◌, ◌*◌, ◌-◌, ◌/◌, ◌%◌, ◌^◌, ◌≤◌, ◌<◌, length, get_or}
use Rattle.std.proofs.Math.Path.{refl}
use Rattle.std.proofs.Common.{sym, ap, ◌∙◌, arith, rules, eqb-true, eq-eqb, ne_eqb}
use Rattle.std.proofs.Math.Bool.{true, false}
use Rattle.std.proofs.lemmas.Bool.{not-false}
use Rattle.std.proofs.Math.Dec.{eqb}
use Rattle.grammar.specs.Bytes.{blank}
use Rattle.numbers.specs.Stream.{Few, EightLeft, run_of}
use Rattle.numbers.specs.Quick.{space_or_feed, FromZero, SixAhead, Six, Quick}
use Rattle.numbers.specs.Answers.{next_number}
use Rattle.numbers.proofs.Laws.Cuts.{powers}
use Rattle.numbers.proofs.Laws.Next.{skipping_start, skipping_on, quick_number}
use Rattle.numbers.proofs.Laws.Next.{Digging, digging_start, digging_done, digging_times, digging_room, digging_on}
use Rattle.numbers.specs.declared.Run.{Run}
use Rattle.numbers.specs.declared.Next.TheVariants.{Number}

-- the digits are at most 9 above the first
module _ {b d : ℕ} (f : FromZero b d) (few : d ≤ 9) where
  from_low : 48 ≤ b
  from_low = omega (arith, f.told, f.byte)

  from_high : b ≤ 57
  from_high = omega (arith, f.told, f.byte)

  from_value : d ≡ b - 48
  from_value = omega (arith, f.told, f.byte)

-- six digits, counted
pub record Counted (text : List ℕ) (at n k : ℕ) : Type 0 where
  pub six : SixAhead text at
  pub few : k ≤ 6
  pub digs : Digging text at n k (at + k)

pub counted_start : {text : List ℕ} {at : ℕ} → SixAhead text at → Counted text at 0 0
counted_start {text} {at} s = let z : at + 0 ≡ at = omega arith in record { six = s; few = omega arith; digs = rw z digging_start }

module _ {text : List ℕ} {at n k : ℕ} (go : Counted text at n k) where
  pub counted_fits : at + k < 2 ^ 64
  counted_fits = omega (arith, go.few, go.six.fits)

  pub counted_done : {r : Run} → r ≡ run_of n at (at + k) → Six text at r
  counted_done e =
      let z : at + k - at ≡ k = omega arith in
      let f = go.few in
      rw (e, z) (record {
        plain = digging_done go.digs (omega arith) (sym z) (λ _. omega arith);
        ahead = go.six;
        behind = omega (arith, go.six.inside);
      })

  module _ (u : k < 6) where
    pub counted_inside : at + k < length text
    counted_inside = omega (arith, go.six.inside)

    pub counted_times : n * 10 < 2 ^ 64
    counted_times = digging_times go.digs (omega arith)

    module _ {d : ℕ} (f : FromZero (get_or text (at + k) 0) d) (few : d ≤ 9) where
      pub counted_room : n * 10 + d < 2 ^ 64
      counted_room = digging_room go.digs (omega arith) counted_inside refl (from_low f few) (from_high f few) (from_value f few)

      pub counted_on : Counted text at (n * 10 + d) (k + 1)
      counted_on =
          let e : at + (k + 1) ≡ at + k + 1 = omega arith in
          record {
            six = go.six;
            few = omega arith;
            digs = rw e (digging_on go.digs (omega arith) counted_inside refl (from_low f few) (from_high f few) (from_value f few));
          }

pub ruleset counting = (counted_start, counted_fits, counted_done, counted_inside, counted_times, counted_room, counted_on, rules)

-- in one number
module _ {run : Run} (f : Few run) where
  small_value : run.value < 10000000
  small_value = let q : 10 ^ run.count ≤ 10 ^ 7 = powers run.count 7 f.few in omega (arith, f.bound)

  pub packed_count : run.count + 1 < 2 ^ 64
  packed_count = omega (arith, f.few)

  pub packed_times : run.value * 16 < 2 ^ 64
  packed_times = omega (arith, small_value)

  pub packed_sum : run.value * 16 + (run.count + 1) < 2 ^ 64
  packed_sum = omega (arith, small_value, f.few)

pub ruleset packing = (packed_count, packed_times, packed_sum, rules)

-- a space or a line feed
module _ (b : ℕ) where
  pub by_space : b ≡ 32 → true ≡ space_or_feed b
  unfolding space_or_feed
  by_space e = rw (eq-eqb b 32 e) refl

  pub by_feed : (b ≡ 32 → ⊥) → eqb b 10 ≡ space_or_feed b
  unfolding space_or_feed
  by_feed n = rw (ne_eqb b 32 n) refl

  pub space_or_feed_blank : space_or_feed b ≡ true → blank b ≡ true
  unfolding space_or_feed blank
  space_or_feed_blank h = go (eqb b 32) refl
    where
      go : (t : Bool) → eqb b 32 ≡ t → blank b ≡ true
      go true e = rw e refl
      go false e = rw (eqb-true b 10 (rw e at h)) refl

pub ruleset spacing = (by_space, by_feed, rules)

-- one blank, digits, a blank
pub quickly_not : {text : List ℕ} {at : ℕ} → Quick text at 0
quickly_not = record { told = λ h. absurd (h refl); fits = λ h. absurd (h refl) }

module _ {text : List ℕ} {last : ℕ} (b : EightLeft text last) {at : ℕ} (before : at < last) where
  pub quickly_inside : at < length text
  quickly_inside = omega (arith, b.inside)

  pub quickly_fits : at + 1 < 2 ^ 64
  quickly_fits = omega (arith, b.fits)

  pub quickly_six : SixAhead text (at + 1)
  quickly_six = let h = b.ahead (omega arith) in record { inside = omega arith; fits = omega (arith, b.fits) }

module _ {text : List ℕ} {from : ℕ} {run : Run} (p : Six text from run) where
  pub quickly_behind : run.next < length text
  quickly_behind = p.behind

  pub quickly_few : Few run
  quickly_few = p.plain.seven

  pub quickly_told : {at : ℕ} → from ≡ at + 1 → {t : Bool} → t ≡ space_or_feed (get_or text at 0) → not t ≡ false → (run.count ≡ 0 → ⊥)
      → {u : Bool} → u ≡ space_or_feed (get_or text run.next 0) → u ≡ true → {r : ℕ} → r ≡ run.value * 16 + (run.count + 1)
      → Quick text at r
  quickly_told {at} ef {t} e n some {u} e₂ h₂ {r} er =
      let here : at < length text = omega (arith, p.ahead.inside) in
      let all : length text ≤ length text = omega arith in
      let b : blank (get_or text at 0) ≡ true = space_or_feed_blank _ (sym e ∙ not-false t n) in
      let b₂ : blank (get_or text run.next 0) ≡ true = space_or_feed_blank _ (sym e₂ ∙ h₂) in
      let over : next_number text at ≡ next_number text (at + 1) = (skipping_on (skipping_start all) here (sym b) refl).same in
      let same : next_number text at ≡ next_number text from = over ∙ ap (next_number text) (sym ef) in
      let q : Number run.value run.next ≡ next_number text at = quick_number p.plain p.behind b₂ at same some in
      let few = p.plain.seven.few in
      let d : r / 16 ≡ run.value = omega arith in
      let m : at + r % 16 ≡ run.next = omega (arith, p.plain.spans, p.plain.ahead) in
      record { told = λ _. rw (d, m) q; fits = λ _. omega (arith, m, p.plain.within (omega arith), p.ahead.fits) }

pub ruleset quickly = (quickly_not, quickly_inside, quickly_fits, quickly_six, quickly_behind, quickly_few, quickly_told, rules)

-- what is told so
module _ {text : List ℕ} {at q : ℕ} (h : Quick text at q) (n : q ≡ 0 → ⊥) where
  pub telling : Number (q / 16) (at + q % 16) ≡ next_number text at
  telling = h.told n

  pub telling_fits : at + q % 16 < 2 ^ 64
  telling_fits = h.fits n

pub ruleset telling_on = (telling, telling_fits, rules)
