-- Numbers inside CDATA: blanks and digits are read there byte by byte as outside.
use Rattle.std.specs.Prelude.{◌≡◌, List, Bool, not, drop, Some}
use Rattle.std.proofs.Math.Path.{refl, sym}
use Rattle.std.proofs.Common.{ap, ◌∙◌, rules}
use Rattle.std.proofs.Math.Bool.{true, false}
use Prim.Native.Nat.{ℕ, zero, suc, ◌+◌, ◌*◌, ◌-◌, ◌^◌, ◌≤◌, ◌<◌}
use native.Mathlib.Omega.{arith}
use borrow.Author.Tests.{eqb-true, eqb-false, leb-true, leb-false, not-false}
use Rattle.std.proofs.Math.Dec.{eqb, leb}
use Rattle.std.specs.Char.{is_ascii_digit}
use Rattle.std.proofs.Math.ListN.{length, get_or, get_or-eq_default}
use Rattle.lists.proofs.Laws.Booleans.{and_left, and_right, clash}
use Rattle.grammar.specs.Bytes.{ascii, blank}
use Rattle.grammar.proofs.Laws.Facts.{blank_in}
use Rattle.grammar.specs.Parser.{feed_at}
use Rattle.steps.specs.Step.{stepped}
use Rattle.steps.proofs.Laws.Feeds.{fed, feed_got, feed_none, feed_there, feed_not}
use Rattle.nodes.proofs.Laws.Texts.{within_letter, within_return, place_within}
use Rattle.numbers.specs.Numbers.{digit}
use Rattle.numbers.specs.Stream.{char_at, stream, word_ends, digits_by, digits_at, Plain, Stops, run_of}
use Rattle.numbers.specs.Answers.{next_number}
use Rattle.numbers.proofs.Laws.Stream.{letter_byte, char_byte, run_suc}
use Rattle.numbers.proofs.Laws.Listed.{BlankAt, next_blank, next_number_lem}
use Rattle.numbers.proofs.Laws.Listed.{byte_passed as outside_passed}
use Rattle.numbers.proofs.Laws.Read.{digit_yes, digit_low}
use Rattle.numbers.proofs.Laws.Next.{Digging, digging_start, digging_done, hurrying, starting}
use Rattle.numbers.proofs.Laws.Next.{Walking, walking_start, walking_from, walking_done, walking_inside, walking_times, walking_room}
use Rattle.numbers.proofs.Laws.Next.{walking_on}
use Rattle.numbers.specs.declared.Source.TheVariants.{Contents}
use Rattle.numbers.specs.declared.Run.{Run}
use Rattle.numbers.specs.declared.Next.{Next}
use Rattle.numbers.specs.declared.Next.TheVariants.{Number}
use Rattle.number_lists.specs.Within.{in_data, Past, Blanks, Digits}

-- a byte inside CDATA
module _ (text : List ℕ) (i : ℕ) (h : i < length text) where
  back : i ≡ in_data text i - (length text + 1)
  back = omega arith

  data_char : (get_or text i 0 ≡ 93 → ⊥) → (get_or text i 0 ≡ 13 → ⊥)
      → char_at Contents text (in_data text i) ≡ Some ((get_or text i 0), (in_data text (i + 1)))
  unfolding char_at
  data_char g f =
      let e = place_within text (in_data text i) (omega arith) back (within_letter text i h g f) in
      letter_byte text (in_data text i) (sym e)

  data_return : get_or text i 0 ≡ 13 → {j : ℕ} → Some j ≡ stepped (length text) (feed_at (ascii "\n") (drop (i + 1) text))
      → char_at Contents text (in_data text i) ≡ Some (10, (in_data text j))
  unfolding char_at
  data_return q k =
      let e = place_within text (in_data text i) (omega arith) back (within_return text i h q k) in
      letter_byte text (in_data text i) (sym e)

  data_blank : blank (get_or text i 0) ≡ true → BlankAt text (in_data text i)
  unfolding blank stepped
  data_blank b = go (eqb (get_or text i 0) 13) refl
    where
      go : (t : Bool) → eqb (get_or text i 0) 13 ≡ t → BlankAt text (in_data text i)
      go true e =
          let k : Some (length text - length (fed (drop (i + 1) text))) ≡ stepped (length text) (feed_at (ascii "\n") (drop (i + 1) text)) =
          rw (feed_got (ascii "\n") (drop (i + 1) text)) refl in
          record { byte = 10; next = _; reads = data_return (eqb-true _ 13 e) k; is_blank = refl }
      go false e =
          let q = blank_in (get_or text i 0) b in
          let other : get_or text i 0 ≡ 93 → ⊥ = λ z. omega arith in
          record { byte = get_or text i 0; next = _; reads = data_char other (eqb-false _ 13 e); is_blank = b }

  plain_passed : blank (get_or text i 0) ≡ true → (get_or text i 0 ≡ 13 → ⊥)
      → next_number text (in_data text i) ≡ next_number text (in_data text (i + 1))
  plain_passed b f =
      let q = blank_in (get_or text i 0) b in
      let other : get_or text i 0 ≡ 93 → ⊥ = λ z. omega arith in
      next_blank text (in_data text i) (data_char other f) b

-- a return and its line feed are passed as two blanks
module _ (text : List ℕ) (i : ℕ) (h : i < length text) where
  return_passed : get_or text i 0 ≡ 13 → next_number text (in_data text i) ≡ next_number text (in_data text (i + 1))
  unfolding blank
  return_passed e = go (leb (length text) (i + 1)) refl
    where
      to : {j : ℕ} → Some j ≡ stepped (length text) (feed_at (ascii "\n") (drop (i + 1) text))
          → next_number text (in_data text i) ≡ next_number text (in_data text j)
      to k = next_blank text (in_data text i) (data_return text i h e k) refl

      there : i + 1 < length text → (t : Bool) → eqb (get_or text (i + 1) 0) 10 ≡ t
          → next_number text (in_data text i) ≡ next_number text (in_data text (i + 1))
      there l true q =
          let feed = eqb-true (get_or text (i + 1) 0) 10 q in
          let other : get_or text (i + 1) 0 ≡ 13 → ⊥ = λ z. omega arith in
          to (feed_there text (i + 1) l feed) ∙ sym (plain_passed text (i + 1) l (rw feed refl) other)
      there l false q = to (feed_not text (i + 1) l (eqb-false (get_or text (i + 1) 0) 10 q))

      go : (t : Bool) → leb (length text) (i + 1) ≡ t → next_number text (in_data text i) ≡ next_number text (in_data text (i + 1))
      go true q =
          let l = leb-true (length text) (i + 1) q in
          let z : length text ≡ i + 1 = omega arith in
          to (feed_none text (i + 1) l) ∙ ap (λ j. next_number text (in_data text j)) z
      go false q = there (leb-false (length text) (i + 1) q) (eqb (get_or text (i + 1) 0) 10) refl

  byte_passed : blank (get_or text i 0) ≡ true → next_number text (in_data text i) ≡ next_number text (in_data text (i + 1))
  byte_passed b = go (eqb (get_or text i 0) 13) refl
    where
      go : (t : Bool) → eqb (get_or text i 0) 13 ≡ t → next_number text (in_data text i) ≡ next_number text (in_data text (i + 1))
      go true e = return_passed (eqb-true _ 13 e)
      go false e = plain_passed text i h b (eqb-false _ 13 e)

-- blanks
pub blanks_start : {text : List ℕ} {at : ℕ} → Blanks text at at
blanks_start = record { outside = refl; within = λ h. record { inside = h; same = refl } }

module _ {text : List ℕ} {at i : ℕ} (go : Blanks text at i) where
  pub blanks_on : {last : ℕ} → last ≤ length text → i < last → {t : Bool} → t ≡ blank (get_or text i 0) → t ≡ true → Blanks text at (i + 1)
  blanks_on l h e y =
      let f : i < length text = omega arith in
      let b : blank (get_or text i 0) ≡ true = sym e ∙ y in
      record {
        outside = go.outside ∙ outside_passed text i f b;
        within = λ a. record { inside = omega arith; same = (go.within a).same ∙ byte_passed text i f b };
      }

  pub blanks_end : {j : ℕ} → i ≡ j → Blanks text at j
  blanks_end e = rw e at go

  pub blanks_outside : next_number text at ≡ next_number text i
  blanks_outside = go.outside

  pub blanks_past : at ≤ length text → Past text at i
  blanks_past h = go.within h

pub ruleset passing_blanks = (blanks_start, blanks_on, blanks_end, rules)

pub past_start : {text : List ℕ} {at : ℕ} → at ≤ length text → Past text at at
past_start h = record { inside = h; same = refl }

pub past_on : {text : List ℕ} {at i : ℕ} → Past text at i → i < length text → {t : Bool} → t ≡ blank (get_or text i 0) → not t ≡ false
    → Past text at (i + 1)
past_on {text} {at} {i} go h {t} e n = record { inside = omega arith; same = go.same ∙ byte_passed text i h (sym e ∙ not-false t n) }

pub ruleset passing_within = (past_start, past_on, rules)

pub none_past : (text : List ℕ) (at : ℕ) → length text ≤ at → false ≡ blank (get_or text at 0)
unfolding blank
none_past text at h = rw (get_or-eq_default text 0 h) refl

pub ruleset looking = (none_past, rules)

-- a byte that is a digit
module _ {b : ℕ} {t : Bool} (e : t ≡ is_ascii_digit b) (yes : t ≡ true) where
  pub ascii_from : 48 ≤ b
  ascii_from = leb-true 48 b (and_left (leb 48 b) (leb b 57) (sym e ∙ yes))

  pub ascii_to : b ≤ 57
  ascii_to = leb-true b 57 (and_right (leb 48 b) (leb b 57) (sym e ∙ yes))

-- digits
pub record Reading (text : List ℕ) (at stop n i : ℕ) : Type 0 where
  pub walks : Walking text at stop n i
  pub digs : Digging text (in_data text at) n (i - at) (in_data text i)

pub reading_start : {text : List ℕ} {at stop : ℕ} → Stops text at stop → Reading text at stop 0 at
reading_start {text} {at} s = let z : at - at ≡ 0 = omega arith in record { walks = walking_start s; digs = rw z digging_start }

module _ {text : List ℕ} {at stop n i : ℕ} (go : Reading text at stop n i) where
  pub reading_from : at ≤ i
  reading_from = walking_from go.walks

  pub reading_done : {r : Run} → r ≡ run_of n at i → Digits text at stop r
  reading_done e =
      let f = reading_from in
      let k = go.walks.low in
      rw e (record {
        outside = walking_done go.walks refl;
        within = digging_done go.digs (omega arith) (omega arith) (λ h. omega (arith, k (omega arith)));
      })

  module _ (u : i < stop) where
    pub reading_inside : i < length text
    reading_inside = walking_inside go.walks u

    pub reading_times : n * 10 < 2 ^ 64
    reading_times = walking_times go.walks u

    module _ {b : ℕ} (is : b ≡ get_or text i 0) (lo : 48 ≤ b) (hi : b ≤ 57) {d : ℕ} (ed : d ≡ b - 48) where
      pub reading_room : n * 10 + d < 2 ^ 64
      reading_room = walking_room go.walks u is lo hi ed

      pub reading_on : Reading text at stop (n * 10 + d) (i + 1)
      unfolding digits_by
      reading_on =
          let w = walking_on go.walks u is lo hi ed in
          let f = reading_from in
          let few = w.digs.few in
          let e : i + 1 - at ≡ i - at + 1 = omega arith in
          let m : 7 - (i - at) ≡ suc (7 - (i + 1 - at)) = omega arith in
          let no_bracket : get_or text i 0 ≡ 93 → ⊥ = λ z. omega arith in
          let no_return : get_or text i 0 ≡ 13 → ⊥ = λ z. omega arith in
          let c = data_char text i reading_inside no_bracket no_return in
          record {
            walks = w;
            digs = record {
              few = few;
              bound = w.digs.bound;
              same = go.digs.same
                  ∙ rw (m, run_suc Contents text (7 - (i + 1 - at)) n (i - at) (in_data text i), c, sym is, digit_yes b lo hi, ed, e) refl;
            };
          }

pub digits_plain : {text : List ℕ} {at stop : ℕ} {run : Run} → Digits text at stop run → Plain text at stop run
digits_plain d = d.outside

pub ruleset reading = (ascii_from, ascii_to, reading_start, reading_from, reading_done, reading_inside, reading_times, reading_room, reading_on, rules)

pub ruleset starting_on = (digits_plain, starting)

pub ruleset hurrying_on = (digits_plain, hurrying)

-- digits with a blank behind them are all the digits there
module _ {text : List ℕ} {i stop : ℕ} {run : Run} (d : Digits text i stop run) {t : Bool} (et : t ≡ blank (get_or text run.next 0))
    (h : t ≡ true) where
  behind_inside : run.next < length text
  unfolding blank
  behind_inside = go (leb (length text) run.next) refl
    where
      go : (u : Bool) → leb (length text) run.next ≡ u → run.next < length text
      go true e = let z = none_past text run.next (leb-true (length text) run.next e) in clash (cc)
      go false e = leb-false (length text) run.next e

  pub behind_fits : length text * 1 < 2 ^ 63 → in_data text run.next < 2 ^ 64
  behind_fits l = omega (arith, behind_inside)

  it : BlankAt text (in_data text run.next)
  it = data_blank text run.next behind_inside (sym et ∙ h)

  abbrev all : Run
  all = record { value = run.value; count = run.count; next = in_data text run.next }

  all_of_it : all ≡ digits_at Contents text 7 0 0 (in_data text i)
  unfolding digits_at digits_by
  all_of_it = sym (d.within.same ∙ go (7 - run.count))
    where
      low : digit it.byte ≡ false
      low = let q = blank_in it.byte it.is_blank in digit_low it.byte (omega arith)

      go : (m : ℕ) → digits_at Contents text m run.value run.count (in_data text run.next) ≡ all
      go zero = refl
      go (suc m) = run_suc Contents text m run.value run.count (in_data text run.next) ∙ rw (it.reads, low) refl

  ends_here : word_ends (stream Contents text (in_data text run.next)) ≡ true
  unfolding word_ends
  ends_here = rw (char_byte Contents text (in_data text run.next) refl it.reads).splits it.is_blank

  pub within_number : {at : ℕ} → Past text at i → (run.count ≡ 0 → ⊥)
      → Number run.value (in_data text run.next) ≡ next_number text (in_data text at)
  within_number p n = sym (p.same ∙ next_number_lem text (in_data text i) all_of_it n ends_here)

pub past_inside : {text : List ℕ} {at i : ℕ} → Past text at i → i ≤ length text
past_inside p = p.inside

pub within_slow : {text : List ℕ} {at i : ℕ} → Past text at i → {r : Next} → r ≡ next_number text (in_data text i)
    → r ≡ next_number text (in_data text at)
within_slow p e = e ∙ sym p.same

pub ruleset taking = (blanks_past, behind_fits, within_number, past_inside, within_slow, rules)

-- by the place
pub late_within : (text : List ℕ) (at : ℕ) → length text < at → {i : ℕ} → i ≡ at - (length text + 1) → {r : Next}
    → r ≡ next_number text (in_data text i) → r ≡ next_number text at
late_within text at h {i} e q = let z : in_data text i ≡ at = omega arith in q ∙ ap (next_number text) z

pub ruleset coming_late = (late_within, rules)
