-- The turns of the loops that read decoded bytes: a letter, a run of digits, a run of blanks.
use Rattle.std.specs.Prelude.{◌≡◌, refl, List, Bool, true, false, not, ℕ, suc, ◌+◌, ◌*◌, ◌-◌, ◌^◌, ◌≤◌, ◌<◌, leb, Option, Some, None}
use Rattle.std.proofs.Math.Path.{sym}
use Rattle.std.proofs.Common.{◌∙◌, rules}
use Rattle.std.proofs.Math.Bool.{and-false}
use native.Mathlib.Omega.{arith}
use borrow.Author.Tests.{le-leb, lt-leb, leb-true, not-true, not-false}
use Rattle.std.specs.Char.{is_ascii_digit}
use Rattle.lists.proofs.Laws.Booleans.{and_left, and_right}
use Rattle.grammar.specs.Bytes.{blank}
use Rattle.nodes.specs.Texts.{left, text_step}
use Rattle.nodes.proofs.Laws.TextSteps.{text_skip}
use Rattle.nodes.specs.Values.{decoded_at}
use Rattle.nodes.specs.declared.Text.{Text}
use Rattle.nodes.specs.declared.Text.TheVariants.{Stop, Skip, Letter}
use Rattle.numbers.specs.Numbers.{digit}
use Rattle.numbers.proofs.Laws.Cuts.{grown, powers}
use Rattle.numbers.specs.Stream.{letter_at, char_at, stream, left_in, behind, leading, word_ends, digits_by, digits_at}
use Rattle.numbers.proofs.Laws.Stream.{letter_stop, letter_byte, letter_skip, char_byte, char_end, behind_none, behind_one}
use Rattle.numbers.proofs.Laws.Stream.{run_suc}
use Rattle.numbers.specs.declared.Source.{Source}
use Rattle.numbers.specs.declared.Source.TheVariants.{Value, Contents}
use Rattle.numbers.specs.Read.{Seeking, Running}

pub seek_start : {text : List ℕ} {at : ℕ} → Seeking text at at
seek_start = record { same = refl }

module _ {text : List ℕ} {at i : ℕ} (go : Seeking text at i) {a : Text} (e : a ≡ text_step text i) where
  pub seek_stop : a ≡ Stop → None ≡ letter_at text at
  seek_stop k = sym (go.same ∙ letter_stop text i (sym e ∙ k))

  module _ {j : ℕ} (k : a ≡ Skip j) where
    pub seek_skip : Seeking text at j
    seek_skip = record { same = go.same ∙ letter_skip text i (sym e ∙ k) }

    pub seek_less : left text j < left text i
    seek_less = (text_skip text i e k).ahead

  pub seek_letter : {b j : ℕ} → a ≡ Letter b j → Some (b, j) ≡ letter_at text at
  seek_letter k = sym (go.same ∙ letter_byte text i (sym e ∙ k))

pub ruleset seeking = (seek_start, seek_stop, seek_skip, seek_less, seek_letter, rules)

-- a byte of either source
pub char_value : (text : List ℕ) (at : ℕ) (s : Source) {q : ℕ} → s ≡ Value q → {c : Option (ℕ × ℕ)} → c ≡ decoded_at text at q → c ≡ char_at s text at
unfolding char_at
char_value text at s e h = rw e h

pub char_contents : (text : List ℕ) (at : ℕ) (s : Source) → s ≡ Contents → {c : Option (ℕ × ℕ)} → c ≡ letter_at text at → c ≡ char_at s text at
unfolding char_at
char_contents text at s e h = rw e h

-- the end of a word
pub ends_end : (text : List ℕ) (at : ℕ) (s : Source) {c : Option (ℕ × ℕ)} → c ≡ char_at s text at → c ≡ None → true ≡ word_ends (stream s text at)
unfolding word_ends
ends_end text at s e k = rw (char_end s text at e k) refl

pub ends_byte : (text : List ℕ) (at : ℕ) (s : Source) {c : Option (ℕ × ℕ)} → c ≡ char_at s text at → {b j : ℕ} → c ≡ Some (b, j) → {t : Bool}
    → t ≡ blank b → t ≡ word_ends (stream s text at)
unfolding word_ends
ends_byte text at s e k h = rw (char_byte s text at e k).splits h

pub ruleset choosing = (char_value, char_contents, ends_end, ends_byte, rules)

-- digits
pub digit_yes : (b : ℕ) → 48 ≤ b → b ≤ 57 → digit b ≡ true
unfolding digit
digit_yes b h k = rw (le-leb 48 b h, le-leb b 57 k) refl

pub digit_low : (b : ℕ) → b < 48 → digit b ≡ false
unfolding digit
digit_low b h = rw (lt-leb 48 b h) refl

pub digit_high : (b : ℕ) → 57 < b → digit b ≡ false
unfolding digit
digit_high b h = rw (lt-leb b 57 h) (and-false (leb 48 b))

pub running_start : {source : Source} {text : List ℕ} {most before at : ℕ} → (most ≤ 15) × (before < 10 ^ (15 - most))
    → Running source text most before at before 0 at
running_start {source} {text} {most} {before} {at} h =
    let e : 15 - most + 0 ≡ 15 - most = omega arith in
    let f : most - 0 ≡ most = omega arith in
    record { few = omega arith; top = h.0; bound = rw e h.1; same = rw f refl }

module _ {source : Source} {text : List ℕ} {most before at n k i : ℕ} (go : Running source text most before at n k i) where
  pub running_full : most ≤ k → record { value = n; count = most; next = i } ≡ digits_at source text most before 0 at
  unfolding digits_at
  running_full h =
      let e : most - k ≡ 0 = omega arith in
      let f : k ≡ most = omega (arith, go.few) in
      sym (go.same ∙ rw (e, f) refl)

  module _ (left : k < most) where
    small : n < 100000000000000
    small = let p : 10 ^ (15 - most + k) ≤ 10 ^ 14 = powers (15 - most + k) 14 (omega (arith, go.top)) in omega (arith, go.bound)

    pub running_times : n * 10 < 2 ^ 64
    running_times = omega (arith, small)

  module _ (left : k < most) {c : Option (ℕ × ℕ)} (e : c ≡ char_at source text i) where
    turn : digits_at source text most before 0 at
        ≡ digits_by c (record { value = n; count = k; next = i })
        (λ b j. digits_at source text (most - (k + 1)) (n * 10 + (b - 48)) (k + 1) j)
    turn = let m : most - k ≡ suc (most - (k + 1)) = omega arith in go.same ∙ rw (m, run_suc source text (most - (k + 1)) n k i, e) refl

    pub running_end : c ≡ None → record { value = n; count = k; next = i } ≡ digits_at source text most before 0 at
    unfolding digits_by
    running_end q = sym (turn ∙ rw q refl)

    module _ {b j : ℕ} (q : c ≡ Some (b, j)) where
      other : digit b ≡ false → record { value = n; count = k; next = i } ≡ digits_at source text most before 0 at
      unfolding digits_by
      other d = sym (turn ∙ rw (q, d) refl)

      pub running_low : b < 48 → record { value = n; count = k; next = i } ≡ digits_at source text most before 0 at
      running_low h = other (digit_low b h)

      pub running_high : 57 < b → record { value = n; count = k; next = i } ≡ digits_at source text most before 0 at
      running_high h = other (digit_high b h)

      pub running_not : {t : Bool} → t ≡ is_ascii_digit b → t ≡ false
          → record { value = n; count = k; next = i } ≡ digits_at source text most before 0 at
      unfolding digit
      running_not et f = other (sym et ∙ f)

      module _ (lo : 48 ≤ b) (hi : b ≤ 57) {d : ℕ} (is : d ≡ b - 48) where
        pub running_room : n * 10 + d < 2 ^ 64
        running_room = omega (arith, small left)

        pub running_on : Running source text most before at (n * 10 + d) (k + 1) j
        unfolding digits_by
        running_on =
            let x : 15 - most + (k + 1) ≡ 15 - most + k + 1 = omega arith in
            record {
              few = omega arith;
              top = go.top;
              bound = rw x (grown n (15 - most + k) d go.bound (omega arith));
              same = turn ∙ rw (q, digit_yes b lo hi, is) refl;
            }

      module _ {t : Bool} (et : t ≡ is_ascii_digit b) (yes : t ≡ true) {d : ℕ} (is : d ≡ b - 48) where
        low : 48 ≤ b
        low = leb-true 48 b (and_left (leb 48 b) (leb b 57) (sym et ∙ yes))

        high : b ≤ 57
        high = leb-true b 57 (and_right (leb 48 b) (leb b 57) (sym et ∙ yes))

        pub running_fits : n * 10 + d < 2 ^ 64
        running_fits = running_room low high is

        pub running_next : Running source text most before at (n * 10 + d) (k + 1) j
        running_next = running_on low high is

pub ruleset running = (running_start, running_full, running_end, running_not, running_times, running_fits, running_next, rules)

-- blanks
pub record Passing (text : List ℕ) (at i : ℕ) : Type 0 where
  pub same : behind Contents text (leading blank (stream Contents text at)) at
      ≡ behind Contents text (leading blank (stream Contents text i)) i

pub pass_start : {text : List ℕ} {at : ℕ} → Passing text at at
pass_start = record { same = refl }

module _ {text : List ℕ} {at i : ℕ} (go : Passing text at i) {c : Option (ℕ × ℕ)} (e : c ≡ letter_at text i) where
  from : c ≡ char_at Contents text i
  unfolding char_at
  from = e

  stays : leading blank (stream Contents text i) ≡ 0 → i ≡ behind Contents text (leading blank (stream Contents text at)) at
  stays z = sym (go.same ∙ rw (z, behind_none Contents text i) refl)

  pub pass_end : c ≡ None → i ≡ behind Contents text (leading blank (stream Contents text at)) at
  unfolding leading
  pass_end q = stays (rw (char_end Contents text i from q) refl)

  module _ {b j : ℕ} (q : c ≡ Some (b, j)) where
    pub pass_other : {t : Bool} → t ≡ blank b → not t ≡ true → i ≡ behind Contents text (leading blank (stream Contents text at)) at
    unfolding leading
    pass_other {t} h k = stays (rw ((char_byte Contents text i from q).splits, sym h ∙ not-true t k) refl)

    pub pass_less : left text j < left text i
    unfolding left_in
    pass_less = (char_byte Contents text i from q).ahead

    pub pass_on : {t : Bool} → t ≡ blank b → not t ≡ false → Passing text at j
    unfolding leading
    pass_on {t} h k =
        let s = char_byte Contents text i from q in
        record {
          same = go.same ∙ rw (s.splits, sym h ∙ not-false t k)
              (behind_one Contents text i (sym from ∙ q) (leading blank (stream Contents text j)));
        }

pub ruleset passing = (pass_start, pass_end, pass_other, pass_less, pass_on, rules)
