-- The next number of a list: plain bytes first, whatever else then.
use Rattle.std.specs.Prelude.{◌≡◌, Bool, not, length, get_or, Option, Some, None, ℕ}
use Rattle.std.proofs.Math.Path.{refl, sym}
use Rattle.std.proofs.Common.{ap, ◌∙◌, rules}
use mathlib.Core.List.{List, [], ◌∷◌, ◌++◌}
use Rattle.std.proofs.Math.Bool.{true, false, cond}
use Prim.Native.Nat.{ℕ, zero, suc, ◌+◌, ◌*◌, ◌-◌, ◌^◌, ◌≤◌, ◌<◌}
use native.Mathlib.Omega.{arith}
use borrow.Author.Tests.{ne_eqb, not-false}
use Rattle.std.proofs.Math.Dec.{eqb}
use Rattle.lists.proofs.Laws.Booleans.{and_left, clash}
use Rattle.grammar.specs.Bytes.{blank, special}
use Rattle.grammar.proofs.Laws.Facts.{blank_in}
use Rattle.lists.specs.Lists.{all}
use Rattle.grammar.specs.Look.{Word}
use Rattle.numbers.specs.Numbers.{digit}
use Rattle.numbers.proofs.Laws.Cuts.{grown, powers, digit_no_blank}
use Rattle.numbers.specs.Stream.{letter_at, char_at, stream, behind, leading, word_ends, digits_by, digits_at, Few, Plain, Stops}
use Rattle.numbers.specs.Stream.{DigitsBegun, EightLeft, run_of}
use Rattle.numbers.proofs.Laws.Stream.{char_byte, char_end, run_suc, Ran, digits_law, Blanked, blanked}
use Rattle.numbers.proofs.Laws.Listed.{BlankAt, plain_blank, byte_passed}
use Rattle.numbers.proofs.Laws.Listed.{plain_char, next_over, next_end, next_number_lem, next_bad}
use Rattle.numbers.specs.Answers.{next_number}
use Rattle.numbers.proofs.Laws.Read.{digit_yes, digit_low}
use Rattle.numbers.specs.declared.Source.{Source}
use Rattle.numbers.specs.declared.Source.TheVariants.{Contents}
use Rattle.numbers.specs.declared.Run.{Run}
use Rattle.numbers.specs.declared.Next.{Next}
use Rattle.numbers.specs.declared.Next.TheVariants.{Number, End, Bad}

no_special : (a : ℕ) → (a ≡ 60 → ⊥) → (a ≡ 38 → ⊥) → special a ≡ false
unfolding special
no_special a h k = rw (ne_eqb a 60 h, ne_eqb a 38 k) refl

-- plain blanks
pub record Skipping (text : List ℕ) (at last i : ℕ) : Type 0 where
  pub inside : last ≤ length text
  pub same : next_number text at ≡ next_number text i

pub skipping_start : {text : List ℕ} {at last : ℕ} → last ≤ length text → Skipping text at last at
skipping_start h = record { inside = h; same = refl }

module _ {text : List ℕ} {at last i : ℕ} (go : Skipping text at last i) where
  pub skipping_done : next_number text at ≡ next_number text i
  skipping_done = go.same

  module _ (h : i < last) where
    pub skipping_inside : i < length text
    skipping_inside = omega (arith, go.inside)

    pub skipping_on : {t : Bool} → t ≡ blank (get_or text i 0) → not t ≡ false → Skipping text at last (i + 1)
    skipping_on {t} e n =
        let b : blank (get_or text i 0) ≡ true = sym e ∙ not-false t n in
        record { inside = go.inside; same = go.same ∙ byte_passed text i skipping_inside b }

pub ruleset skipping = (skipping_start, skipping_done, skipping_inside, skipping_on, rules)

-- plain digits
pub record Digging (text : List ℕ) (at n k i : ℕ) : Type 0 where
  pub few : k ≤ 7
  pub bound : n < 10 ^ k
  pub same : digits_at Contents text 7 0 0 at ≡ digits_at Contents text (7 - k) n k i

pub digging_start : {text : List ℕ} {at : ℕ} → Digging text at 0 0 at
digging_start = record { few = omega arith; bound = omega arith; same = refl }

module _ {text : List ℕ} {at n k i : ℕ} (go : Digging text at n k i) where
  pub digging_done : {stop : ℕ} → at ≤ i → k ≡ i - at → (at ≤ stop → i ≤ stop)
      → Plain text at stop (record { value = n; count = k; next = i })
  digging_done a s h = record { ahead = a; spans = s; within = h; seven = record { few = go.few; bound = go.bound }; same = go.same }

  module _ (left : k < 7) where
    small : n < 1000000
    small = let p : 10 ^ k ≤ 10 ^ 6 = powers k 6 (omega arith) in omega (arith, go.bound)

    pub digging_times : n * 10 < 2 ^ 64
    digging_times = omega (arith, small)

    module _ (in-text : i < length text) {b : ℕ} (is : b ≡ get_or text i 0) (lo : 48 ≤ b) (hi : b ≤ 57) {d : ℕ} (ed : d ≡ b - 48) where
      pub digging_room : n * 10 + d < 2 ^ 64
      digging_room = omega (arith, small)

      pub digging_on : Digging text at (n * 10 + d) (k + 1) (i + 1)
      unfolding digits_by
      digging_on =
          let m : 7 - k ≡ suc (7 - (k + 1)) = omega arith in
          let free = no_special b (λ z. omega arith) (λ z. omega arith) in
          let other : eqb b 13 ≡ false = ne_eqb b 13 (λ z. omega arith) in
          let c = plain_char text i in-text (rw is at free) (rw is at other) in
          record {
            few = omega arith;
            bound = grown n k d go.bound (omega arith);
            same = go.same ∙ rw (m, run_suc Contents text (7 - (k + 1)) n k i, c, sym is, digit_yes b lo hi, ed) refl;
          }

pub record Walking (text : List ℕ) (at stop n i : ℕ) : Type 0 where
  pub from : at ≤ i
  pub low : at ≤ stop → i ≤ stop
  pub stops : Stops text at stop
  pub digs : Digging text at n (i - at) i

pub walking_start : {text : List ℕ} {at stop : ℕ} → Stops text at stop → Walking text at stop 0 at
walking_start {text} {at} s = let z : at - at ≡ 0 = omega arith in
    record { from = omega arith; low = λ h. h; stops = s; digs = rw z digging_start }

module _ {text : List ℕ} {at stop n i : ℕ} (go : Walking text at stop n i) where
  pub walking_from : at ≤ i
  walking_from = go.from

  pub walking_done : {r : Run} → r ≡ run_of n at i → Plain text at stop r
  walking_done e = rw e (digging_done go.digs go.from refl go.low)

  module _ (u : i < stop) where
    pub walking_inside : i < length text
    walking_inside = let f = go.from in let k = go.stops.inside (omega arith) in omega arith

    left : i - at < 7
    left = let f = go.from in let k = go.stops.near in omega arith

    pub walking_times : n * 10 < 2 ^ 64
    walking_times = digging_times go.digs left

    module _ {b : ℕ} (is : b ≡ get_or text i 0) (lo : 48 ≤ b) (hi : b ≤ 57) {d : ℕ} (ed : d ≡ b - 48) where
      pub walking_room : n * 10 + d < 2 ^ 64
      walking_room = digging_room go.digs left walking_inside is lo hi ed

      pub walking_on : Walking text at stop (n * 10 + d) (i + 1)
      walking_on =
          let f = go.from in
          let e : i + 1 - at ≡ i - at + 1 = omega arith in
          record {
            from = omega arith;
            low = λ _. omega arith;
            stops = go.stops;
            digs = rw e (digging_on go.digs left walking_inside is lo hi ed);
          }

pub ruleset walking = (walking_start, walking_from, walking_done, walking_inside, walking_times, walking_room, walking_on, rules)

-- plain digits with a blank behind them are all the digits there
module _ {text : List ℕ} {i stop : ℕ} {run : Run} (p : Plain text i stop run) (in-text : run.next < length text)
    (b : blank (get_or text run.next 0) ≡ true) where
  it : BlankAt text run.next
  it = plain_blank text run.next in-text b

  all_of_it : run ≡ digits_at Contents text 7 0 0 i
  unfolding digits_at digits_by
  all_of_it = sym (p.same ∙ go (7 - run.count))
    where
      low : digit it.byte ≡ false
      low = let q = blank_in it.byte it.is_blank in digit_low it.byte (omega arith)

      go : (m : ℕ) → digits_at Contents text m run.value run.count run.next ≡ run
      go zero = refl
      go (suc m) = run_suc Contents text m run.value run.count run.next ∙ rw (it.reads, low) refl

  ends_here : word_ends (stream Contents text run.next) ≡ true
  unfolding word_ends
  ends_here = rw (char_byte Contents text run.next refl it.reads).splits it.is_blank

  pub quick_number : (at : ℕ) → next_number text at ≡ next_number text i → (run.count ≡ 0 → ⊥)
      → Number run.value run.next ≡ next_number text at
  quick_number at e n = sym (e ∙ next_number_lem text i all_of_it n ends_here)

-- the digits that were read, and that no blank stands before them
begun_plain : {text : List ℕ} {at stop : ℕ} {run : Run} → Plain text at stop run → leading blank (stream Contents text at) ≡ 0
    → DigitsBegun text at run.value run.next
begun_plain {text} {at} {stop} {run} p s =
    let here : Plain text at run.next run =
    record { seven = p.seven; ahead = p.ahead; spans = p.spans; within = λ _. omega arith; same = p.same } in
    let is : run ≡ run_of run.value at run.next = ap (λ c. record { value = run.value; count = c; next = run.next }) p.spans in
    record { plain = rw is at here; starts = s }

digit_first_lem : {text : List ℕ} {at stop : ℕ} {run : Run} → Plain text at stop run → (run.count ≡ 0 → ⊥)
    → leading blank (stream Contents text at) ≡ 0
unfolding leading all
digit_first_lem {text} {at} {stop} {run} p n =
    let all_of : Ran Contents text 7 0 0 at (digits_at Contents text 7 0 0 at) = digits_law Contents text 7 0 0 at in
    let rest : Ran Contents text (7 - run.count) run.value run.count run.next
    (digits_at Contents text (7 - run.count) run.value run.count run.next) =
    digits_law Contents text (7 - run.count) run.value run.count run.next in
    let same_count = ap (λ (r : Run). r.count) p.same in
    go all_of.read all_of.all_digits (omega (arith, all_of.counted, rest.counted)) all_of.splits
  where
    go : (u : Word) → all digit u ≡ true → 0 < length u → stream Contents text at ≡ u
        ++ stream Contents text (digits_at Contents text 7 0 0 at).next → leading blank (stream Contents text at) ≡ 0
    go [] d h e = absurd (omega arith)
    go (a ∷ u) d h e = rw (e, digit_no_blank a (and_left (digit a) _ d))

module _ {text : List ℕ} {last : ℕ} (b : EightLeft text last) where
  pub quick_last : last ≤ length text
  quick_last = b.inside

  module _ {i : ℕ} (before : i < last) where
    pub quick_fits : i + 7 < 2 ^ 64
    quick_fits = omega (arith, b.fits)

    pub quick_stops : Stops text i (i + 7)
    quick_stops = let h = b.ahead (omega arith) in record { near = omega arith; inside = λ _. omega arith }

    module _ {run : Run} (p : Plain text i (i + 7) run) where
      pub quick_inside : run.next < length text
      quick_inside = let h = b.ahead (omega arith) in omega (arith, p.within (omega arith))

      module _ (some : run.count ≡ 0 → ⊥) where
        pub quick : (at : ℕ) → next_number text at ≡ next_number text i → {t : Bool} → t ≡ blank (get_or text run.next 0) → t ≡ true
            → Number run.value run.next ≡ next_number text at
        quick at e q h = quick_number p quick_inside (sym q ∙ h) at e some

        pub quick_begun : DigitsBegun text i run.value run.next
        quick_begun = begun_plain p (digit_first_lem p some)

pub slow : (text : List ℕ) (at i : ℕ) {r : Next} → next_number text at ≡ next_number text i → r ≡ next_number text i → r ≡ next_number text at
slow text at i e q = q ∙ sym e

-- whatever stands between
module _ {text : List ℕ} {at value next : ℕ} (b : DigitsBegun text at value next) where
  pub from_ahead : at ≤ next
  from_ahead = b.plain.ahead

  pub from_few : {run : Run} → run ≡ run_of value at next → Few run
  from_few e = rw e b.plain.seven

  no_blank : (c : ℕ) (x : Word) → stream Contents text at ≡ c ∷ x → blank c ≡ false
  unfolding leading
  no_blank c x e = go (blank c) (rw e at b.starts)
    where
      go : (t : Bool) → cond t (suc (leading blank x)) 0 ≡ 0 → t ≡ false
      go true h = absurd (omega arith)
      go false h = refl

  module _ {plain : Run} (ep : plain ≡ run_of value at next) {run : Run}
      (ew : run ≡ digits_at Contents text (7 - plain.count) plain.value plain.count plain.next) where
    er : run ≡ digits_at Contents text 7 0 0 at
    er = rw ep at ew ∙ sym b.plain.same

    ran : Ran Contents text 7 0 0 at run
    ran = rw er (digits_law Contents text 7 0 0 at)

    pub slow_number : (run.count ≡ 0 → ⊥) → {t : Bool} → t ≡ word_ends (stream Contents text run.next) → t ≡ true
        → Number run.value run.next ≡ next_number text at
    slow_number n e q = sym (next_number_lem text at er n (sym e ∙ q))

    pub slow_bad : {t : Bool} → t ≡ word_ends (stream Contents text run.next) → t ≡ false → Bad ≡ next_number text at
    unfolding word_ends
    slow_bad e q = sym (go (stream Contents text run.next) refl (sym e ∙ q))
      where
        go : (w : Word) → stream Contents text run.next ≡ w → word_ends w ≡ false → next_number text at ≡ Bad
        go [] k h = clash (cc)
        go (c ∷ x) k h = next_bad text at er k h

    module _ (z : run.count ≡ 0) {c : Option (ℕ × ℕ)} (ec : c ≡ letter_at text run.next) where
      nothing_read : stream Contents text at ≡ stream Contents text run.next
      nothing_read = go ran.read ran.counted ran.splits
        where
          go : (u : Word) → run.count ≡ 0 + length u → stream Contents text at ≡ u ++ stream Contents text run.next
              → stream Contents text at ≡ stream Contents text run.next
          go [] n e = e
          go (a ∷ u) n e = absurd (omega arith)

      from : c ≡ char_at Contents text run.next
      unfolding char_at
      from = ec

      pub slow_end : c ≡ None → End ≡ next_number text at
      slow_end e = sym (next_end text at (nothing_read ∙ char_end Contents text run.next from e))

      pub slow_other : {p : ℕ × ℕ} → c ≡ Some p → Bad ≡ next_number text at
      slow_other {p} e =
          let s = (char_byte Contents text run.next from e).splits in
          sym (next_bad text at er s (no_blank p.0 (stream Contents text p.1) (nothing_read ∙ s)))

pub ruleset taking_time = (from_ahead, from_few, slow_number, slow_bad, slow_end, slow_other, rules)

-- behind all blanks
module _ (text : List ℕ) (at : ℕ) {i : ℕ} (ei : i ≡ behind Contents text (leading blank (stream Contents text at)) at) where
  pub word_number : {r : Next} → r ≡ next_number text i → r ≡ next_number text at
  word_number q = q ∙ sym (next_over (leading blank (stream Contents text at)) text at refl ∙ ap (next_number text) (sym ei))

  pub word_begun : {stop : ℕ} {run : Run} → Plain text i stop run → DigitsBegun text i run.value run.next
  unfolding leading
  word_begun p = begun_plain p (go (stream Contents text i) refl)
    where
      starts : Blanked text at i
      starts = rw ei (blanked (leading blank (stream Contents text at)) text at refl)

      go : (w : Word) → stream Contents text i ≡ w → leading blank (stream Contents text i) ≡ 0
      go [] e = rw e
      go (c ∷ x) e = rw (e, starts.no_blank c x e)

pub ruleset starting = (word_number, word_begun, rules)

-- more digits behind those that were read
digits_more : (source : Source) (text : List ℕ) (m n a k i : ℕ)
    → digits_at source text m n (a + k) i
    ≡ record {
      value = (digits_at source text m n k i).value;
      count = a + (digits_at source text m n k i).count;
      next = (digits_at source text m n k i).next;
    }
unfolding digits_at digits_by
digits_more source text zero n a k i = refl
digits_more source text (suc m) n a k i =
    go (char_at source text i) (λ b j. ap (λ x. digits_at source text m (n * 10 + (b - 48)) x j) (shift b)
    ∙ digits_more source text m (n * 10 + (b - 48)) a (k + 1) j)
  where
    shift : ℕ → (a + k) + 1 ≡ a + (k + 1)
    shift b = omega arith

    go : (c : Option (ℕ × ℕ)) → ((b j : ℕ) → digits_at source text m (n * 10 + (b - 48)) (a + k + 1) j
        ≡ record {
          value = (digits_at source text m (n * 10 + (b - 48)) (k + 1) j).value;
          count = a + (digits_at source text m (n * 10 + (b - 48)) (k + 1) j).count;
          next =
              (digits_at source text m (n * 10 + (b - 48)) (k + 1) j).next;
        })
        → digits_by c (record { value = n; count = a + k; next = i }) (λ b j. digits_at source text m (n * 10 + (b - 48)) (a + k + 1) j)
        ≡ record {
          value = (digits_by c (record { value = n; count = k; next = i })
              (λ b j. digits_at source text m (n * 10 + (b - 48)) (k + 1) j)).value;
          count =
              a + (digits_by c (record { value = n; count = k; next = i })
              (λ b j. digits_at source text m (n * 10 + (b - 48)) (k + 1) j)).count;
          next =
              (digits_by c (record { value = n; count = k; next = i }) (λ b j. digits_at source text m (n * 10 + (b - 48)) (k + 1) j)).next;
        }
    go None ih = refl
    go (Some (b, j)) ih = by (digit b)
      where
        by : (t : Bool) → cond t (digits_at source text m (n * 10 + (b - 48)) (a + k + 1) j) (record { value = n; count = a + k; next = i })
            ≡ record {
              value = (cond t (digits_at source text m (n * 10 + (b - 48)) (k + 1) j)
                  (record { value = n; count = k; next = i })).value;
              count =
                  a + (cond t (digits_at source text m (n * 10 + (b - 48)) (k + 1) j) (record { value = n; count = k; next = i })).count;
              next = (cond t (digits_at source text m (n * 10 + (b - 48)) (k + 1) j) (record { value = n; count = k; next = i })).next;
            }
        by true = ih b j
        by false = refl

module _ {run : Run} (f : Few run) where
  pub more_first : run.count ≤ 7
  more_first = f.few

  pub more_room : (7 - run.count ≤ 15) × (run.value < 10 ^ (15 - (7 - run.count)))
  more_room = let p : 10 ^ run.count ≤ 10 ^ (15 - (7 - run.count)) =
      powers run.count (15 - (7 - run.count)) (let h = f.few in omega arith) in (omega arith, omega (arith, f.bound))

  module _ (text : List ℕ) {more : Run} (e : more ≡ digits_at Contents text (7 - run.count) run.value 0 run.next) where
    pub more_count : run.count + more.count < 2 ^ 64
    more_count = let r : Ran Contents text (7 - run.count) run.value 0 run.next more =
        rw e (digits_law Contents text (7 - run.count) run.value 0 run.next) in let h = f.few in omega (arith, r.few, r.counted)

    pub more_digits : record { value = more.value; count = run.count + more.count; next = more.next }
        ≡ digits_at Contents text (7 - run.count) run.value run.count run.next
    more_digits =
        let z : run.count + 0 ≡ run.count = omega arith in
        rw e (sym (ap (λ k. digits_at Contents text (7 - run.count) run.value k run.next) (sym z)
        ∙ digits_more Contents text (7 - run.count) run.value run.count 0 run.next))

pub ruleset Going_on = (more_first, more_room, more_count, more_digits, rules)

pub ruleset hurrying = (quick_last, quick_fits, quick_stops, quick_inside, quick, quick_begun, slow, rules)
