-- The readers of the first line: a digit, digits in a row, a number among commas.
use Rattle.std.specs.Prelude.{◌≡◌, [], ◌∷◌, ◌++◌, Bool, true, false, ℕ, ◌+◌, ◌*◌, ◌-◌, ◌^◌, ◌≤◌, ◌<◌, leb}
use Rattle.std.proofs.Math.Path.{refl, sym}
use Rattle.std.proofs.Common.{ap, ◌∙◌, append_assoc, append-nil, add-one, rules, drop_of_length-le}
use Rattle.std.proofs.Math.Bool.{cond, and-false}
use native.Mathlib.Omega.{arith}
use borrow.Author.Tests.{eq-eqb, ne_eqb, le-leb, lt-leb, leb-true, leb-false}
use Rattle.std.proofs.Math.ListN.{length, get_or, drop, length-append}
use Rattle.std.proofs.Math.Seq.{drop-cons}
use Rattle.lists.specs.Lists.{all}
use Rattle.grammar.specs.Look.{Word}
use Rattle.numbers.specs.Numbers.{digit, digits, number, value, parts, on_first, comma}
use Rattle.numbers.proofs.Laws.Cuts.{digits_uncut, digit_no_comma, digit_in, parts_some, parts_end, parts_cut, parts_join, all_append}
use Rattle.numbers.specs.Cuts.{Uncut}
use Rattle.numbers.proofs.Laws.Cuts.{number_append, grown, digits_are, digits_few, digits_stopped, powers}
use Rattle.input.specs.Parted.{digit_first, FirstDigit, Ran, LineParted, part_comma, part_last, part_no}
use Rattle.input.specs.declared.lengths.Run.{Run}
use Rattle.input.specs.declared.lengths.Part.TheVariants.{Comma, Last, No}

-- ---- A digit.

module _ (w : Word) (at : ℕ) where
  pub digit_past : length w ≤ at → FirstDigit w at 10
  unfolding digit_first
  digit_past h = record { is = sym (ap digit_first (drop_of_length-le w h)); small = omega arith }

  module _ (there : at < length w) where
    pub digit_low : get_or w at 0 < 48 → FirstDigit w at 10
    unfolding digit_first digit
    digit_low h = record { is = sym (rw (drop-cons w at 0 there, lt-leb 48 (get_or w at 0) h) refl); small = omega arith }

    pub digit_high : 57 < get_or w at 0 → FirstDigit w at 10
    unfolding digit_first digit
    digit_high h = record {
      is = sym (rw (drop-cons w at 0 there, lt-leb (get_or w at 0) 57 h, and-false (leb 48 (get_or w at 0))) refl);
      small = omega arith;
    }

    pub digit_there : 48 ≤ get_or w at 0 → get_or w at 0 ≤ 57 → FirstDigit w at (get_or w at 0 - 48)
    unfolding digit_first digit
    digit_there h k = record {
      is = sym (rw (drop-cons w at 0 there, le-leb 48 (get_or w at 0) h, le-leb (get_or w at 0) 57 k) refl);
      small = omega arith;
    }

pub ruleset digitSteps = (digit_past, digit_low, digit_high, digit_there, rules)

-- ---- Digits in a row.

pub record Running (w : Word) (at n k i : ℕ) : Type 0 where
  pub read : Word
  pub splits : drop at w ≡ read ++ drop i w
  pub all_digits : all digit read ≡ true
  pub counted : length read ≡ k
  pub few : k ≤ 7
  pub valued : n ≡ value read
  pub small : n < 10 ^ k
  pub place : i ≡ at + k

-- a digit ahead
pub record Ahead (w : Word) (i d : ℕ) : Type 0 where
  pub byte : ℕ
  pub are : drop i w ≡ byte ∷ drop (i + 1) w
  pub right : digit byte ≡ true
  pub is : d ≡ byte - 48
  pub inside : i < length w

module _ {w : Word} {i d : ℕ} (asked : FirstDigit w i d) where
  none_ahead : 9 < d → digit_first (drop i w) ≡ 10
  none_ahead h = let e : d ≡ 10 = omega (arith, asked.small) in sym asked.is ∙ e

  there : d ≤ 9 → i < length w
  there h = go (leb (length w) i) refl
    where
      go : (b : Bool) → leb (length w) i ≡ b → i < length w
      go true e = let p = asked.is ∙ sym (digit_past w i (leb-true (length w) i e)).is in absurd (omega arith)
      go false e = leb-false (length w) i e

  ahead : d ≤ 9 → Ahead w i d
  unfolding digit_first
  ahead h = go (digit (get_or w i 0)) refl
    where
      opened : drop i w ≡ get_or w i 0 ∷ drop (i + 1) w
      opened = drop-cons w i 0 (there h) ∙ rw (add-one i) refl

      is_by : d ≡ cond (digit (get_or w i 0)) (get_or w i 0 - 48) 10
      is_by = asked.is ∙ ap digit_first opened

      go : (b : Bool) → digit (get_or w i 0) ≡ b → Ahead w i d
      go true e = record { byte = get_or w i 0; are = opened; right = e; is = is_by ∙ rw e refl; inside = there h }
      go false e = let p : d ≡ 10 = is_by ∙ rw e refl in absurd (omega arith)

module _ (w : Word) (at : ℕ) where
  pub run_start : Running w at 0 0 at
  unfolding value number all
  run_start = record {
    read = [];
    splits = refl;
    all_digits = refl;
    counted = refl;
    few = omega arith;
    valued = refl;
    small = omega arith;
    place = omega arith;
  }

  module _ {n k i : ℕ} (running : Running w at n k i) where
    pub run_low : n < 10000000
    run_low = let p = powers k 7 running.few in omega (arith, running.small)

    ended : (k < 7 → digit_first (drop i w) ≡ 10) → Ran w at (record { value = n; count = k; next = i })
    ended stops = record {
      read = running.read;
      splits = running.splits;
      all_digits = running.all_digits;
      counted = running.counted;
      few = running.few;
      valued = running.valued;
      stops = stops;
    }

    pub run_full : 7 ≤ k → Ran w at (record { value = n; count = k; next = i })
    run_full h = ended (λ l. absurd (omega arith))

    module _ {d : ℕ} (asked : FirstDigit w i d) where
      pub run_ends : 9 < d → Ran w at (record { value = n; count = k; next = i })
      run_ends h = ended (λ l. none_ahead asked h)

      pub run_room : d ≤ 9 → i < length w
      run_room h = there asked h

      pub run_more : k < 7 → d ≤ 9 → Running w at (n * 10 + d) (k + 1) (i + 1)
      unfolding value number all
      run_more l h =
          let a = ahead asked h in
          let next : n * 10 + d ≡ number 0 running.read * 10 + (a.byte - 48) = omega (arith, running.valued, a.is) in
          record {
            read = running.read ++ (a.byte ∷ []);
            splits = running.splits ∙ rw a.are (sym (append_assoc running.read (a.byte ∷ []) (drop (i + 1) w)));
            all_digits = rw (all_append digit running.read (a.byte ∷ []), running.all_digits, a.right) refl;
            counted = length-append running.read (a.byte ∷ []) ∙ rw running.counted refl;
            few = omega arith;
            valued = next ∙ sym (number_append 0 running.read (a.byte ∷ []));
            small = grown n k d running.small h;
            place = omega (arith, running.place);
          }

pub ruleset runSteps = (run_start, run_full, run_ends, run_room, run_more, rules)

-- ---- A number among commas.

module _ {w : Word} {at : ℕ} {r : Run} (ran : Ran w at r) where
  uncut : Uncut comma ran.read
  uncut = digits_uncut digit_no_comma ran.read ran.all_digits

  goes_on : {b : ℕ} {x : Word} → drop r.next w ≡ b ∷ x → drop at w ≡ ran.read ++ (b ∷ x)
  goes_on e = ran.splits ∙ ap (λ l. ran.read ++ l) e

  at_end : drop r.next w ≡ [] → parts comma (drop at w) ≡ ran.read ∷ []
  at_end e = ap (parts comma) (ran.splits ∙ rw e (append-nil ran.read)) ∙ parts_end uncut

  at_comma : {b : ℕ} {x : Word} → drop r.next w ≡ b ∷ x → comma b ≡ true → parts comma (drop at w) ≡ ran.read ∷ parts comma x
  at_comma {b} {x} e h = ap (parts comma) (goes_on e) ∙ parts_cut b x uncut h

  stopped : {b : ℕ} {x : Word} → drop r.next w ≡ b ∷ x → length ran.read < 7 → digit b ≡ false
  unfolding digit_first digit
  stopped {b} {x} e l = go (digit b) refl
    where
      ten : cond (digit b) (b - 48) 10 ≡ 10
      ten = sym (ap digit_first e) ∙ ran.stops (omega (arith, ran.counted))

      go : (t : Bool) → digit b ≡ t → digit b ≡ false
      go true h = let p : b - 48 ≡ 10 = (sym (rw h refl)) ∙ ten in absurd (omega (arith, digit_in b h))
      go false h = h

  at_other : {b : ℕ} {x : Word} → drop r.next w ≡ b ∷ x → comma b ≡ false → LineParted w at No
  unfolding parts on_first
  at_other {b} {x} e h =
      let k = parts_some comma x in
      let q : parts comma (b ∷ x) ≡ (b ∷ k.first) ∷ k.others = rw (h, k.are) refl in
      let few : length ran.read ≤ 7 = omega (arith, ran.counted, ran.few) in
      part_no (ran.read ++ (b ∷ k.first)) k.others
      (digits_stopped 1 7 ran.read k.first b few (stopped e))
      (ap (parts comma) (goes_on e) ∙ parts_join (b ∷ x) (b ∷ k.first) k.others uncut q)

  right : (r.count ≡ 0 → ⊥) → digits 1 7 ran.read ≡ true
  right h = digits_are 1 7 ran.read ran.all_digits (omega (arith, ran.counted)) (omega (arith, ran.counted, ran.few))

  pub part_none : r.count ≡ 0 → LineParted w at No
  part_none z = go (drop r.next w) refl
    where
      empty : digits 1 7 ran.read ≡ false
      empty = digits_few 1 7 ran.read (omega (arith, ran.counted))

      by : (b : ℕ) (x : Word) → drop r.next w ≡ b ∷ x → (t : Bool) → comma b ≡ t → LineParted w at No
      by b x e true h = part_no ran.read (parts comma x) empty (at_comma e h)
      by b x e false h = at_other e h

      go : (x : Word) → drop r.next w ≡ x → LineParted w at No
      go [] e = part_no ran.read [] empty (at_end e)
      go (b ∷ x) e = by b x e (comma b) refl

  pub part_ends : (r.count ≡ 0 → ⊥) → length w ≤ r.next → LineParted w at (Last r.value)
  part_ends h l = rw ran.valued (part_last ran.read (right h) (at_end (drop_of_length-le w l)))

  module _ (inside : r.next < length w) where
    opened : drop r.next w ≡ get_or w r.next 0 ∷ drop (r.next + 1) w
    opened = drop-cons w r.next 0 inside ∙ rw (add-one r.next) refl

    pub part_goes : (r.count ≡ 0 → ⊥) → get_or w r.next 0 ≡ 44 → LineParted w at (Comma r.value (r.next + 1))
    unfolding comma
    part_goes h e = rw ran.valued (part_comma ran.read (right h) (at_comma opened (eq-eqb (get_or w r.next 0) 44 e)))

    pub part_breaks : (get_or w r.next 0 ≡ 44 → ⊥) → LineParted w at No
    unfolding comma
    part_breaks e = at_other opened (ne_eqb (get_or w r.next 0) 44 e)

pub ruleset partSteps = (part_none, part_ends, part_goes, part_breaks, rules)
