-- Decimals without their sign: digits with or without a point, and what stands behind them.
use Rattle.std.specs.Prelude.{◌≡◌, ℕ, ◌+◌, ◌-◌, ◌^◌, ◌≤◌, ◌<◌, ℤ, drop, Option, Some, None}
use Rattle.std.proofs.Math.Path.{refl, sym, ap}
use Rattle.std.proofs.Common.{◌∙◌, arith, rules}
use mathlib.Core.List.{List, [], ◌∷◌, ◌++◌, append_assoc, append-nil}
use Rattle.std.proofs.Math.Bool.{false}
use borrow.Author.Tests.{ne_eqb}
use Rattle.std.proofs.Math.ListN.{length}
use Rattle.lists.proofs.Laws.Booleans.{clash}
use Rattle.grammar.specs.Bytes.{blank}
use Rattle.grammar.specs.Document.{together}
use Rattle.grammar.specs.Look.{Word}
use Rattle.numbers.specs.Numbers.{number, value, parts, point, Sign, with_sign, decimal_parts, mantissa}
use Rattle.numbers.specs.Numbers.{places}
use Rattle.numbers.proofs.Laws.Cuts.{uncut_join, parts_end, digits_are, number_below, powers}
use Rattle.numbers.specs.Cuts.{Uncut, none, more}
use Rattle.numbers.specs.Stream.{char_at, stream, digits_at}
use Rattle.numbers.proofs.Laws.Stream.{char_byte, char_end, Ran, digits_law}
use Rattle.numbers.specs.Spelled.{fails, pure_decimal, pure_value, Pure, pointed, DigitsInFront, Pointed}
use Rattle.numbers.proofs.Laws.SpelledSame.{onward}
use Rattle.numbers.specs.Spelled.{Powered}
use Rattle.numbers.proofs.Laws.Mantissa.{wrong_one}
use Rattle.numbers.proofs.Laws.Ahead.{uncut_point, uncut_blank, first_part, other_part, cut, word, word_uncut, word_splits, empty_read}
use Rattle.numbers.proofs.Laws.Ahead.{before_mark, stop_mark, wrong_front}
use Rattle.numbers.specs.declared.Source.{Source}
use Rattle.numbers.specs.declared.Run.{Run}
use Rattle.numbers.specs.declared.Decimal.{Decimal}

below_same : {v n k m : ℕ} → v ≡ n → k ≡ m → n < 10 ^ m → v < 10 ^ k
below_same p q h = rw (p, q) h

module _ (source : Source) (text : List ℕ) (at : ℕ) {run : Run} (er : run ≡ digits_at source text 15 0 0 at) where
  ran : Ran source text 15 0 0 at run
  ran = rw er (digits_law source text 15 0 0 at)

  pub pure_room : run.value < 10 ^ 15
  pure_room =
      let p : 10 ^ (0 + length ran.read) ≤ 10 ^ 15 = powers (0 + length ran.read) 15 (omega (arith, ran.few)) in
      omega (arith, number_below 0 0 ran.read ran.all_digits (omega arith), ran.valued)

  pub pure_count : run.count ≤ 15
  pure_count = omega (arith, ran.counted, ran.few)

  pub pure_before : run.value < 10 ^ run.count
  pure_before =
      let e : run.count ≡ 0 + length ran.read = ran.counted in
      let b : number 0 ran.read < 10 ^ (0 + length ran.read) = number_below 0 0 ran.read ran.all_digits (omega arith) in
      below_same ran.valued e b

  no_blank : Uncut blank ran.read
  no_blank = uncut_blank 15 ran.read ran.all_digits ran.few

  module _ (s : Sign) where
    pub pure_none : run.count ≡ 0 → Pure source text at s None
    unfolding pure_decimal mantissa
    pure_none z =
        let f = first_part 15 ran.read ran.all_digits ran.few (before_mark ran).first (stop_mark ran) in
        let w : mantissa (ran.read ++ (before_mark ran).first) ≡ false =
        ap decimal_parts f.2 ∙ wrong_one f.0 f.1 (f.3.1 (empty_read ran z)) in
        record { reading = fails (word ran) (cut ran).rest (wrong_front ran none w) (word_uncut ran) (word_splits ran) (cut ran).ends }

    module _ (some : run.count ≡ 0 → ⊥) where
      long : 1 ≤ length ran.read
      long = omega (arith, ran.counted)

      in_one : parts point ran.read ≡ ran.read ∷ []
      in_one = parts_end (uncut_point 15 ran.read ran.all_digits ran.few)

      -- without a point: what stops the digits is none, nor a digit
      module _ {a : ℤ} (ea : a ≡ with_sign s run.value) where
        alone : ((b : ℕ) (x : Word) → stream source text run.next ≡ b ∷ x → point b ≡ false) → {r : Option (Decimal × ℕ)}
            → Powered source text run.next a 0 r → Pure source text at s r
        unfolding mantissa places value decimal_parts
        alone h p = record {
          reading = onward ran.read (λ x y e. (refl, λ k. refl)) no_blank ran.splits (p.reading (record {
            right = ap decimal_parts in_one ∙ digits_are 1 15 ran.read ran.all_digits long ran.few;
            amounts = ap (λ i. with_sign s (value (together i))) in_one
                ∙ ap (λ i. with_sign s (number 0 i)) (append-nil ran.read) ∙ ap (with_sign s) (sym ran.valued) ∙ sym ea;
            placed = ap (λ i. length (together (drop 1 i))) in_one;
            stopped = λ b x e n y.
                let f = other_part 15 ran.read ran.all_digits ran.few b y (h b x e) (ran.stops b x e) in
                ap decimal_parts f.2 ∙ wrong_one f.0 f.1 f.3;
          }));
        }

        module _ {c : Option (ℕ × ℕ)} (ec : c ≡ char_at source text run.next) where
          pub pure_end : c ≡ None → {r : Option (Decimal × ℕ)} → Powered source text run.next a 0 r → Pure source text at s r
          pure_end e p = alone (λ b x q. let z = char_end source text run.next ec e in clash (cc)) p

          pub pure_other : {b j : ℕ} → c ≡ Some (b, j) → (b ≡ 46 → ⊥) → {r : Option (Decimal × ℕ)} → Powered source text run.next a 0 r
              → Pure source text at s r
          unfolding point
          pure_other {b} {j} e n p = alone (λ i x q.
              let m = (char_byte source text run.next ec e).splits in
              let z : b ≡ i = cc in
              ne_eqb i 46 λ k. n (z ∙ k)) p

      pub pure_point : {c : Option (ℕ × ℕ)} → c ≡ char_at source text run.next → {b j : ℕ} → c ≡ Some (b, j) → b ≡ 46 → {r : Option (Decimal × ℕ)}
          → Pointed source text j run.value run.count s r → Pure source text at s r
      unfolding pointed blank value
      pure_point ec {b} {j} e h p =
          let m = (char_byte source text run.next ec e).splits in
          let k : stream source text at ≡ (ran.read ++ (46 ∷ [])) ++ stream source text j = ran.splits
          ∙ ap (λ l. ran.read ++ l) (m ∙ ap (λ i. i ∷ stream source text j) h)
          ∙ sym (append_assoc ran.read (46 ∷ []) (stream source text j)) in
          let f : DigitsInFront ran.read run.value run.count = record {
            all_digits = ran.all_digits;
            some = long;
            counted = omega (arith, ran.counted);
            valued = sym ran.valued;
          } in
          let same : (x : Word) → (ran.read ++ (46 ∷ [])) ++ x ≡ ran.read ++ (46 ∷ x) = λ x. append_assoc ran.read (46 ∷ []) x in
          record {
            reading = onward (ran.read ++ (46 ∷ [])) (λ x y q. (ap pure_decimal (same x), λ i. ap (pure_value s) (same x)))
                (uncut_join no_blank (more refl none)) k (p.reading f);
          }

pub fifteen : (15 ≤ 15) × (0 < 10 ^ (15 - 15))
fifteen = omega arith

pub ruleset purely = (fifteen, pure_room, pure_count, pure_before, pure_none, pure_end, pure_other, pure_point, rules)
