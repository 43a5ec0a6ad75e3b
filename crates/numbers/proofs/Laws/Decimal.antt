-- Decimals behind the point: what stands there, from the digits that are found.
use Rattle.std.specs.Prelude.{◌≡◌, List, [], ◌∷◌, ◌++◌, Bool, ℕ, ◌+◌, ◌-◌, ◌^◌, ◌≤◌, ◌<◌, ℤ, drop, Option, None}
use Rattle.std.proofs.Math.Path.{refl, sym, ap}
use Rattle.std.proofs.Common.{◌∙◌, append_assoc, append-nil, arith, rules, le-leb}
use Rattle.std.proofs.Math.Bool.{true, false}
use Rattle.std.proofs.Math.ListN.{length}
use Rattle.grammar.specs.Document.{together}
use Rattle.grammar.specs.Look.{Word}
use Rattle.lists.specs.Lists.{all}
use Rattle.numbers.specs.Numbers.{digit, digits, number, value, parts, point, power_mark, Sign, with_sign, decimal_parts}
use Rattle.numbers.specs.Numbers.{mantissa, places}
use Rattle.numbers.proofs.Laws.Cuts.{uncut_join, parts_some, parts_end, parts_cut}
use Rattle.numbers.specs.Cuts.{Uncut, none, more}
use Rattle.numbers.proofs.Laws.Cuts.{digit_no_point, digit_no_mark, digits_uncut, digits_are, number_append, number_below, powers}
use Rattle.numbers.specs.Stream.{stream, digits_at}
use Rattle.numbers.proofs.Laws.Stream.{Ran, digits_law}
use Rattle.numbers.specs.Spelled.{fails, pure_decimal, pure_value, pointed, DigitsInFront, Pointed, Mantissa}
use Rattle.numbers.specs.Spelled.{Powered}
use Rattle.numbers.proofs.Laws.SpelledSame.{onward}
use Rattle.numbers.proofs.Laws.Mantissa.{wrong_two, wrong_three}
use Rattle.numbers.proofs.Laws.Ahead.{uncut_point, uncut_blank, first_part, other_part, cut, word, word_uncut, word_splits}
use Rattle.numbers.proofs.Laws.Ahead.{empty_read, before_mark, stop_mark, wrong_front}
use Rattle.numbers.specs.declared.Source.{Source}
use Rattle.numbers.specs.declared.Run.{Run}
use Rattle.numbers.specs.declared.Decimal.{Decimal}

-- a mantissa in two parts
two_right : (u v : Word) → all digit u ≡ true → all digit v ≡ true → 1 ≤ length u → 1 ≤ length v → length u + length v ≤ 15
    → decimal_parts (u ∷ v ∷ []) ≡ true
unfolding decimal_parts
two_right u v p q a b h = rw (
  digits_are 1 15 u p a (omega arith),
  digits_are 1 15 v q b (omega arith),
  le-leb (length u + length v) 15 h,
) refl

two_value : (u v : Word) → value (together (u ∷ v ∷ [])) ≡ number (value u) v
unfolding value
two_value u v = rw (append-nil v) (number_append 0 u v)

module _ (u : Word) (all_digits : all digit u ≡ true) where
  no_point : Uncut point u
  no_point = digits_uncut digit_no_point u all_digits

  pub point_cut : (x : Word) → parts point (pointed u x) ≡ u ∷ parts point x
  unfolding pointed point
  point_cut x = parts_cut 46 x no_point refl

  pub front_unmarked : Uncut power_mark (pointed u [])
  unfolding pointed power_mark
  front_unmarked = uncut_join (digits_uncut digit_no_mark u all_digits) (more refl none)

pointed_join : (u x : Word) → pointed u x ≡ pointed u [] ++ x
unfolding pointed
pointed_join u x = sym (append_assoc u (46 ∷ []) x)

-- behind the point
module _ (source : Source) (text : List ℕ) (before count at : ℕ) {run : Run} (some : count ≤ 15)
    (er : run ≡ digits_at source text (15 - count) before 0 at) where
  ran : Ran source text (15 - count) before 0 at run
  ran = rw er (digits_law source text (15 - count) before 0 at)

  pub places_small : before < 10 ^ count → run.value < 10 ^ 15
  places_small h =
      let p : 10 ^ (count + length ran.read) ≤ 10 ^ 15 = powers (count + length ran.read) 15 (omega (arith, ran.few)) in
      omega (arith, number_below count before ran.read ran.all_digits h, ran.valued)

  pub places_few : run.count ≤ 15
  places_few = omega (arith, ran.counted, ran.few)

  module _ (s : Sign) where
    pub places_none : run.count ≡ 0 → Pointed source text at before count s None
    unfolding word pure_decimal pointed mantissa
    places_none z = record {
      reading = λ {u} k.
          let f = first_part (15 - count) ran.read ran.all_digits ran.few (before_mark ran).first (stop_mark ran) in
          let d : digits 1 (15 - count) f.0 ≡ false = f.3.1 (empty_read ran z) in
          let l : digits 1 (15 - length u) f.0 ≡ false = rw k.counted d in
          let w : mantissa (pointed u (ran.read ++ (before_mark ran).first)) ≡ false =
          ap decimal_parts (point_cut u k.all_digits (ran.read ++ (before_mark ran).first) ∙ ap (λ i. u ∷ i) f.2)
          ∙ wrong_two u f.0 f.1 (omega (arith, k.counted)) l in
          let q : pure_decimal (pointed u (word ran)) ≡ false =
          ap pure_decimal (pointed_join u (word ran))
          ∙ wrong_front ran (front_unmarked u k.all_digits)
          (ap mantissa (sym (pointed_join u (ran.read ++ (before_mark ran).first))) ∙ w) in
          fails (word ran) (cut ran).rest q (word_uncut ran) (word_splits ran) (cut ran).ends;
    }

    module _ (found : run.count ≡ 0 → ⊥) {a : ℤ} (ea : a ≡ with_sign s run.value) where
      module _ {u : Word} (k : DigitsInFront u before count) where
        abbrev both : Word
        both = pointed u ran.read

        in_two : parts point both ≡ u ∷ ran.read ∷ []
        in_two = point_cut u k.all_digits ran.read
            ∙ ap (λ i. u ∷ i) (parts_end (uncut_point (15 - count) ran.read ran.all_digits ran.few))

        stopped : (b : ℕ) (x : Word) → stream source text run.next ≡ b ∷ x → (y : Word) → mantissa (both ++ (b ∷ y)) ≡ false
        unfolding mantissa pointed
        stopped b x e y =
            ap (λ i. decimal_parts (parts point i)) (append_assoc u (46 ∷ ran.read) (b ∷ y))
            ∙ ap decimal_parts (point_cut u k.all_digits (ran.read ++ (b ∷ y))) ∙ go (point b) refl
          where
            go : (t : Bool) → point b ≡ t → decimal_parts (u ∷ parts point (ran.read ++ (b ∷ y))) ≡ false
            go false h =
                let f = other_part (15 - count) ran.read ran.all_digits ran.few b y h (ran.stops b x e) in
                let l : digits 1 (15 - length u) f.0 ≡ false = rw k.counted f.3 in
                ap (λ i. decimal_parts (u ∷ i)) f.2 ∙ wrong_two u f.0 f.1 (omega (arith, k.counted)) l
            go true h =
                let m = parts_some point y in
                ap (λ i. decimal_parts (u ∷ i))
                (parts_cut b y (uncut_point (15 - count) ran.read ran.all_digits ran.few) h ∙ ap (λ i. ran.read ∷ i) m.are)
                ∙ wrong_three u ran.read m.first m.others

        mantissa_is : Mantissa source text run.next s a run.count both
        unfolding mantissa places
        mantissa_is = record {
          right = ap decimal_parts in_two
              ∙ two_right u ran.read k.all_digits ran.all_digits k.some (omega (arith, ran.counted))
              (omega (arith, k.counted, ran.few));
          amounts = ap (λ i. with_sign s (value (together i))) in_two
              ∙ ap (with_sign s) (two_value u ran.read ∙ ap (λ i. number i ran.read) k.valued ∙ sym ran.valued) ∙ sym ea;
          placed = ap (λ i. length (together (drop 1 i))) in_two ∙ ap length (append-nil ran.read) ∙ omega (arith, ran.counted);
          stopped = λ b x e h y. stopped b x e y;
        }

      goes_on : (u x : Word) → pointed u (ran.read ++ x) ≡ pointed u ran.read ++ x
      unfolding pointed
      goes_on u x = sym (append_assoc u (46 ∷ ran.read) x)

      pub places_read : {r : Option (Decimal × ℕ)} → Powered source text run.next a run.count r → Pointed source text at before count s r
      places_read p = record {
        reading = λ {u} k. onward ran.read (λ x y e. (ap pure_decimal (goes_on u x), λ h. ap (pure_value s) (goes_on u x)))
            (uncut_blank (15 - count) ran.read ran.all_digits ran.few) ran.splits
            (p.reading (mantissa_is k));
      }

pub point_room : {before count : ℕ} → (count ≤ 15) × (before < 10 ^ count) → (15 - count ≤ 15) × (before < 10 ^ (15 - (15 - count)))
point_room {before} {count} h = let e : 15 - (15 - count) ≡ count = omega arith in (omega arith, rw e h.1)

pub ruleset placing = (point_room, places_none, places_small, places_few, places_read, rules)
