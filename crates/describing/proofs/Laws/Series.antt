-- What is proved of Series.
use Rattle.std.specs.Prelude.{◌≡◌, List, true, ℕ, ℤ, pos, Option, Some, None}
use Rattle.std.proofs.Math.Path.{refl, sym, ap}
use Rattle.std.proofs.Common.{◌∙◌, rules}
use Rattle.lists.specs.Lists.{all}
use Rattle.grammar.specs.Bytes.{ascii}
use Rattle.grammar.specs.Look.{Word, attr}
use Rattle.nodes.specs.Places.{Stands, the}
use Rattle.nodes.specs.Attributes.{place}
use Rattle.nodes.specs.Values.{value_there}
use Rattle.numbers.specs.Numbers.{numbers, decimal, decimal_value, no_decimal, exponent, exponent_value}
use Rattle.numbers.specs.Answers.{decimal_in, exponent_in}
use Rattle.numbers.specs.declared.Decimal.{Decimal}
use Rattle.cifti.specs.Words.{units, number_in}
use Rattle.cifti.specs.declared.answer.Series as S
use Rattle.maps.proofs.Laws.Kinds.{SeriesFacts, series_facts}
use Rattle.maps.specs.Fields.{attribute_word}
use Rattle.maps.proofs.Laws.Fields.{word_at, found_value, found_none}
use Rattle.describing.specs.Series.{or_no_decimal, decimal_seen, or_no_exponent, exponent_seen, SeriesAt, series_said}

decimal_seen_lem : (w : Word) → decimal w ≡ true → decimal_seen w ≡ decimal_value w
unfolding decimal_seen or_no_decimal decimal_in
decimal_seen_lem w h = rw h refl

exponent_seen_lem : (w : Word) → exponent 30 w ≡ true → exponent_seen w ≡ exponent_value w
unfolding exponent_seen or_no_exponent exponent_in
exponent_seen_lem w h = rw h refl

-- ---- The attributes.

module _ {text : List ℕ} {at : ℕ} (w : List ℕ) (st : Stands text at) {f : Option ℕ} (e : f ≡ place text at w) where
  pub decimal_is : {v : ℕ} {a : Option Decimal} {d : Decimal} → f ≡ Some v → a ≡ decimal_in (value_there text v) → a ≡ Some d
      → d ≡ decimal_seen (attribute_word w (the text at))
  unfolding decimal_seen or_no_decimal
  decimal_is h p q = sym (ap (λ x. or_no_decimal (decimal_in x)) (sym (found_value w st e h)) ∙ ap or_no_decimal (sym p ∙ q))

  pub decimal_no : {v : ℕ} {a : Option Decimal} {r : Decimal} → f ≡ Some v → a ≡ decimal_in (value_there text v) → a ≡ None → r ≡ no_decimal
      → r ≡ decimal_seen (attribute_word w (the text at))
  unfolding decimal_seen or_no_decimal
  decimal_no h p q k = k ∙ sym (ap (λ x. or_no_decimal (decimal_in x)) (sym (found_value w st e h)) ∙ ap or_no_decimal (sym p ∙ q))

  pub decimal_none : {r : Decimal} → f ≡ None → r ≡ no_decimal → r ≡ decimal_seen (attribute_word w (the text at))
  unfolding decimal_seen or_no_decimal decimal_in numbers all
  decimal_none h k = k ∙ rw (found_none w st e h) refl

  pub exponent_is : {v : ℕ} {a : Option ℤ} {n : ℤ} → f ≡ Some v → a ≡ exponent_in 30 (value_there text v) → a ≡ Some n
      → n ≡ exponent_seen (attribute_word w (the text at))
  unfolding exponent_seen or_no_exponent
  exponent_is h p q = sym (ap (λ x. or_no_exponent (exponent_in 30 x)) (sym (found_value w st e h)) ∙ ap or_no_exponent (sym p ∙ q))

  pub exponent_no : {v : ℕ} {a : Option ℤ} → f ≡ Some v → a ≡ exponent_in 30 (value_there text v) → a ≡ None
      → pos 0 ≡ exponent_seen (attribute_word w (the text at))
  unfolding exponent_seen or_no_exponent
  exponent_no h p q = sym (ap (λ x. or_no_exponent (exponent_in 30 x)) (sym (found_value w st e h)) ∙ ap or_no_exponent (sym p ∙ q))

  pub exponent_none : f ≡ None → pos 0 ≡ exponent_seen (attribute_word w (the text at))
  unfolding exponent_seen or_no_exponent exponent_in numbers all
  exponent_none h = rw (found_none w st e h) refl

pub ruleset decimalSteps = (decimal_is, decimal_no, decimal_none, rules)

pub ruleset exponentSteps = (exponent_is, exponent_no, exponent_none, rules)

pub series_stands : {text : List ℕ} {at : ℕ} → SeriesAt text at → Stands text at
series_stands s = s.stands

pub series_read : {text : List ℕ} {at : ℕ} → SeriesAt text at → {a b : Decimal} {x : ℤ} {u : ℕ}
    → a ≡ decimal_seen (attribute_word (ascii "SeriesStart") (the text at))
    → b ≡ decimal_seen (attribute_word (ascii "SeriesStep") (the text at))
    → x ≡ exponent_seen (attribute_word (ascii "SeriesExponent") (the text at)) → u ≡ number_in units (attr "SeriesUnit" (the text at))
    → ◌≡◌ {A = S.Series} (record { start = a; step = b; exponent = x; unit = u }) (series_said (the text at))
unfolding series_said
series_read {text} {at} s p q r t = build
    (p ∙ ap decimal_seen (word_at "SeriesStart" (the text at)) ∙ decimal_seen_lem _ f.start)
    (q ∙ ap decimal_seen (word_at "SeriesStep" (the text at)) ∙ decimal_seen_lem _ f.step)
    (r ∙ ap exponent_seen (word_at "SeriesExponent" (the text at)) ∙ exponent_seen_lem _ f.exponent_in_lem)
    t
  where
    f : SeriesFacts (the text at)
    f = series_facts s.good

    build : {a b c d : Decimal} {x y : ℤ} {u v : ℕ} → a ≡ c → b ≡ d → x ≡ y → u ≡ v
        → ◌≡◌ {A = S.Series} (record { start = a; step = b; exponent = x; unit = u })
        (record { start = c; step = d; exponent = y; unit = v })
    build p q r t = rw (p, q, r, t) refl

pub ruleset seriesSteps = (series_stands, series_read, rules)
