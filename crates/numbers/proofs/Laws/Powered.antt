-- What stands behind a mantissa: the end of the word, or a mark and a power.
use Rattle.std.proofs.Math.Path.{◌≡◌, refl, sym, ap}
use Rattle.std.proofs.Common.{◌∙◌, arith, rules, Option, Some, None, ℕ}
use mathlib.Core.List.{List, [], ◌∷◌, ◌++◌, append-nil}
use Rattle.std.specs.Prelude.{Bool, ◌||◌, ℕ, ◌≤◌, eqb, ℤ, ◌-ℤ◌}
use Rattle.std.proofs.Math.Bool.{true, false}
use Rattle.std.proofs.Math.IntN.{pos}
use Rattle.lists.proofs.Laws.Booleans.{clash}
use Rattle.grammar.specs.Bytes.{blank}
use Rattle.grammar.specs.Look.{Word}
use Rattle.lists.specs.Lists.{all}
use Rattle.numbers.specs.Numbers.{digit, digits, value, parts, on_first, power_mark, Sign, minus, unsigned, with_sign, mantissa}
use Rattle.numbers.specs.Numbers.{places, power_parts, written_power, power, scaled, scaled_value}
use Rattle.numbers.proofs.Laws.Cuts.{parts_some, parts_end, parts_cut, parts_join, digit_no_mark}
use Rattle.numbers.specs.Cuts.{none, more}
use Rattle.numbers.proofs.Laws.Forms.{parts_one, parts_two}
use Rattle.numbers.specs.Stream.{char_at, stream, word_ends}
use Rattle.numbers.proofs.Laws.Stream.{char_byte, char_end}
use Rattle.numbers.specs.Spelled.{reads, fails, pure_decimal, pure_value, Mantissa, Powered, power_digits}
use Rattle.numbers.proofs.Laws.SpelledSame.{onward, cut_word}
use Rattle.numbers.specs.Spelled.{power_value, Raised, SignLeads}
use Rattle.numbers.proofs.Laws.Mantissa.{mantissa_no_mark}
use Rattle.numbers.proofs.Laws.Integers.{power_within, less_nothing}
use Rattle.numbers.specs.Answers.{sign_if}
use Rattle.numbers.specs.declared.Source.{Source}
use Rattle.numbers.specs.declared.Lead.{Lead}
use Rattle.numbers.specs.declared.Decimal.{Decimal}

-- a mantissa alone, and one before a part that is a power
module _ (m : Word) (right : mantissa m ≡ true) where
  pub alone : (n : ℕ) → places m ≡ n → n ≤ 45 → scaled (m ∷ []) ≡ true
  unfolding scaled power_parts power written_power
  alone n e h = rw (right, e, sym (less_nothing n)) (power_within minus n h)

  module _ (x : Word) (s : Sign) (w : Word) (signs : unsigned true x ≡ record { sign = s; rest = w }) where
    with_power : scaled (m ∷ x ∷ []) ≡ power_digits s (places m) w
    unfolding scaled power_parts power written_power power_digits
    with_power = rw (right, signs) refl

    power_of : power m (x ∷ []) ≡ with_sign s (value w) -ℤ pos (places m)
    unfolding power written_power
    power_of = rw signs refl

  two_marks : (x y : Word) (l : List Word) → scaled (m ∷ x ∷ y ∷ l) ≡ false
  unfolding scaled power_parts
  two_marks x y l = rw right refl

wrong_mantissa : (m : Word) (l : List Word) → mantissa m ≡ false → scaled (m ∷ l) ≡ false
unfolding scaled
wrong_mantissa m l h = rw h refl

no_digits : (s : Sign) (n : ℕ) (w : Word) → all digit w ≡ false → power_digits s n w ≡ false
unfolding power_digits digits
no_digits s n w h = rw h refl

pub same_decimal : {a b p q : ℤ} → a ≡ b → p ≡ q → ◌≡◌ {A = Decimal} (record { amount = a; power = p }) (record { amount = b; power = q })
same_decimal e f = rw (e, f) refl

module _ (source : Source) (text : List ℕ) (at : ℕ) (a : ℤ) (n : ℕ) where
  -- the word ends here
  ended : n ≤ 15 → {p : ℤ} → p ≡ with_sign (sign_if true) n → word_ends (stream source text at) ≡ true
      → Powered source text at a n (Some ((record { amount = a; power = p }), at))
  unfolding pure_decimal pure_value scaled_value power written_power sign_if
  ended few {p} e w = record {
    reading = λ {s} {m} k.
        let q : parts power_mark (m ++ []) ≡ m ∷ [] = ap (parts power_mark) (append-nil m) ∙ parts_end (mantissa_no_mark m k.right) in
        let z : p ≡ pos 0 -ℤ pos (places m) = e ∙ less_nothing n ∙ ap (λ i. pos 0 -ℤ pos i) (sym k.placed) in
        let v : ◌≡◌ {A = Decimal} (record { amount = a; power = p }) (pure_value s (m ++ [])) =
        same_decimal (sym k.amounts) z ∙ sym (rw q refl) in
        reads [] (ap scaled q ∙ alone m k.right n k.placed (omega arith)) v none refl w;
  }

  module _ {c : Option (ℕ × ℕ)} (ec : c ≡ char_at source text at) where
    pub powered_end : c ≡ None → n ≤ 15 → {p : ℤ} → p ≡ with_sign (sign_if true) n
        → Powered source text at a n (Some ((record { amount = a; power = p }), at))
    unfolding word_ends
    powered_end e few h = ended few h (ap word_ends (char_end source text at ec e))

    module _ {b j : ℕ} (e : c ≡ Some (b, j)) where
      next_is : stream source text at ≡ b ∷ stream source text j
      next_is = (char_byte source text at ec e).splits

      pub powered_blank : {t : Bool} → t ≡ blank b → t ≡ true → n ≤ 15 → {p : ℤ} → p ≡ with_sign (sign_if true) n
          → Powered source text at a n (Some ((record { amount = a; power = p }), at))
      unfolding word_ends
      powered_blank q k few h = ended few h (ap word_ends next_is ∙ sym q ∙ k)

      module _ {t : Bool} (q : t ≡ blank b) (k : t ≡ false) {u : Bool} (eu : u ≡ power_mark b) where
        pub powered_other : u ≡ false → Powered source text at a n None
        unfolding pure_decimal parts on_first
        powered_other h = record {
          reading = λ {s} {m} f.
              let r = cut_word (stream source text j) in
              let o = parts_some power_mark r.front in
              let p : parts power_mark (b ∷ r.front) ≡ (b ∷ o.first) ∷ o.others = rw (sym eu, h, o.are) refl in
              let w : scaled (parts power_mark (m ++ (b ∷ r.front))) ≡ false = ap scaled
              (parts_join (b ∷ r.front) (b ∷ o.first) o.others (mantissa_no_mark m f.right) p)
              ∙ wrong_mantissa (m ++ (b ∷ o.first)) o.others
              (f.stopped b (stream source text j) next_is (sym eu ∙ h) o.first) in
              fails (b ∷ r.front) r.rest w (more (sym q ∙ k) r.uncut) (next_is ∙ ap (λ l. b ∷ l) r.splits) r.ends;
        }

        -- a mark, a sign if there is one, and digits
        module _ (h : u ≡ true) {lead : Lead} (l : SignLeads source text j lead) where
          behind_mark : {m : Word} → mantissa m ≡ true → (x : Word) → {f : Word} {o : List Word} → parts power_mark x ≡ f ∷ o
              → parts power_mark (m ++ ((b ∷ l.front) ++ x)) ≡ m ∷ (l.front ++ f) ∷ o
          behind_mark {m} right x {f} {o} e =
              parts_cut b (l.front ++ x) (mantissa_no_mark m right) (sym eu ∙ h) ∙ ap (λ z. m ∷ z) (parts_join x f o l.no_mark e)

          agree : {s : Sign} {m : Word} → Mantissa source text at s a n m → (x y : Word) → stream source text lead.next ≡ x ++ y
              → (pure_decimal (m ++ ((b ∷ l.front) ++ x)) ≡ power_digits (sign_if lead.negative) n x)
              × (power_digits (sign_if lead.negative) n x ≡ true
              → pure_value s (m ++ ((b ∷ l.front) ++ x)) ≡ power_value (sign_if lead.negative) a n x)
          unfolding pure_decimal pure_value scaled_value power_value
          agree {s} {m} f x y e = go (parts_some power_mark x).first (parts_some power_mark x).others (parts_some power_mark x).are
            where
              go : (i : Word) (o : List Word) → parts power_mark x ≡ i ∷ o
                  → (pure_decimal (m ++ ((b ∷ l.front) ++ x)) ≡ power_digits (sign_if lead.negative) n x)
                  × (power_digits (sign_if lead.negative) n x ≡ true
                  → pure_value s (m ++ ((b ∷ l.front) ++ x)) ≡ power_value (sign_if lead.negative) a n x)
              go i [] z =
                  let v = parts_one power_mark x i z in
                  let p = behind_mark f.right x z in
                  let g = rw v at (l.signs x y e) in (
                    ap scaled p ∙ with_power m f.right (l.front ++ i) (sign_if lead.negative) i g
                        ∙ rw (f.placed, v) refl,
                    λ r. rw p (same_decimal f.amounts
                        (power_of m f.right (l.front ++ i) (sign_if lead.negative) i g ∙ rw (f.placed, v) refl)),
                  )
              go i (i₁ ∷ o) z =
                  let d = no_digits (sign_if lead.negative) n x (parts_two power_mark digit_no_mark x i i₁ o z) in (
                    ap scaled (behind_mark f.right x z) ∙ two_marks m f.right (l.front ++ i) i₁ o ∙ sym d,
                    λ r. clash (cc),
                  )

          pub powered_mark : {r : Option (Decimal × ℕ)} → Raised source text lead.next (sign_if lead.negative) a n r → Powered source text at a n r
          powered_mark p = record {
            reading = λ f. onward (b ∷ l.front) (agree f) (more (sym q ∙ k) l.no_blank) (next_is ∙ ap (λ z. b ∷ z) l.splits)
                p.reading;
          }

pub mark_is : (b : ℕ) → (eqb b 69 || eqb b 101) ≡ power_mark b
unfolding power_mark
mark_is b = refl

pub ruleset powering = (powered_end, powered_blank, powered_other, powered_mark, rules)
