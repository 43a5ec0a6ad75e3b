-- Decimals: the sign in front, and the whole value of an attribute.
use Rattle.std.proofs.Math.Path.{◌≡◌, refl, sym, ap}
use Rattle.std.proofs.Common.{◌∙◌, arith, inl, inr, ⊎_elim, rules, ne_eqb, Option, Some, None, ℕ}
use Rattle.std.proofs.lemmas.Option.{some_pair_parts}
use mathlib.Core.List.{List, [], ◌∷◌, ◌++◌, append-nil}
use Rattle.std.specs.Prelude.{Bool, true, false, ℕ, suc, ◌+◌, ◌≤◌, ◌⊎◌, length, get_or}
use Rattle.lists.proofs.Laws.Booleans.{clash}
use Rattle.grammar.specs.Bytes.{blank}
use Rattle.grammar.specs.Look.{Word}
use Rattle.lists.specs.Lists.{all}
use Rattle.nodes.specs.Values.{value_there}
use Rattle.numbers.specs.Numbers.{digits, parts, power_mark, plus, unsigned, decimal_parts, mantissa}
use Rattle.numbers.specs.Numbers.{scaled, decimal, decimal_value}
use Rattle.numbers.specs.Cuts.{none, more}
use Rattle.numbers.specs.Stream.{char_at, stream, word_ends}
use Rattle.numbers.proofs.Laws.Stream.{char_byte, char_end}
use Rattle.numbers.specs.Spelled.{Reading, reads, fails, Spelled, pure_decimal, pure_value, Pure, SignLeads}
use Rattle.numbers.proofs.Laws.SpelledSame.{onward}
use Rattle.numbers.proofs.Laws.Mantissa.{decimal_blank}
use Rattle.numbers.specs.Answers.{sign_if, decimal_in}
use Rattle.numbers.proofs.Laws.Values.{there, past}
use Rattle.numbers.specs.declared.Source.{Source}
use Rattle.numbers.specs.declared.Source.TheVariants.{Value}
use Rattle.numbers.specs.declared.Lead.{Lead}
use Rattle.numbers.specs.declared.Decimal.{Decimal}

no_decimal_lem : decimal [] ≡ false
unfolding decimal unsigned scaled mantissa decimal_parts parts digits all
no_decimal_lem = refl

-- no sign, where what is ahead begins with none
bare_start : (b : ℕ) → (b ≡ 45 → ⊥) → (b ≡ 43 → ⊥) → (x y w : Word) → b ∷ w ≡ x ++ y → unsigned true x ≡ record { sign = plus; rest = x }
unfolding unsigned
bare_start b h k [] y w e = refl
bare_start b h k (a ∷ x) y w e = let q : b ≡ a = cc in rw (ne_eqb a 45 (λ z. h (q ∙ z)), ne_eqb a 43 (λ z. k (q ∙ z))) refl

bare_end : (x y : Word) → [] ≡ x ++ y → unsigned true x ≡ record { sign = plus; rest = x }
unfolding unsigned
bare_end [] y e = refl
bare_end (a ∷ x) y e = clash (cc)

module _ (source : Source) (text : List ℕ) (at : ℕ) {c : Option (ℕ × ℕ)} (ec : c ≡ char_at source text at) where
  pub sign_end : c ≡ None → SignLeads source text at (record { negative = false; next = at })
  unfolding sign_if
  sign_end e = record {
    front = [];
    no_blank = none;
    no_mark = none;
    splits = refl;
    signs = λ x y s. bare_end x y (sym (char_end source text at ec e) ∙ s);
  }

  module _ {b j : ℕ} (e : c ≡ Some (b, j)) where
    ahead : stream source text at ≡ b ∷ stream source text j
    ahead = (char_byte source text at ec e).splits

    pub sign_minus : b ≡ 45 → SignLeads source text at (record { negative = true; next = j })
    unfolding sign_if unsigned blank power_mark
    sign_minus h = record {
      front = 45 ∷ [];
      no_blank = more refl none;
      no_mark = more refl none;
      splits = ahead ∙ ap (λ a. a ∷ stream source text j) h;
      signs = λ x y s. refl;
    }

    pub sign_plus : b ≡ 43 → SignLeads source text at (record { negative = false; next = j })
    unfolding sign_if unsigned blank power_mark
    sign_plus h = record {
      front = 43 ∷ [];
      no_blank = more refl none;
      no_mark = more refl none;
      splits = ahead ∙ ap (λ a. a ∷ stream source text j) h;
      signs = λ x y s. refl;
    }

    pub sign_none : (b ≡ 45 → ⊥) → (b ≡ 43 → ⊥) → SignLeads source text at (record { negative = false; next = at })
    unfolding sign_if
    sign_none h k = record {
      front = [];
      no_blank = none;
      no_mark = none;
      splits = refl;
      signs = λ x y s. bare_start b h k x y (stream source text j) (sym ahead ∙ s);
    }

pub ruleset signs_of = (sign_end, sign_minus, sign_plus, sign_none, rules)

-- a sign, and a decimal without
signed_form : (t : Bool) (w x : Word) → unsigned true w ≡ record { sign = sign_if t; rest = x }
    → (decimal w ≡ pure_decimal x) × (pure_decimal x ≡ true → decimal_value w ≡ pure_value (sign_if t) x)
unfolding decimal decimal_value pure_decimal pure_value
signed_form t w x e = (rw e refl, λ h. rw e refl)

pub sign_read : {source : Source} {text : List ℕ} {at : ℕ} {lead : Lead} → SignLeads source text at lead → {r : Option (Decimal × ℕ)}
    → Pure source text lead.next (sign_if lead.negative) r → Spelled source text at r
sign_read l p = record {
  reading = onward l.front (λ x y e. signed_form _ (l.front ++ x) x (l.signs x y e)) l.no_blank l.splits p.reading;
}

pub ruleset reading_signs = (sign_read, rules)

-- the whole value
refused : (w : Word) → decimal w ≡ false → None ≡ decimal_in w
unfolding decimal_in
refused w e = sym (rw e refl)

not_ended : (x y : Word) → word_ends y ≡ true → (decimal x ≡ false) ⊎ (length y ≡ 0 → ⊥) → decimal (x ++ y) ≡ false
unfolding word_ends
not_ended x [] n h = ap decimal (append-nil x) ∙ ⊎_elim (λ f. f) (λ f. absurd (f refl)) h
not_ended x (b ∷ y) n h = decimal_blank x b y n

module _ (text : List ℕ) (at : ℕ) where
  pub decimal_past : length text ≤ at → None ≡ decimal_in (value_there text at)
  decimal_past h = refused (value_there text at) (ap decimal (past text at h) ∙ no_decimal_lem)

  module _ {r : Option (Decimal × ℕ)} (p : Spelled (Value (get_or text at 0)) text (at + 1) r) where
    pub decimal_fails : r ≡ None → None ≡ decimal_in (value_there text at)
    decimal_fails e = go p.reading e
      where
        go : {x : Option (Decimal × ℕ)} → Reading (Value (get_or text at 0)) text (at + 1) decimal decimal_value x → x ≡ None
            → None ≡ decimal_in (value_there text at)
        go (fails x y f u s n) q = refused (value_there text at) (ap decimal (there text at ∙ s) ∙ not_ended x y n (inl f))
        go (reads x f d u s n) q = let z : ◌≡◌ {A = ℕ} 0 1 = cc in absurd (omega arith)

    module _ {d : Decimal} {j : ℕ} (e : r ≡ Some (d, j)) {c : Option (ℕ × ℕ)} (ec : c ≡ char_at (Value (get_or text at 0)) text j) where
      pub decimal_more : {b k : ℕ} → c ≡ Some (b, k) → None ≡ decimal_in (value_there text at)
      decimal_more {b} {k} q = go p.reading e
        where
          next_is : stream (Value (get_or text at 0)) text j ≡ b ∷ stream (Value (get_or text at 0)) text k
          next_is = (char_byte (Value (get_or text at 0)) text j ec q).splits

          go : {x : Option (Decimal × ℕ)} → Reading (Value (get_or text at 0)) text (at + 1) decimal decimal_value x → x ≡ Some (d, j)
              → None ≡ decimal_in (value_there text at)
          go (fails x y f u s n) q = let z : ◌≡◌ {A = ℕ} 0 1 = cc in absurd (omega arith)
          go (reads x {j = i} f v u s n) q =
              let w = (some_pair_parts _ _ _ _ q).1 in
              let l : stream (Value (get_or text at 0)) text i ≡ b ∷ stream (Value (get_or text at 0)) text k =
              ap (stream (Value (get_or text at 0)) text) w ∙ next_is in
              refused (value_there text at)
              (ap decimal (there text at ∙ s)
              ∙ not_ended x (stream (Value (get_or text at 0)) text i) n
              (inr λ z. (let y : length (stream (Value (get_or text at 0)) text i)
              ≡ suc (length (stream (Value (get_or text at 0)) text k)) = ap length l in omega arith)))

      pub decimal_is : c ≡ None → Some d ≡ decimal_in (value_there text at)
      unfolding decimal_in
      decimal_is q = go p.reading e
        where
          go : {x : Option (Decimal × ℕ)} → Reading (Value (get_or text at 0)) text (at + 1) decimal decimal_value x → x ≡ Some (d, j)
              → Some d ≡ decimal_in (value_there text at)
          go (fails x y f u s n) h = let z : ◌≡◌ {A = ℕ} 0 1 = cc in absurd (omega arith)
          go (reads x {j = i} {d = v} f m u s n) h =
              let parts = some_pair_parts _ _ _ _ h in
              let k = parts.0 in
              let w = parts.1 in
              let l : stream (Value (get_or text at 0)) text i ≡ [] = ap (stream (Value (get_or text at 0)) text) w
              ∙ char_end (Value (get_or text at 0)) text j ec q in
              let is : value_there text at ≡ x = there text at ∙ s ∙ ap (λ y. x ++ y) l ∙ append-nil x in
              sym (rw (is, f) (ap Some (sym m ∙ k)))

pub ruleset decimals_of = (decimal_past, decimal_fails, decimal_more, decimal_is, rules)
