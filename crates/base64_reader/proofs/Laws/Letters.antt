-- The next letter that is no blank, and the value of a letter.
use Rattle.std.specs.Prelude.{◌≡◌, refl, List, [], ◌∷◌, Bool, not, ℕ, ◌^◌, ◌<◌, ◌≤◌, leb, Option, Some, None}
use Rattle.std.proofs.Math.Path.{sym, ap}
use Rattle.std.proofs.Common.{◌∙◌, arith, rules}
use Rattle.std.proofs.lemmas.Option.{some_pair_parts}
use Rattle.std.proofs.Math.Bool.{true, false}
use borrow.Author.Tests.{not-true, not-false, leb-true}
use Rattle.std.proofs.Math.ListN.{length, get_or}
use Rattle.lists.specs.Lists.{those, all_below}
use Rattle.lists.proofs.Laws.Quantifiers.{all_below_iff}
use Rattle.lists.proofs.Laws.Tables.{entry_of_table, size_of_table}
use Rattle.lists.proofs.Laws.Booleans.{clash}
use Rattle.grammar.specs.Bytes.{blank}
use Rattle.nodes.specs.Texts.{says_at, left}
use Rattle.numbers.specs.Stream.{char_at, letter_at, stream, left_in}
use Rattle.numbers.proofs.Laws.Stream.{char_byte, char_end}
use Rattle.numbers.specs.declared.Source.TheVariants.{Contents}
use Rattle.base64_text.specs.Base64.{unblanked, worth}
use Rattle.base64_reader.specs.Groups.{values_lent, letters_at, Letter, LetterTold}

pub letter_told : {text : List ℕ} {i b j : ℕ} → Letter text i b j → LetterTold text i (Some (b, j))
letter_told {text} {i} {b} {j} h = record {
  on_letter = λ {b = c} {j = k} e. (let p = some_pair_parts _ _ _ _ e in rw (p.0, p.1) at h);
  on_end = λ e. clash (cc);
}

pub end_told : {text : List ℕ} {i : ℕ} → letters_at text i ≡ [] → LetterTold text i None
end_told h = record { on_letter = λ e. clash (cc); on_end = λ e. h }

-- blanks are passed over
pub record Passing (text : List ℕ) (at i : ℕ) : Type 0 where
  pub same : letters_at text at ≡ letters_at text i
  pub less : left text i ≤ left text at

pub passing_start : (text : List ℕ) (at : ℕ) → Passing text at at
passing_start text at = record { same = refl; less = omega arith }

module _ {text : List ℕ} {at i : ℕ} (go : Passing text at i) {c : Option (ℕ × ℕ)} (ec : c ≡ letter_at text i) where
  from : c ≡ char_at Contents text i
  unfolding char_at
  from = ec

  pub passing_end : c ≡ None → LetterTold text at None
  unfolding letters_at unblanked those stream
  passing_end e = end_told (go.same ∙ rw (char_end Contents text i from e) refl)

  module _ {b j : ℕ} (e : c ≡ Some (b, j)) where
    begins : says_at text i ≡ b ∷ says_at text j
    unfolding stream
    begins = (char_byte Contents text i from e).splits

    pub passing_less : left text j < left text i
    unfolding left_in
    passing_less = (char_byte Contents text i from e).ahead

    module _ {t : Bool} (et : t ≡ blank b) where
      pub passing_on : not t ≡ false → Passing text at j
      unfolding letters_at unblanked those
      passing_on n =
          let k : blank b ≡ true = sym et ∙ not-false t n in
          record { same = go.same ∙ rw (begins, k) refl; less = omega (arith, go.less, passing_less) }

      pub passing_letter : not t ≡ true → LetterTold text at (Some (b, j))
      unfolding letters_at unblanked those
      passing_letter n =
          let k : blank b ≡ false = sym et ∙ not-true t n in
          letter_told (record { splits = go.same ∙ rw (begins, k) refl; less = omega (arith, go.less, passing_less) })

pub ruleset passing = (passing_start, passing_end, passing_less, passing_on, passing_letter, rules)

-- THE VALUE OF EACH BYTE, as it is lent
few : all_below 256 (λ b. leb (worth b) 65) ≡ true
unfolding all_below worth
few = refl

module _ {values : List ℕ} (lent : values ≡ values_lent) (b : ℕ) (byte : b < 256) where
  pub value_is : get_or values b 0 ≡ worth b
  unfolding values_lent
  value_is = ap (λ l. get_or l b 0) lent ∙ entry_of_table worth 0 256 b byte

  pub value_inside : b < length values
  unfolding values_lent
  value_inside = omega (arith, ap length lent ∙ size_of_table worth 256)

  pub value_fits : get_or values b 0 < 2 ^ 64
  value_fits =
      let k : worth b ≤ 65 = leb-true (worth b) 65 ((all_below_iff 256 (λ b. leb (worth b) 65)).0 few b byte) in
      rw value_is (omega arith)

pub ruleset valuing = (value_inside, value_fits, value_is, rules)
