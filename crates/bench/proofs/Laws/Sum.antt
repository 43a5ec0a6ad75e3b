-- The sum of a list, number after number.
use Rattle.std.specs.Prelude.{◌≡◌, ℕ, ◌+◌, ◌%◌, ◌^◌, ◌<◌, List}
use Rattle.std.proofs.Math.Path.{refl, sym}
use Rattle.std.proofs.Common.{◌∙◌, arith, rules}
use Rattle.lists.specs.Lists.{all, total}
use Rattle.grammar.specs.Look.{Word}
use Rattle.nodes.specs.Texts.{says_at, left}
use Rattle.numbers.specs.Numbers.{digits, value, words}
use Rattle.numbers.specs.Answers.{next_number}
use Rattle.numbers.proofs.Laws.Walk.{number_law, end_law, bad_law}
use Rattle.numbers.specs.declared.Next.{Next}
use Rattle.numbers.specs.declared.Next.TheVariants.{Number, End, Bad}
use Rattle.bench.specs.Sum.{sum_of_words, sum_from}

-- the words that are ahead of a place
abbrev words_at : List ℕ → ℕ → List Word
words_at text i = words (says_at text i)

-- what is summed up to a place, and what is left
pub record Summed (text : List ℕ) (at sum i : ℕ) : Type 0 where
  pub formed : all (digits 1 7) (words_at text at) ≡ all (digits 1 7) (words_at text i)
  pub added : total value (words_at text at) % 2 ^ 64 ≡ (sum + total value (words_at text i)) % 2 ^ 64
  pub small : sum < 2 ^ 64

wrapped : (a b c : ℕ) → ((a + b) % 2 ^ 64 + c) % 2 ^ 64 ≡ (a + (b + c)) % 2 ^ 64
wrapped a b c = omega arith

module _ (text : List ℕ) (at : ℕ) where
  pub sum_starts : Summed text at 0 at
  sum_starts = record { formed = refl; added = omega arith; small = omega arith }

  module _ {sum i : ℕ} (summed : Summed text at sum i) {r : Next} (e : r ≡ next_number text i) where
    pub sum_nearer : {v j : ℕ} → r ≡ Number v j → left text j < left text i
    sum_nearer q = (number_law text i e q).ahead

    pub sum_more : {v j s : ℕ} → r ≡ Number v j → s ≡ (sum + v) % 2 ^ 64 → Summed text at s j
    unfolding all total
    sum_more {v} {j} {s} q g =
        let h = number_law text i e q in
        let f : all (digits 1 7) (words_at text i) ≡ all (digits 1 7) (words_at text j) = rw (h.splits, h.in_form_lem) refl in
        let t : total value (words_at text i) ≡ v + total value (words_at text j) = rw (h.splits, h.valued) refl in
        record {
          formed = summed.formed ∙ f;
          added = summed.added ∙ rw (t, g) (sym (wrapped sum v (total value (words_at text j))));
          small = rw g (omega arith);
        }

    pub sum_ends : r ≡ End → sum ≡ sum_from text at
    unfolding all total sum_from sum_of_words
    sum_ends q =
        let h = end_law text i e q in
        let f : all (digits 1 7) (words_at text at) ≡ all (digits 1 7) (words_at text i) = summed.formed in
        let t : total value (words_at text at) % 2 ^ 64 ≡ sum = summed.added ∙ rw h (omega (arith, summed.small)) in
        sym (rw (summed.formed, h, t) refl)

    pub sum_fails : r ≡ Bad → 0 ≡ sum_from text at
    unfolding all sum_from sum_of_words
    sum_fails q = let h = bad_law text i e q in sym (rw (summed.formed, h.splits, h.out_of_form) refl)

pub ruleset sumSteps = (sum_starts, sum_nearer, sum_more, sum_ends, sum_fails, rules)
