-- Plain numbers of a list are passed over, one after the other, and then one that may not be plain.
use Rattle.std.specs.Prelude.{◌≡◌, refl, List, ℕ, ◌+◌, ◌/◌, ◌%◌, ◌^◌, ◌<◌, ◌≤◌}
use Rattle.std.proofs.Common.{◌∙◌, arith, rules}
use Rattle.nodes.specs.Texts.{left}
use Rattle.numbers.specs.Answers.{next_number}
use Rattle.numbers.specs.Quick.{Quick}
use Rattle.numbers.proofs.Laws.Walk.{number_law}
use Rattle.numbers.specs.declared.Next.{Next}
use Rattle.numbers.specs.declared.Next.TheVariants.{Number}
use Rattle.forms.specs.Passed.{NumbersPassed}
use Rattle.forms.proofs.Laws.Forms.{Listing, listing_start, listing_end, listing_bad, listing_less, listing_many, listing_on}

pub passed_start : (text : List ℕ) (at most : ℕ) → NumbersPassed text at most at
passed_start text at most = record { same_list = refl; ahead = omega arith }

module _ {text : List ℕ} {at most i : ℕ} (go : NumbersPassed text at most i) {q : ℕ} (h : Quick text i q) (n : q ≡ 0 → ⊥) where
  pub passed_fits : i + q % 16 < 2 ^ 64
  passed_fits = h.fits n

  pub passed_less : left text (i + q % 16) < left text i
  passed_less = listing_less (listing_start text i most) (h.told n) refl

  pub passed_on : q / 16 ≤ most → NumbersPassed text at most (i + q % 16)
  passed_on m = record {
    same_list = go.same_list ∙ (listing_on (listing_start text i most) (h.told n) refl m).same_list;
    ahead = let k = number_law text i (h.told n) refl in omega (arith, go.ahead, k.ahead);
  }

pub ruleset passing = (passed_start, passed_fits, passed_less, passed_on, rules)

module _ {text : List ℕ} {at most i from : ℕ} (go : Listing text at most i) (p : NumbersPassed text i most from) where
  pub listing_passed : Listing text at most from
  listing_passed = record { same_list = go.same_list ∙ p.same_list }

  pub passed_less_then : {r : Next} → r ≡ next_number text from → {n j : ℕ} → r ≡ Number n j → left text j < left text i
  passed_less_then e f = let h = number_law text from e f in omega (arith, h.ahead, p.ahead)

pub ruleset listing = (listing_passed, passed_less_then, listing_start, listing_end, listing_bad, listing_many, listing_on, rules)
