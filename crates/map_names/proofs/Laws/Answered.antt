-- What is proved of Answered.
use Rattle.std.specs.Prelude.{◌≡◌, refl, List, ℕ, length, Option, Some, None}
use Rattle.std.proofs.Common.{sym, ap, ◌∙◌, rules}
use Rattle.std.proofs.Math.Decide.{ℕ_discrete}
use Rattle.lists.proofs.Laws.Booleans.{clash}
use Rattle.grammar.specs.Bytes.{ascii}
use Rattle.nodes.specs.Inside.{between_tags}
use Rattle.inside.specs.One.{tag_end}
use Rattle.map_names.specs.Treads.{named_at}
use Rattle.map_names.specs.declared.NamePlace.{NamePlace}
use Rattle.map_names.specs.Answered.{Is, Answered}

module _ (text : List ℕ) {n : ℕ} (d i : ℕ) (r : NamePlace) where
  pub answered_refused : (n ≡ 0 → ⊥) → r.number ≡ n → r.start ≡ 0 → r.length ≡ 0 → Answered text n d i r
  answered_refused k a b c = record {
    refused = λ _. record { number_is = a; start_is = b; length_is = c };
    missing = λ z. absurd (k z);
    found = λ z. absurd (k z);
  }

  module _ (z : n ≡ 0) {f : Option ℕ} (q : f ≡ named_at text (ascii "MapName") d i) where
    pub answered_missing : f ≡ None → r.number ≡ 18 → r.start ≡ 0 → r.length ≡ 0 → Answered text n d i r
    answered_missing h a b c = record {
      refused = λ k. absurd (k z);
      missing = λ _ _. record { number_is = a; start_is = b; length_is = c };
      found = λ _ k e. clash (cc);
    }

    pub answered_found : {k : ℕ} → f ≡ Some k → {l : List ℕ} → l ≡ between_tags text k → {s : ℕ} → s ≡ tag_end text k → r.number ≡ 0
        → r.start ≡ s → r.length ≡ length l → Answered text n d i r
    answered_found {k} h w t a b c = record {
      refused = λ y. absurd (y z);
      missing = λ _ e. clash (cc);
      found = λ _ j e.
          let same : k ≡ j = cc in
          record { number_is = a; start_is = b ∙ t ∙ ap (tag_end text) same; length_is = c ∙ ap length (w ∙ ap (between_tags text) same) };
    }

-- ---- ONE ANSWER for every input.

same_place : {a b : NamePlace} {n s l : ℕ} → Is a n s l → Is b n s l → a ≡ b
same_place p q = λ k. record {
  number = (p.number_is ∙ sym q.number_is) k;
  start = (p.start_is ∙ sym q.start_is) k;
  length = (p.length_is ∙ sym q.length_is) k;
}

pub answered_unique : {text : List ℕ} {n d i : ℕ} {a b : NamePlace} → Answered text n d i a → Answered text n d i b → a ≡ b
answered_unique {text} {n} {d} {i} {a} {b} p q = by (ℕ_discrete n 0)
  where
    found_or : n ≡ 0 → (f : Option ℕ) → named_at text (ascii "MapName") d i ≡ f → a ≡ b
    found_or z None e = same_place (p.missing z e) (q.missing z e)
    found_or z (Some k) e = same_place (p.found z k e) (q.found z k e)

    by : Dec (n ≡ 0) → a ≡ b
    by (yes z) = found_or z (named_at text (ascii "MapName") d i) refl
    by (no k) = same_place (p.refused k) (q.refused k)

pub ruleset answering = (answered_refused, answered_missing, answered_found, rules)
