-- What is proved of Spelled.
use Rattle.std.specs.Prelude.{◌≡◌, refl, List, [], ◌∷◌, ◌++◌, Bool, true, false, ℕ, Option}
use Rattle.std.proofs.Common.{sym, ap, ◌∙◌, append_assoc}
use Rattle.grammar.specs.Bytes.{blank}
use Rattle.grammar.specs.Look.{Word}
use Rattle.numbers.proofs.Laws.Cuts.{uncut_join}
use Rattle.numbers.specs.Cuts.{Uncut, none, more}
use Rattle.numbers.specs.Stream.{stream, word_ends}
use Rattle.numbers.specs.declared.Source.{Source}
use Rattle.numbers.specs.declared.Decimal.{Decimal}
use Rattle.numbers.specs.Spelled.{Reading, fails, reads, Cut}

-- WHAT IS FOUND BEHIND A BEGINNING, by tests that agree with those of the whole, is found from the beginning on.
pub onward : {source : Source} {text : List ℕ} {at j : ℕ} {right right₁ : Word → Bool} {valued valued₁ : Word → Decimal} (u : Word)
    → ((x y : Word) → stream source text j ≡ x ++ y → (right (u ++ x) ≡ right₁ x) × (right₁ x ≡ true → valued (u ++ x) ≡ valued₁ x))
    → Uncut blank u → stream source text at ≡ u ++ stream source text j → {r : Option (Decimal × ℕ)} → Reading source text j right₁ valued₁ r
    → Reading source text at right valued r
onward {source} {text} u same k e (reads x {j = i} f d c s n) =
    let q = same x (stream source text i) s in
    reads (u ++ x) (q.0 ∙ f) (d ∙ sym (q.1 f)) (uncut_join k c)
    (e ∙ ap (λ l. u ++ l) s ∙ sym (append_assoc u x (stream source text i))) n
onward u same k e (fails x y f c s n) =
    fails (u ++ x) y ((same x y s).0 ∙ f) (uncut_join k c) (e ∙ ap (λ l. u ++ l) s ∙ sym (append_assoc u x y)) n

pub cut_word : (w : Word) → Cut w
unfolding word_ends
cut_word [] = record { front = []; rest = []; splits = refl; uncut = none; ends = refl }
cut_word (a ∷ w) = go (blank a) refl (cut_word w)
  where
    go : (t : Bool) → blank a ≡ t → Cut w → Cut (a ∷ w)
    go true h k = record { front = []; rest = a ∷ w; splits = refl; uncut = none; ends = h }
    go false h k = record {
      front = a ∷ k.front;
      rest = k.rest;
      splits = ap (λ l. a ∷ l) k.splits;
      uncut = more h k.uncut;
      ends = k.ends;
    }
