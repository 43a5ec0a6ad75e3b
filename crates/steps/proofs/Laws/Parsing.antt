-- One reader after another, at positions of a text.
use Rattle.std.specs.Prelude.{◌≡◌, List, ℕ, length, drop, Option, Some, None}
use Rattle.std.proofs.Common.{ap, sym, ◌∙◌}
use Rattle.grammar.specs.Read.{Read, got, Reader, bind}
use Rattle.grammar.proofs.Laws.Read.{Ok}
use Rattle.steps.specs.Step.{stepped}
use Rattle.steps.proofs.Laws.Step.{Tails, went, refuses, fell}

-- the first of two readers fails
pub stuck : {A B : Type 0} (n : ℕ) (m : Read A) (f : A → List ℕ → Read B) {r : Option ℕ} → r ≡ stepped n m → r ≡ None → None ≡ stepped n (bind m f)
unfolding bind
stuck n m f q e = refuses n (bind m f) (rw (fell n m (sym e ∙ q)))

-- it reads, and the second goes on from there
pub follows : {A B : Type 0} (p : Reader A) (tails : (s : List ℕ) → Ok (Tails s) (p s)) (text : List ℕ) (at : ℕ)
    (f : A → List ℕ → Read B) {r : Option ℕ}
    → r ≡ stepped (length text) (p (drop at text)) → (i : ℕ) → r ≡ Some i → {x : Option ℕ}
    → ((a : A) → p (drop at text) ≡ got a (drop i text) → x ≡ stepped (length text) (f a (drop i text)))
    → x ≡ stepped (length text) (bind (p (drop at text)) f)
unfolding bind
follows p tails text at f q i e k =
    let w = went p text at i (tails (drop at text)) (sym e ∙ q) in
    k w.value w.reads ∙ sym (ap (λ m. stepped (length text) (bind m f)) w.reads)
