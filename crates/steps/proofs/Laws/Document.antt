-- The whole text, step by step.
use Rattle.std.specs.Prelude.{◌≡◌, refl, ℕ, ◌≤◌, ◌<◌, Bool, eqb, Option, Some, None}
use Rattle.std.proofs.Common.{sym, ◌∙◌, arith, rules}
use mathlib.Core.List.{List, []}
use Rattle.std.proofs.Math.Bool.{true, false}
use Rattle.std.proofs.Math.ListN.{length, drop}
use borrow.Author.Tests.{eqb-true, eqb-false}
use Rattle.lists.proofs.Laws.Booleans.{clash}
use Rattle.grammar.specs.Document.{Element}
use Rattle.grammar.specs.Read.{Read, fail, got, Reader, bind}
use Rattle.grammar.specs.Parser.{declaration_at, element_at, document_at, end_at, answer, parse}
use Rattle.grammar.proofs.Laws.Sound.{declaration_sound, prologue_sound}
use Rattle.grammar.proofs.Laws.SoundElements.{parse_sound}
use Rattle.grammar.proofs.Laws.Complete.{parse_complete}
use Rattle.grammar.specs.Unfuelled.{contents}
use Rattle.grammar.proofs.Laws.Unfuelled.{element_enough, bind_same, no_more_than}
use Rattle.steps.specs.Step.{stepped, Went}
use Rattle.steps.proofs.Laws.Step.{went, fell, at_byte, at_end}
use Rattle.steps.proofs.Laws.Until.{bind_assoc}
use Rattle.steps.proofs.Laws.Row.{element_tails}
use Rattle.steps.specs.Prologue.{asides_at, preamble_at}
use Rattle.steps.proofs.Laws.Prologue.{asides_tails, preamble_tails}
use Rattle.steps.specs.WellFormed.{WellFormed}

-- the document's reader, without fuel
behind : Element → List ℕ → Read Element
behind e r = bind (asides_at r) (λ _ r₁. bind (end_at r₁) (λ _ r₂. got e r₂))

whole_at : Reader Element
whole_at s = bind (preamble_at s) (λ _ r. bind (element_at contents 16 r) behind)

whole_is : (s : List ℕ) → document_at (length s) s ≡ whole_at s
unfolding document_at preamble_at asides_at behind whole_at
whole_is s =
    rw (bind_assoc (declaration_at s))
    (bind_same _ _ (no_more_than (declaration_sound s)) λ _ r₁ h₁.
    bind_same _ _ (no_more_than (prologue_sound r₁)) λ _ r₂ h₂.
    let fits : length r₂ ≤ length s = omega arith in
    rw (element_enough (length s) 16 r₂ fits))

module _ (text : List ℕ) where
  refused : whole_at text ≡ fail → WellFormed text false
  unfolding parse answer
  refused h = record {
    accepts = λ e. clash (cc);
    refuses = λ _ e w.
        let p = parse_complete w in
        let q : parse text ≡ None = rw (whole_is text, h) in
        clash (cc);
  }

  accepted : {e : Element} {r : List ℕ} → whole_at text ≡ got e r → WellFormed text true
  unfolding parse answer
  accepted {e} h = record {
    accepts = λ _. (e, parse_sound text e (rw (whole_is text, h)));
    refuses = λ e. clash (cc);
  }

  module _ {r₁ : Option ℕ} (q₁ : r₁ ≡ stepped (length text) (preamble_at text)) where
    pub unrooted : r₁ ≡ None → WellFormed text false
    unfolding whole_at bind
    unrooted e = refused (rw (fell (length text) (preamble_at text) (sym e ∙ q₁)))

    module _ {i : ℕ} (e₁ : r₁ ≡ Some i) {r₂ : Option ℕ} (q₂ : r₂ ≡ stepped (length text) (element_at contents 16 (drop i text))) where
      rooted : Went preamble_at text 0 i
      rooted = went preamble_at text 0 i (preamble_tails text) (sym e₁ ∙ q₁)

      pub rootless : r₂ ≡ None → WellFormed text false
      unfolding whole_at bind
      rootless e = refused (rw (rooted.reads, fell (length text) (element_at contents 16 (drop i text)) (sym e ∙ q₂)))

      module _ {j : ℕ} (e₂ : r₂ ≡ Some j) {r₃ : Option ℕ} (q₃ : r₃ ≡ stepped (length text) (asides_at (drop j text))) where
        root : Went (element_at contents 16) text i j
        root = went (element_at contents 16) text i j (element_tails 16 (drop i text)) (sym e₂ ∙ q₂)

        here : whole_at text ≡ behind root.value (drop j text)
        unfolding whole_at bind
        here = rw (rooted.reads, root.reads)

        pub unended : r₃ ≡ None → WellFormed text false
        unfolding behind bind
        unended e = refused (here ∙ rw (fell (length text) (asides_at (drop j text)) (sym e ∙ q₃)))

        module _ {k : ℕ} (e₃ : r₃ ≡ Some k) where
          last : Went asides_at text j k
          last = went asides_at text j k (asides_tails (drop j text)) (sym e₃ ∙ q₃)

          ended_by : (t : Bool) → eqb k (length text) ≡ t → WellFormed text t
          unfolding behind bind end_at
          ended_by true e =
              let q = eqb-true k (length text) e in
              let none : drop k text ≡ [] = at_end text k (omega arith) in
              accepted {e = root.value} {r = []} (here ∙ rw (last.reads, none))
          ended_by false e =
              let other = eqb-false k (length text) e in
              let more : k < length text = omega (arith, last.inside) in
              refused (here ∙ rw (last.reads, at_byte text k more))

          pub ended : WellFormed text (eqb k (length text))
          ended = ended_by (eqb k (length text)) refl

pub ruleset documents = (unrooted, rootless, unended, ended, rules)
