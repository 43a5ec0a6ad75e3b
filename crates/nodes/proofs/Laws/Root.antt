-- What is proved of Root.
use Rattle.std.specs.Prelude.{◌≡◌, refl, List, ℕ, ◌-◌, ◌<◌, length, drop, Some}
use Rattle.std.proofs.Common.{ap, sym, ◌∙◌, subst, arith}
use Rattle.lists.proofs.Laws.Booleans.{clash}
use Rattle.grammar.specs.Document.{Element}
use Rattle.grammar.specs.Read.{Read, fail, got, bind, all_of}
use Rattle.grammar.specs.Parser.{declaration_at, prologue_at, no_aside, aside_at, element_at, contents_at, document_at, end_at, answer}
use Rattle.grammar.specs.Parser.{parse}
use Rattle.grammar.specs.Unfuelled.{contents}
use Rattle.grammar.proofs.Laws.Unfuelled.{element_enough}
use Rattle.steps.specs.Prologue.{preamble_at}
use Rattle.steps.proofs.Laws.Prologue.{preamble_tails}
use Rattle.nodes.specs.Places.{element₁₆, Stands, the}
use Rattle.nodes.proofs.Laws.Places.{stands_read, the_read, unbind, Tail, tail_read}
use Rattle.nodes.proofs.Laws.ReadSteps.{eats_child}
use Rattle.nodes.specs.Root.{root_by, root}

-- the root stands, and is `e`
pub record Rooted (text : List ℕ) (e : Element) : Type 0 where
  pub place : ℕ
  pub found : root text ≡ Some place
  pub stands : Stands text place
  pub is : the text place ≡ e

pub whole_tail : (text : List ℕ) → Tail text text
whole_tail text = let z : length text - length text ≡ 0 = omega arith in record { fits = omega arith; stands = rw z }

answered : (m : Read Element) (e : Element) → answer m ≡ Some e → (r : List ℕ) × (m ≡ got e r)
unfolding answer
answered fail e h = clash (cc)
answered (got x r) e h = (r, let q : x ≡ e = cc in ap (λ x. got x r) q)

rooted_at : (text s₂ s₃ : List ℕ) (e : Element) → preamble_at text ≡ got tt s₂ → Tail text s₂
    → element₁₆ s₂ ≡ got e s₃ → Rooted text e
unfolding root root_by
rooted_at text s₂ s₃ e p t k =
    let i : ℕ = length text - length s₂ in
    let k₁ : element₁₆ (drop i text) ≡ got e s₃ = rw t.stands k in
    let short : length s₃ < length s₂ = eats_child s₂ k in
    record { place = i; found = rw p; stands = stands_read text i (omega (arith, t.fits)) k₁; is = the_read text i k₁ }

sixteen : (s : List ℕ) → element₁₆ s ≡ element_at contents 16 s
unfolding element₁₆
sixteen s = refl

preamble_is : (text s₁ s₂ : List ℕ) → declaration_at text ≡ got tt s₁ → prologue_at s₁ ≡ got tt s₂ → preamble_at text ≡ got tt s₂
unfolding preamble_at bind
preamble_is text s₁ s₂ p q = rw (p, q)

-- THE LAW OF THE ROOT
pub root_law : (text : List ℕ) (e : Element) → parse text ≡ Some e → Rooted text e
unfolding parse document_at
root_law text e h =
    let a = answered (document_at (length text) text) e h in
    let b₁ = unbind (declaration_at text) _ a.1 in
    let b₂ = unbind (prologue_at b₁.rest) _ b₁.then in
    let b₃ = unbind (element_at (contents_at (length text)) 16 b₂.rest) _ b₂.then in
    let b₄ = unbind (all_of no_aside aside_at b₃.rest) _ b₃.then in
    let b₅ = unbind (end_at b₄.rest) _ b₄.then in
    let q : b₃.value ≡ e = let z = b₅.then in cc in
    let p = preamble_is text b₁.rest b₂.rest b₁.reads b₂.reads in
    let t : Tail text b₂.rest = tail_read (preamble_tails text) p (whole_tail text) in
    let k : element_at contents 16 b₂.rest ≡ got b₃.value b₃.rest = sym (element_enough (length text) 16 b₂.rest t.fits)
    ∙ b₃.reads in
    subst (λ (x : Element). Rooted text x) q (rooted_at text b₂.rest b₃.rest b₃.value p t (sixteen b₂.rest ∙ k))
