-- WHAT THE GRAMMAR WRITES IS READ, whatever stands behind it: an element, and what stands before the root.
use Rattle.std.specs.Prelude.{◌≡◌, List, ◌++◌, ℕ, ◌+◌, ◌≤◌, length}
use Rattle.std.proofs.Common.{sym, ◌∙◌, arith, length-append}
use Rattle.grammar.specs.Document.{Element}
use Rattle.grammar.specs.Grammar.{WritesElement, Declaration, Prologue}
use Rattle.grammar.specs.Read.{got, bind}
use Rattle.grammar.proofs.Laws.Complete.{Opening, element_read, declaration_complete, prologue_complete, prologue_no_ask}
use Rattle.grammar.proofs.Laws.Unfuelled.{element_enough}
use Rattle.steps.specs.Prologue.{preamble_at}
use Rattle.nodes.specs.Places.{element₁₆}
use Rattle.nodes.proofs.Laws.Depth.{element_deeper}

pub element_reads : {d : ℕ} {e : Element} {w : List ℕ} → WritesElement d e w → d ≤ 16 → (r : List ℕ) → element₁₆ (w ++ r) ≡ got e r
unfolding element₁₆
element_reads {d} {w = w} h k r =
    let n : length (w ++ r) ≡ length w + length r = length-append w r in
    element_deeper d (w ++ r) k
    (sym (element_enough (length (w ++ r)) d (w ++ r) (omega arith)) ∙ (element_read h).reads (length (w ++ r)) (omega arith) r)

pub element_opens : {d : ℕ} {e : Element} {w : List ℕ} → WritesElement d e w → Opening w
element_opens h = (element_read h).opens

-- before an element that begins with `w`
pub before_reads : {p u w : List ℕ} → Declaration p → Prologue u → Opening w → (r : List ℕ)
    → preamble_at (p ++ (u ++ (w ++ r))) ≡ got tt (w ++ r)
unfolding preamble_at bind
before_reads {p} {u} {w} h k o r = rw (declaration_complete h (u ++ (w ++ r)) (prologue_no_ask k o r), prologue_complete k o r)
