use Rattle.std.proofs.Common.{rules, w64, pos, eqb-true, ap, ◌∙◌, sym}
use Rattle.std.specs.Int.Signed.{le_z}
use Rattle.std.proofs.lemmas.Int.{to_z-of_z}
use Rattle.nifti.proofs.Laws.Reads.{unsized_read, unmagic_read, rest_read}
use Rattle.front.proofs.header.front_stands.Goals as goal
use Rattle.front.proofs.header.front_stands.Goals.{then-four-eq540, else-four-eq540}

pub returns-then-eq : goal.returns-then-eq
returns-then-eq c = elim c.if-four-eq540.branch [
  | then-four-eq540 w ↦ ap (le_z (pos 544)) (to_z-of_z w64 c.eight.result (search rules))
      ∙ rest_read c.requires c.four.ensures w.eq.ensures w.if-four-eq540.true (sym w.value-is ∙ c.if-eq.true) c.eight.ensures
  | else-four-eq540 w ↦ absurd (w.if-four-eq540.false (eqb-true c.four.result 540 (sym w.value-is ∙ c.if-eq.true)))
]

pub returns-else-eq : goal.returns-else-eq
returns-else-eq c = elim c.if-four-eq540.branch [
  | then-four-eq540 w ↦ c.if-eq.false
      ∙ unmagic_read c.requires c.four.ensures w.eq.ensures w.if-four-eq540.true (sym w.value-is ∙ c.if-eq.false)
  | else-four-eq540 w ↦ c.if-eq.false ∙ unsized_read c.requires c.four.ensures w.if-four-eq540.false
]
