use Rattle.std.proofs.Common.{refl, sym, subst, ◌∙◌}
use Rattle.std.specs.Io.KnownBytes.{Appends}
use Rattle.comparer.proofs.Laws.Room.{output_is, output_said, refusal_is, refusal_said, number_told, rest_is}
use Rattle.comparer.proofs.print_answer.Goals as goal

pub returns-then-answer-ne0-clause-count : goal.returns-then-answer-ne0-clause-count
returns-then-answer-ne0-clause-count g c e =
    let input = c.args.input.now in
    let told = number_told c.compare-answer.ensures refl in
    c.print_refusal.ensures.count e ∙ refusal_said input c.requires c.first_end-end.ensures.0 refl (rest_is _ input) told c.if-answer-ne0.true

pub returns-then-answer-ne0-clause-bytes : goal.returns-then-answer-ne0-clause-bytes
returns-then-answer-ne0-clause-bytes g c e =
    let input = c.args.input.now in
    let told = number_told c.compare-answer.ensures refl in
    subst (Appends _ _) (refusal_is input c.requires c.first_end-end.ensures.0 refl (rest_is _ input) told c.if-answer-ne0.true)
    (c.print_refusal.ensures.bytes e)

pub print_both-requires : goal.print_both-requires
print_both-requires g c = sym (number_told c.compare-answer.ensures refl) ∙ c.if-answer-ne0.false

pub returns-clause-count : goal.returns-clause-count
returns-clause-count g c e =
    let input = c.args.input.now in
    let told = number_told c.compare-answer.ensures refl in
    c.print_both.ensures.count e ∙ output_said input c.requires c.first_end-end.ensures.0 refl (rest_is _ input) told c.if-answer-ne0.false

pub returns-clause-bytes : goal.returns-clause-bytes
returns-clause-bytes g c e =
    let input = c.args.input.now in
    let told = number_told c.compare-answer.ensures refl in
    subst (Appends _ _) (output_is input c.requires c.first_end-end.ensures.0 refl (rest_is _ input) told c.if-answer-ne0.false)
    (c.print_both.ensures.bytes e)
