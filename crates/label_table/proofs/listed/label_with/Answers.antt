use Rattle.std.proofs.Common.{SFits, rules}
use mir.Syntax.{w32}
use mir.ValLaws.{to_z-of_z}
use Rattle.label_table.proofs.Laws.Labels.{finding, finding_found, finding_more}
use Rattle.label_table.proofs.listed.label_with.Goals as goal

pub loop-kid-init : goal.loop-kid-init
loop-kid-init c = search finding

pub returns-then-key_of-key : goal.returns-then-key_of-key
returns-then-key_of-key c =
    let fk : SFits w32 c.args.key = search rules in
    let fv : SFits w32 c.key_of.result = search rules in
    let same = to_z-of_z w32 c.args.key fk in
    finding_found fk (rw same at c.loop-kid.invariant) c.in-Some.is c.next_label-kid.ensures c.key_of.ensures fv c.if-key_of-key.true

pub loop-kid-smaller : goal.loop-kid-smaller
loop-kid-smaller c = search finding

pub loop-kid-preserved : goal.loop-kid-preserved
loop-kid-preserved c =
    let fk : SFits w32 c.args.key = search rules in
    let fv : SFits w32 c.key_of.result = search rules in
    let same = to_z-of_z w32 c.args.key fk in
    rw same (finding_more fk (rw same at c.loop-kid.invariant) c.in-Some.is c.next_label-kid.ensures c.key_of.ensures fv
    c.if-key_of-key.false)

pub returns-in-None : goal.returns-in-None
returns-in-None c = search finding
