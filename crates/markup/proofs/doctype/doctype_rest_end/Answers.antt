use Rattle.steps.proofs.Laws.Doctype.{in_doctype, doctype_more}
use Rattle.markup.proofs.doctype.doctype_rest_end.Goals as goal

pub returns-then-text-i-eq62 : goal.returns-then-text-i-eq62
returns-then-text-i-eq62 c = search in_doctype

pub loop-i-smaller : goal.loop-i-smaller
loop-i-smaller c = search in_doctype

pub loop-i-preserved : goal.loop-i-preserved
loop-i-preserved c = doctype_more c.args.text.now c.args.at c.loop-i.i c.loop-i.invariant c.loop-i-test.true
    c.if-text-i-eq62.false c.skipped_end.ensures c.in_ok-i.was

pub returns-in_err-i : goal.returns-in_err-i
returns-in_err-i c = rw c.from_residual.ensures (search in_doctype)

pub returns : goal.returns
returns c = search in_doctype
