use Rattle.steps.proofs.Laws.Data.{in_data_laws, data_over, data_closes, data_stuck, data_more}
use Rattle.heads.proofs.data.data_rest_end.Goals as goal

pub returns-then-brackets_at : goal.returns-then-brackets_at
returns-then-brackets_at c =
    let over = data_over c.args.text.now c.loop-i.i c.data_plain_end-j.ensures c.args.at c.loop-i.invariant in
    data_closes c.args.text.now c.args.at c.data_plain_end-j.result over c.brackets_at.ensures c.if-brackets_at.true
    c.mark_end.ensures

pub loop-i-smaller : goal.loop-i-smaller
loop-i-smaller c = search in_data_laws

pub loop-i-preserved : goal.loop-i-preserved
loop-i-preserved c =
    let over = data_over c.args.text.now c.loop-i.i c.data_plain_end-j.ensures c.args.at c.loop-i.invariant in
    data_more c.args.text.now c.args.at c.data_plain_end-j.result over c.brackets_at.ensures c.if-brackets_at.false
    c.data_character_end.ensures c.in_ok-i.was

pub returns-in_err-i : goal.returns-in_err-i
returns-in_err-i c =
    let over = data_over c.args.text.now c.loop-i.i c.data_plain_end-j.ensures c.args.at c.loop-i.invariant in
    rw c.from_residual.ensures (data_stuck c.args.text.now c.args.at c.data_plain_end-j.result over c.brackets_at.ensures c.if-brackets_at.false
    c.data_character_end.ensures c.in_err-i.was)

pub returns : goal.returns
returns c = search in_data_laws
