use mir.Syntax.{w32}
use mir.Val.{SFits}
use borrow.Author.Rules.{rules}
use Rattle.label_table.proofs.Laws.Codes.{code_here_lem}
use Rattle.label_table.proofs.codes.code_at.Goals as goal

pub returns : goal.returns
returns c =
    let f : SFits w32 c.key_of.result = search rules in
    code_here_lem f c.args.text.now c.args.at c.key_of.ensures c.code_of.ensures
