use Rattle.std.proofs.Common.{ap, sym, ◌∙◌}
use borrow.Author.Rules.{rules}
use Rattle.std.proofs.lemmas.Bool.{not_from_true}
use Rattle.grammar.specs.Bytes.{quote}
use Rattle.steps.proofs.Laws.Prologue.{quoted, quoted_cut, quoted_open, quoted_whole}
use Rattle.markup.proofs.prolog.quoted_end.Goals as goal

pub returns-in_err-quote : goal.returns-in_err-quote
returns-in_err-quote c = rw c.from_residual.ensures (search quoted)

pub returns-then-not-is_quote : goal.returns-then-not-is_quote
returns-then-not-is_quote c = search quoted

pub returns-in_err-i : goal.returns-in_err-i
returns-in_err-i c = rw c.from_residual-in_err-i.ensures (search quoted)

pub returns-in_err-get : goal.returns-in_err-get
returns-in_err-get c =
    let there = c.in_ok-quote.ensures.lookup.3 in
    rw c.from_residual-in_err-get.ensures (quoted_cut _ _ _ there.0 (c.is_quote.ensures ∙ ap quote (there.1 0)) (not_from_true _ c.if-not-is_quote.false) c.mark_end.ensures c.in_ok-i.was (search rules))

pub returns-then-branch-quote : goal.returns-then-branch-quote
returns-then-branch-quote c =
    let there = c.in_ok-quote.ensures.lookup.3 in
    let last = c.in_ok-get.ensures.lookup.3 in
    quoted_open _ _ _ there.0 (c.is_quote.ensures ∙ ap quote (there.1 0)) (not_from_true _ c.if-not-is_quote.false) c.mark_end.ensures c.in_ok-i.was last.0 (λ e. c.if-branch-quote.true (last.1 0 ∙ e ∙ sym (there.1 0)))

pub returns : goal.returns
returns c =
    let there = c.in_ok-quote.ensures.lookup.3 in
    let last = c.in_ok-get.ensures.lookup.3 in
    quoted_whole _ _ _ there.0 (c.is_quote.ensures ∙ ap quote (there.1 0)) (not_from_true _ c.if-not-is_quote.false) c.mark_end.ensures c.in_ok-i.was last.0 (sym (last.1 0) ∙ c.if-branch-quote.false ∙ there.1 0)
