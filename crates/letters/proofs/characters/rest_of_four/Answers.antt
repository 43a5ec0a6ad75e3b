use Rattle.std.proofs.lemmas.Bool.{not_from_true}
use borrow.Author.Rules.{rules}
use Rattle.steps.proofs.Laws.Characters.{four_none, four_bad, four_short, four_broken, four_cut, four_no, four_good}
use Rattle.letters.proofs.characters.rest_of_four.Goals as goal

pub returns-then-text-at : goal.returns-then-text-at
returns-then-text-at c = search (four_none, rules)

pub returns-then-not-is_lead4 : goal.returns-then-not-is_lead4
returns-then-not-is_lead4 c = search (four_bad, rules)

pub returns-then-text-at-2 : goal.returns-then-text-at-2
returns-then-text-at-2 c = search (four_short, rules)

pub returns-then-not-is_continuing : goal.returns-then-not-is_continuing
returns-then-not-is_continuing c = search (four_broken, rules)

pub returns-then-text-at-3 : goal.returns-then-text-at-3
returns-then-text-at-3 c = search (four_cut, rules)

pub returns-then-not-is_continuing-2 : goal.returns-then-not-is_continuing-2
returns-then-not-is_continuing-2 c = search (four_no, rules)

pub returns : goal.returns
returns c =
    let given = c.args in
    four_good given.text.now given.at given.a c.if-text-at.false
    c.is_lead4.ensures (not_from_true _ c.if-not-is_lead4.false) c.if-text-at-2.false
    c.is_continuing.ensures (not_from_true _ c.if-not-is_continuing.false) c.if-text-at-3.false
    c.is_continuing-2.ensures (not_from_true _ c.if-not-is_continuing-2.false)
