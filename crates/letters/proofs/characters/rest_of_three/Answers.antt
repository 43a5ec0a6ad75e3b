use Rattle.std.proofs.lemmas.Bool.{not_from_true}
use borrow.Author.Rules.{rules}
use Rattle.steps.proofs.Laws.Characters.{three_none, three_bad, three_short, three_broken, three_no, three_good}
use Rattle.letters.proofs.characters.rest_of_three.Goals as goal

pub returns-then-text-at : goal.returns-then-text-at
returns-then-text-at c = search (three_none, rules)

pub returns-then-not-is_lead3 : goal.returns-then-not-is_lead3
returns-then-not-is_lead3 c = search (three_bad, rules)

pub returns-then-text-at-2 : goal.returns-then-text-at-2
returns-then-text-at-2 c = search (three_short, rules)

pub returns-then-not-is_continuing : goal.returns-then-not-is_continuing
returns-then-not-is_continuing c = search (three_broken, rules)

pub returns-then-is_noncharacter : goal.returns-then-is_noncharacter
returns-then-is_noncharacter c = search (three_no, rules)

pub returns : goal.returns
returns c =
    let given = c.args in
    three_good given.text.now given.at given.a c.if-text-at.false
    c.is_lead3.ensures (not_from_true _ c.if-not-is_lead3.false) c.if-text-at-2.false
    c.is_continuing.ensures (not_from_true _ c.if-not-is_continuing.false)
    c.is_noncharacter.ensures c.if-is_noncharacter.false
