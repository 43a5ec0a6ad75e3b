use borrow.Author.Rules.{rules}
use Rattle.steps.proofs.Laws.References.{is_amp, is_lt, is_gt, is_quot, is_apos, is_none}
use Rattle.letters.proofs.characters.reference_at.Goals as goal

pub returns-in-Some : goal.returns-in-Some
returns-in-Some c = search (is_amp, rules)

pub returns-in-Some-lt : goal.returns-in-Some-lt
returns-in-Some-lt c = search (is_lt, rules)

pub returns-in-Some-gt : goal.returns-in-Some-gt
returns-in-Some-gt c = search (is_gt, rules)

pub returns-in-Some-quot : goal.returns-in-Some-quot
returns-in-Some-quot c = search (is_quot, rules)

pub returns-in-Some-apos : goal.returns-in-Some-apos
returns-in-Some-apos c = search (is_apos, rules)

pub returns : goal.returns
returns c = search (is_none, rules)
