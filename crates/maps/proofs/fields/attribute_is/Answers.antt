use Rattle.maps.proofs.Laws.Fields.{is_word_lem}
use borrow.Author.Rules.{rules}
use Rattle.maps.proofs.fields.attribute_is.Goals as goal

pub returns : goal.returns
returns c = search (is_word_lem, rules)
