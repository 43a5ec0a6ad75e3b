use Rattle.schema.proofs.Laws.Lines.{by_word_lem, chosen_there}
use Rattle.lookup.proofs.lines.chosen.Goals as goal

pub choice_cell-w-requires : goal.choice_cell-w-requires
choice_cell-w-requires c = search by_word_lem

pub word-requires : goal.word-requires
word-requires c = search by_word_lem

pub attribute-requires : goal.attribute-requires
attribute-requires c = search by_word_lem

pub enum_known-v : goal.enum_known-v
enum_known-v c = search by_word_lem

pub choice_cell-from-requires : goal.choice_cell-from-requires
choice_cell-from-requires c = search by_word_lem

pub choice_cell-to-requires : goal.choice_cell-to-requires
choice_cell-to-requires c = search by_word_lem

pub kind_in-requires : goal.kind_in-requires
kind_in-requires c = search by_word_lem

pub returns-in_err-v : goal.returns-in_err-v
returns-in_err-v c = search by_word_lem

pub returns : goal.returns
returns c = chosen_there _ _ c.requires c.choice_cell-w.ensures.0 c.word.ensures c.attribute.ensures
    c.in_ok-v.was c.choice_cell-from.ensures.0 c.choice_cell-to.ensures.0 _ c.kind_in.ensures
