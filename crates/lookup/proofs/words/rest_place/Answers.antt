use Rattle.schema.proofs.Laws.Searches.{searching_words}
use Rattle.lookup.proofs.words.rest_place.Goals as goal

pub loop-i-init : goal.loop-i-init
loop-i-init c = search searching_words

pub word-requires : goal.word-requires
word-requires c = search searching_words

pub rest_is-requires : goal.rest_is-requires
rest_is-requires c = search searching_words

pub returns-then-rest_is : goal.returns-then-rest_is
returns-then-rest_is c = search searching_words

pub loop-i-preserved : goal.loop-i-preserved
loop-i-preserved c = search searching_words

pub returns : goal.returns
returns c = search searching_words
