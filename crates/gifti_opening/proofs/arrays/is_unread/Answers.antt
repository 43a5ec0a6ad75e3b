use Rattle.gifti_opening.proofs.Laws.Arrays.{reading}
use Rattle.gifti_opening.proofs.arrays.is_unread.Goals as goal

pub returns-then-not-encoding_read : goal.returns-then-not-encoding_read
returns-then-not-encoding_read c = search reading

pub returns-then-not-attribute_is : goal.returns-then-not-attribute_is
returns-then-not-attribute_is c = search reading

pub returns : goal.returns
returns c = search reading

pub encoding_read-requires : goal.encoding_read-requires
encoding_read-requires c = search reading

pub attribute_is-requires : goal.attribute_is-requires
attribute_is-requires c = search reading

pub attribute_is-requires-2 : goal.attribute_is-requires-2
attribute_is-requires-2 c = search reading
