use Rattle.gifti_opening.proofs.Laws.Arrays.{reading, read_coded}
use Rattle.gifti_opening.proofs.arrays.encoding_read.Goals as goal

pub returns-then-attribute_is : goal.returns-then-attribute_is
returns-then-attribute_is c = search reading

pub returns : goal.returns
returns c =
    read_coded c.requires c.attribute_is.ensures c.if-attribute_is.false c.attribute_is-2.ensures
