use Rattle.gifti_opening.proofs.Laws.Arrays.{rooting, root_version}
use Rattle.gifti_opening.proofs.root.root_wrong.Goals as goal

pub returns-then-name_is : goal.returns-then-name_is
returns-then-name_is c =
    root_version c.requires c.name_is.ensures c.if-name_is.true c.attribute_is.ensures

pub returns : goal.returns
returns c = search rooting
