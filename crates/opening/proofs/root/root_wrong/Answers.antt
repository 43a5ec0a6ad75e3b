use Rattle.maps.proofs.Laws.Unread.{rooting}
use Rattle.opening.proofs.root.root_wrong.Goals as goal

pub returns-then-name_is : goal.returns-then-name_is
returns-then-name_is c = search rooting

pub returns : goal.returns
returns c = search rooting
