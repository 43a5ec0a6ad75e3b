use Rattle.maps.proofs.Laws.Seen.{growing}
use Rattle.noting.proofs.digits.one_more.Goals as goal

pub returns-then-b-lt48 : goal.returns-then-b-lt48
returns-then-b-lt48 c = search growing

pub returns-then-b-gt57 : goal.returns-then-b-gt57
returns-then-b-gt57 c = search growing

pub returns-then-next-d-lt2 : goal.returns-then-next-d-lt2
returns-then-next-d-lt2 c = search growing

pub returns-else-next-d-lt2 : goal.returns-else-next-d-lt2
returns-else-next-d-lt2 c = search growing
