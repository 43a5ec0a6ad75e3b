use Rattle.array_keys.proofs.Laws.Gathered.{signing}
use Rattle.array_keys.proofs.fours.twos_of.Goals as goal

pub returns-then-n-lt2147483648 : goal.returns-then-n-lt2147483648
returns-then-n-lt2147483648 c = search signing

pub returns : goal.returns
returns c = search signing
