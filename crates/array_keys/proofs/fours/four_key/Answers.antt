use Rattle.array_keys.proofs.Laws.Gathered.{keying}
use Rattle.array_keys.proofs.fours.four_key.Goals as goal

pub twos_of-requires : goal.twos_of-requires
twos_of-requires c = search keying

pub returns : goal.returns
returns c = search keying

pub turned-requires : goal.turned-requires
turned-requires c = search keying
