use Rattle.known_keys.proofs.Laws.Sieve.{passing}
use Rattle.known_keys.proofs.sieve.passes.Goals as goal

pub returns-then-words-lt8192 : goal.returns-then-words-lt8192
returns-then-words-lt8192 c = search passing

pub returns : goal.returns
returns c = search passing

pub sieve_place-requires : goal.sieve_place-requires
sieve_place-requires c = search passing

pub is_marked-requires : goal.is_marked-requires
is_marked-requires c = search passing
