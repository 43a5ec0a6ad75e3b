use mathlib.Core.Path.{refl}
use Rattle.known_keys.specs.Sieve.{sieve_place}
use Rattle.known_keys.proofs.sieve.sieve_place.Goals as goal

pub returns : goal.returns
unfolding sieve_place
returns c = refl
