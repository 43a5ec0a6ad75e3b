use Rattle.known_keys.proofs.Laws.Sieve.{sieving}
use Rattle.known_keys.proofs.sieve.sieve.Goals as goal

pub loop-code-preserved : goal.loop-code-preserved
loop-code-preserved c = search sieving

pub returns : goal.returns
returns c = search sieving

pub loop-code-init : goal.loop-code-init
loop-code-init c = search sieving

pub sieve_place-requires : goal.sieve_place-requires
sieve_place-requires c = search sieving

pub mark-requires : goal.mark-requires
mark-requires c = search sieving

pub loop-code-smaller : goal.loop-code-smaller
loop-code-smaller c = search sieving

pub shape_of-words : goal.shape_of-words
shape_of-words c = search sieving
