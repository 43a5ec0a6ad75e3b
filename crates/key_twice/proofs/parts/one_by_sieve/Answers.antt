use Rattle.key_twice.proofs.Laws.Parts.{sieved}
use Rattle.key_twice.proofs.parts.one_by_sieve.Goals as goal

pub slice_bounds-sieve-end : goal.slice_bounds-sieve-end
slice_bounds-sieve-end c = search sieved

pub sieve-requires : goal.sieve-requires
sieve-requires c = search sieved

pub slice_bounds-one_sifted-end : goal.slice_bounds-one_sifted-end
slice_bounds-one_sifted-end c = search sieved

pub one_sifted-requires : goal.one_sifted-requires
one_sifted-requires c = search sieved

pub returns : goal.returns
returns c = search sieved
