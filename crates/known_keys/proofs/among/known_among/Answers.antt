use Rattle.known_keys.proofs.Laws.Sieve.{sifting}
use Rattle.known_keys.proofs.among.known_among.Goals as goal

pub known_sifted-requires : goal.known_sifted-requires
known_sifted-requires c = search sifting

pub known_sifted-requires-then-keys-codes : goal.known_sifted-requires-then-keys-codes
known_sifted-requires-then-keys-codes c = search sifting

pub slice_bounds-none-end : goal.slice_bounds-none-end
slice_bounds-none-end c = search sifting

pub slice_bounds-known_sifted-end : goal.slice_bounds-known_sifted-end
slice_bounds-known_sifted-end c = search sifting

pub returns-then-codes-lt1024 : goal.returns-then-codes-lt1024
returns-then-codes-lt1024 c = search sifting

pub slice_bounds-none-end-then-keys-codes : goal.slice_bounds-none-end-then-keys-codes
slice_bounds-none-end-then-keys-codes c = search sifting

pub slice_bounds-known_sifted-end-then-keys-codes : goal.slice_bounds-known_sifted-end-then-keys-codes
slice_bounds-known_sifted-end-then-keys-codes c = search sifting

pub returns-then-keys-codes : goal.returns-then-keys-codes
returns-then-keys-codes c = search sifting

pub known_by_sieve-requires : goal.known_by_sieve-requires
known_by_sieve-requires c = search sifting

pub returns : goal.returns
returns c = search sifting
