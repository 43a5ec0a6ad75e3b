use Rattle.key_twice.proofs.Laws.Parts.{sieved}
use Rattle.key_twice.proofs.parts.one_of_later.Goals as goal

pub returns-in-None : goal.returns-in-None
returns-in-None c = search sieved

pub enum_told-1 : goal.enum_told-1
enum_told-1 c = search sieved

pub one_by_sieve-requires : goal.one_by_sieve-requires
one_by_sieve-requires c = search sieved

pub enum_told-in-None : goal.enum_told-in-None
enum_told-in-None c = search sieved

pub returns-in-Some : goal.returns-in-Some
returns-in-Some c = c.one_by_sieve.ensures
