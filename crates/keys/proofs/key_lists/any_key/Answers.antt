use Rattle.keys.proofs.Laws.KeyLists.{key_signs}
use Rattle.keys.proofs.key_lists.any_key.Goals as goal

pub blanks-i-requires : goal.blanks-i-requires
blanks-i-requires c = search key_signs

pub letter-requires : goal.letter-requires
letter-requires c = search key_signs

pub key_from-requires : goal.key_from-requires
key_from-requires c = search key_signs

pub returns-then-b-eq45 : goal.returns-then-b-eq45
returns-then-b-eq45 c = search key_signs

pub key_from-requires-in-Some : goal.key_from-requires-in-Some
key_from-requires-in-Some c = search key_signs

pub returns-else-b-eq45 : goal.returns-else-b-eq45
returns-else-b-eq45 c = search key_signs

pub returns-in-None : goal.returns-in-None
returns-in-None c = search key_signs
