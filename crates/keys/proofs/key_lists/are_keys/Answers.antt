use Rattle.keys.proofs.Laws.KeyLists.{key_texts, keys_there, keys_missing}
use Rattle.keys.proofs.key_lists.are_keys.Goals as goal

pub text_start-requires : goal.text_start-requires
text_start-requires c = search key_texts

pub enum_known-i : goal.enum_known-i
enum_known-i c = search key_texts

pub keys_from-requires : goal.keys_from-requires
keys_from-requires c = search key_texts

pub enum_told-1 : goal.enum_told-1
enum_told-1 c = search key_texts

pub returns-in-Some : goal.returns-in-Some
returns-in-Some c =
    keys_there c.args.text.now c.args.at c.text_start.ensures c.in-Some.is c.keys_from.ensures

pub returns-in-None : goal.returns-in-None
returns-in-None c =
    keys_missing c.args.text.now c.args.at c.text_start.ensures c.in-None.is
