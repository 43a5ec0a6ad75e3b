use Rattle.keys.proofs.Laws.KeyLists.{key_listing}
use Rattle.keys.proofs.key_lists.keys_from.Goals as goal

pub loop-j-init : goal.loop-j-init
loop-j-init c = search key_listing

pub next_key-requires : goal.next_key-requires
next_key-requires c = search key_listing

pub enum_known-j : goal.enum_known-j
enum_known-j c = search key_listing

pub loop-j-smaller : goal.loop-j-smaller
loop-j-smaller c = search key_listing

pub loop-j-preserved : goal.loop-j-preserved
loop-j-preserved c = search key_listing

pub enum_told-1 : goal.enum_told-1
enum_told-1 c = search key_listing

pub returns-in-End : goal.returns-in-End
returns-in-End c = search key_listing

pub enum_told-in-Bad : goal.enum_told-in-Bad
enum_told-in-Bad c = search key_listing

pub returns-in-Bad : goal.returns-in-Bad
returns-in-Bad c = search key_listing
