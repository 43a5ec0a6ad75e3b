use Rattle.gifti_reader.proofs.Laws.Keys.{writing, wrote_all}
use borrow.Author.Rules.{rules}
use Rattle.gifti_reader.proofs.lent_keys.keys_at.Goals as goal

pub returns-then-keys-note : goal.returns-then-keys-note
returns-then-keys-note c = search writing

pub returns : goal.returns
returns c = search (wrote_all, rules)
