use Rattle.key_twice.proofs.key_twice.Goals as goal

pub returns : goal.returns
returns c = c.search_in-2.ensures
