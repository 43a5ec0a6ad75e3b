use Rattle.numbers.proofs.Laws.Next.{taking_time}
use Rattle.number_lists.proofs.listed.number_from.Goals as goal

pub returns-in-Some : goal.returns-in-Some
returns-in-Some c = search taking_time

pub returns-in-None : goal.returns-in-None
returns-in-None c = search taking_time

pub returns-then-word_ends : goal.returns-then-word_ends
returns-then-word_ends c = search taking_time

pub returns : goal.returns
returns c = search taking_time
