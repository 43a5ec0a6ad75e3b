use Rattle.numbers.specs.Answers.{key_limit, sign_if}
use Rattle.keys.proofs.key_limit.Goals as goal

pub returns-then-negative : goal.returns-then-negative
unfolding key_limit sign_if
returns-then-negative c = rw c.if-negative.true

pub returns-else-negative : goal.returns-else-negative
unfolding key_limit sign_if
returns-else-negative c = rw c.if-negative.false
