use Rattle.schema.proofs.Laws.Values.{texting}
use Rattle.values.proofs.text.text_fault.Goals as goal

pub returns-then-text_right : goal.returns-then-text_right
returns-then-text_right c = search texting

pub text_right-requires : goal.text_right-requires
text_right-requires c = search texting

pub returns-else-text_right : goal.returns-else-text_right
returns-else-text_right c = search texting
