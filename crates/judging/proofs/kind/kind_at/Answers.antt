use Rattle.models.proofs.Laws.Kind.{kinding}
use Rattle.judging.proofs.kind.kind_at.Goals as goal

pub overflow_add-result : goal.overflow_add-result
overflow_add-result c = search kinding

pub returns-then-attribute_is : goal.returns-then-attribute_is
returns-then-attribute_is c = search (c.attribute_is.ensures, kinding)

pub returns : goal.returns
returns c = search (c.attribute_is.ensures, kinding)
