use Rattle.steps.proofs.Laws.Prologue.{encodings}
use Rattle.markup.proofs.prolog.encoding_end.Goals as goal

pub returns-then-asks : goal.returns-then-asks
returns-then-asks c = search encodings

pub returns : goal.returns
returns c = search encodings
