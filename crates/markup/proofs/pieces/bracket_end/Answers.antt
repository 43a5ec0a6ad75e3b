use Rattle.steps.proofs.Laws.Pieces.{brackets}
use Rattle.markup.proofs.pieces.bracket_end.Goals as goal

pub returns-then-starts : goal.returns-then-starts
returns-then-starts c = search brackets

pub returns : goal.returns
returns c = search brackets
