use mathlib.Core.Path.{refl}
use Rattle.keys.proofs.Laws.Colours.{seen}
use Rattle.keys.proofs.is_zero_or_one.Goals as goal

pub returns : goal.returns
returns c = seen c.args.text.now c.args.at (rw c.saturating_sub.ensures at c.if-saturating_sub-lt3.false) refl
