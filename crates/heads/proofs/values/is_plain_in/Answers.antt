use mathlib.Core.Path.{refl}
use Rattle.grammar.specs.Bytes.{special}
use Rattle.heads.proofs.values.is_plain_in.Goals as goal

pub returns : goal.returns
unfolding special
returns c = refl
