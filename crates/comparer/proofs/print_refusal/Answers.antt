use Rattle.std.proofs.Common.{arith, subst}
use Rattle.std.specs.Io.KnownBytes.{Appends}
use Rattle.card.proofs.Laws.Printed.{line_written, not_failed}
use Rattle.comparer.specs.Output.{refusal_bytes}
use Rattle.comparer.proofs.Laws.Output.{refusal_all}
use Rattle.comparer.proofs.print_refusal.Goals as goal

pub returns-clause-count : goal.returns-clause-count
returns-clause-count g c e = refusal_all _ c.write_line-size.ensures.writes_out (omega arith)

pub returns-clause-bytes : goal.returns-clause-bytes
unfolding refusal_bytes
returns-clause-bytes g c e =
    subst (Appends _ _) (line_written _ _ _ _ c.write_line-size.ensures.fits c.write_line-size.ensures.writes_out)
    (not_failed _ _ c.is_err-failed.ensures.value e c.write_all.ensures.bytes)
