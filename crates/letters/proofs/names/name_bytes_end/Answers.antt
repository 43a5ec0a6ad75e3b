use borrow.Author.Rules.{rules}
use Rattle.steps.proofs.Laws.Steps.{span_all, span_more, span_stops}
use Rattle.letters.proofs.names.name_bytes_end.Goals as goal

pub returns-then-not-is_name_byte : goal.returns-then-not-is_name_byte
returns-then-not-is_name_byte c = search (span_stops, rules)

pub loop-i-preserved : goal.loop-i-preserved
loop-i-preserved c = search (span_more, rules)

pub returns : goal.returns
returns c = search (span_all, span_stops, rules)
