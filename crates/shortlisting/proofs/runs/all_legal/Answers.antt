use Rattle.std.proofs.Common.{rules, tests, ◌∙◌}
use Rattle.std.proofs.lemmas.Iterator.{YieldsList-from_slice}
use Rattle.std.proofs.lemmas.Iterator.Search.{all_from_yields_List}
use Rattle.records.specs.Record.{legal_record}
use Rattle.shortlist.proofs.Laws.Walking.{list_all_is}
use Rattle.shortlisting.proofs.runs.all_legal.Goals as goal

pub returns : goal.returns
returns c =
    all_from_yields_List legal_record _ _ _ c.all.ensures.ran (YieldsList-from_slice c.args.records.now cc)
    (λ x b q k. search (rules, tests))
    ∙ list_all_is c.args.records.now
