use Rattle.std.proofs.Common.{rules, tests, ◌∙◌, refl}
use Rattle.std.proofs.lemmas.Iterator.{YieldsList-from_range}
use Rattle.std.proofs.lemmas.Iterator.Search.{all_from_yields_List}
use Rattle.nifti.specs.File.{one_at}
use Rattle.nifti.proofs.Laws.Reads.{ranged_below, one_test}
use Rattle.front.proofs.header.Header.ones_stand.Goals as goal

pub returns : goal.returns
returns c =
    all_from_yields_List (one_at c.args.self.now.file.now) _ _ _ c.all.ensures.ran (YieldsList-from_range 0 4 4 refl refl)
    (λ x b q k. search (one_test, rules, tests)) ∙ ranged_below (one_at c.args.self.now.file.now) 4
