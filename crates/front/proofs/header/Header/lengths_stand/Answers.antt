use Rattle.std.proofs.Common.{rules, tests, ◌∙◌, refl, arith}
use Rattle.std.proofs.lemmas.Iterator.{YieldsList-from_range}
use Rattle.std.proofs.lemmas.Iterator.Search.{all_from_yields_List}
use Rattle.nifti.specs.File.{length_stands}
use Rattle.nifti.proofs.Laws.Reads.{ranged_below, length_test}
use Rattle.front.proofs.header.Header.lengths_stand.Goals as goal

pub returns : goal.returns
returns c =
    all_from_yields_List (length_stands c.args.self.now.file.now) _ _ _ c.all.ensures.ran
    (YieldsList-from_range 0 c.args.count c.args.count refl (omega arith)) (λ x b q k. search (length_test, rules, tests))
    ∙ ranged_below (length_stands c.args.self.now.file.now) c.args.count
