use Rattle.std.specs.Prelude.{◌≡◌, refl, Bool, ◌&&◌, List, [], ◌∷◌, ℕ}
use Rattle.std.specs.List.{list_all}
use Rattle.std.proofs.Common.{ap, ◌∙◌, rules, tests}
use Rattle.std.proofs.lemmas.Iterator.{YieldsList-from_slice}
use Rattle.std.proofs.lemmas.Iterator.Search.{all_from_yields_List}
use Rattle.lists.specs.Lists.{all}
use Rattle.records.specs.Record.{legal_record}
use Rattle.sheets.proofs.sheet.all_legal.Goals as goal

-- the library's word for it
all_same : (p : ℕ → Bool) (xs : List ℕ) → list_all p xs ≡ all p xs
unfolding all
all_same p [] = refl
all_same p (x ∷ xs) = ap (λ (b : Bool). p x && b) (all_same p xs)

pub returns : goal.returns
returns c =
    let rs = c.args.records.now in
    all_from_yields_List legal_record _ _ _ c.all.ensures.ran (YieldsList-from_slice rs cc) (λ x b q k. search (rules, tests))
    ∙ all_same legal_record rs
