use Rattle.std.proofs.Common.{Some}
use mathlib.Core.Path.{◌≡◌, ap, refl}
use mathlib.Core.List.{List, [], ◌∷◌}
use mathlib.Core.Bool.{Bool, true, not}
use Prim.Native.Nat.{ℕ}
use borrow.Author.Rules.{rules}
use lib.ListN.{length, drop}
use Rattle.grammar.specs.Parser.{attributes_at, ends, closing}
use Rattle.steps.specs.Step.{stepped}
use Rattle.steps.proofs.Laws.Attributes.{list_start_lem, list_ends}
use Rattle.heads.proofs.attributes.attributes_end.Goals as goal

-- as the list ends where nothing is noted yet
none-there : (text : List ℕ) (at : ℕ) {t : Bool} → t ≡ ends closing (drop at text) → t ≡ true
    → Some at ≡ stepped (length text) (attributes_at (drop at text))
none-there text at e f = list_ends text at sixteen sixteen 0 at (list_start_lem text at sixteen sixteen refl refl) e (ap not f)
  where
    sixteen : List ℕ
    sixteen = 0 ∷ 0 ∷ 0 ∷ 0 ∷ 0 ∷ 0 ∷ 0 ∷ 0 ∷ 0 ∷ 0 ∷ 0 ∷ 0 ∷ 0 ∷ 0 ∷ 0 ∷ 0 ∷ []

pub returns-then-tag_ends : goal.returns-then-tag_ends
returns-then-tag_ends c = search (none-there, rules)
