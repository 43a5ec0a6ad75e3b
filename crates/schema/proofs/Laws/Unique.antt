-- ONLY ONE ANSWER of `check`, for any table.
use Rattle.std.specs.Prelude.{◌≡◌, refl, List, ℕ, Some, Option, None}
use Rattle.std.proofs.Common.{ap, sym, ◌∙◌}
use Rattle.lists.proofs.Laws.Booleans.{never_some}
use Rattle.grammar.specs.Document.{Element}
use Rattle.grammar.specs.Grammar.{Writes}
use Rattle.grammar.specs.Parser.{parse}
use Rattle.grammar.proofs.Laws.Theorems.{parse_iff}
use Rattle.schema.specs.Checked.{Checks}
use Rattle.schema.specs.declared.Checked.{Checked}

abbrev checked_as : ℕ → ℕ → Checked
checked_as n r = record { number = n; root = r }

same_checked : (a b : Checked) → a.number ≡ b.number → a.root ≡ b.root → a ≡ b
same_checked a b p q = ap (λ n. checked_as n a.root) p ∙ ap (checked_as b.number) q

pub checks_unique : {t l : List ℕ} {k : ℕ} {text : List ℕ} {a b : Checked} → Checks t l k text a → Checks t l k text b → a ≡ b
checks_unique {t} {l} {k} {text} {a} {b} x y = go (parse text) (λ e. (parse_iff text e).0) (λ e. (parse_iff text e).1)
  where
    go : (d : Option Element) → ((e : Element) → d ≡ Some e → Writes e text) → ((e : Element) → Writes e text → d ≡ Some e) → a ≡ b
    go None f g =
        let u = x.none (λ e w. never_some (g e w)) in
        let v = y.none (λ e w. never_some (g e w)) in
        same_checked a b (u.0 ∙ sym v.0) (u.1 ∙ sym v.1)
    go (Some e) f g =
        let u = x.some_one e (f e refl) in
        let v = y.some_one e (f e refl) in
        let h : Some a.root ≡ Some b.root = sym u.placed ∙ v.placed in
        let r : a.root ≡ b.root = cc in
        same_checked a b (u.number_is ∙ sym v.number_is) r
