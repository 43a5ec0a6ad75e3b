-- A LOOP THAT LENDS WORK SPACE: what it knows, and that the work space is as long as it was.
use Rattle.std.specs.Prelude.{◌≡◌, refl, List, ℕ, length}
use Rattle.std.proofs.Common.{◌∙◌}

pub record Lent (P : Type 0) (before after : List ℕ) : Type 0 where
  pub holds : P
  pub long : length after ≡ length before

pub lent_first : {P : Type 0} (work : List ℕ) → P → Lent P work work
lent_first work p = record { holds = p; long = refl }

module _ {Q : Type 0} {before work : List ℕ} (l : Lent Q before work) where
  pub lent_kept : {P : Type 0} → P → Lent P before work
  lent_kept p = record { holds = p; long = l.long }

  pub lent_long : (after : List ℕ) → length after ≡ length work → length after ≡ length before
  lent_long after e = e ∙ l.long

  pub lent_on : (after : List ℕ) → length after ≡ length work → {P : Type 0} → P → Lent P before after
  lent_on after e p = record { holds = p; long = lent_long after e }

pub ruleset lending = (lent_first, lent_kept, lent_on, lent_long)
