-- THE NAME OF A MAP: the conditions before 18, then the place of the name.
use Rattle.std.specs.Prelude.{◌≡◌, List, ℕ, ◌+◌, ◌-◌, ◌≤◌, length, take, drop}
use Rattle.std.proofs.Common.{subst, arith, rules}
use Rattle.steps.specs.Noted.{part}
use Rattle.cifti.specs.Names.{NameNumber, NamePart}
use Rattle.map_names.specs.Answered.{Answered}
use Rattle.map_names.specs.Placed.{NamePlaced}
use Rattle.map_names.proofs.Laws.Placed.{placed_name}
use Rattle.map_names.specs.declared.NamePlace.{NamePlace}
use Rattle.survey.specs.Header.{Surveys}
use Rattle.survey.specs.declared.header.Survey.{Survey}

module _ {text lengths : List ℕ} {d i : ℕ} where
  pub name_placed : {s : Survey} → Surveys text lengths s → {r : NamePlace} → Answered text s.number d i r
      → NamePlaced text lengths d i r
  name_placed sv a = placed_name text lengths d i sv.number_is a

  module _ {r : NamePlace} (p : NamePlaced text lengths d i r) where
    pub name_number : NameNumber text lengths d i r.number
    name_number = p.numbered

    pub name_inside : r.start + r.length ≤ length text
    name_inside = p.inside

    pub name_part_lem : NamePart text lengths d i (part r.start (r.start + r.length) text)
    name_part_lem =
        let n : r.length ≡ (r.start + r.length) - r.start = omega arith in
        subst (λ (m : ℕ). NamePart text lengths d i (take m (drop r.start text))) n p.named

pub ruleset naming_map = (name_placed, name_number, name_inside, name_part_lem, rules)
