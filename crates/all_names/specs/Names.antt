-- ALL NAMES OF A MAP: it checks 1 to 9, then 18 as for the first name, then 17, and answers how many names there are; the list lent has two
-- numbers a name from its start, where the name starts in the text and its length.
use Rattle.std.specs.Prelude.{◌≡◌, List, [], ◌∷◌, ◌++◌, ℕ, ◌+◌, ◌*◌, ◌<◌, ltb, length, get_or, drop, Option, Some, None}
use Rattle.grammar.specs.Document.{Element}
use Rattle.records.specs.Outcome.{outcome}
use Rattle.records.specs.declared.outcome.Outcome.{Outcome}
use Rattle.cifti.specs.Conditions.{◌when◌, conditions_of_header, of_maps, first}
use Rattle.cifti.specs.Names.{no_name, names_on}
use Rattle.cifti.specs.Text.{Answers}
use Rattle.map_names.specs.Placed.{NamePlaced}
use Rattle.map_names.specs.declared.NamePlace.{NamePlace}

-- how many names the map has that lists the dimension
unfoldable pub name_count : (dimension : ℕ) → Option Element → ℕ
name_count d None = 0
name_count d (Some e) = length (names_on d e)

-- 18 as for the first name: a map's length is not 0; 17: the list is too short
unfoldable pub names_refusal : (lengths : List ℕ) (size room dimension : ℕ) → Option Element → ℕ
names_refusal lengths size room d o =
    first (conditions_of_header lengths size o ++ (18 when of_maps (no_name d 0) o ∷ 17 when ltb room (2 * name_count d o) ∷ []))

-- the number, and how many names there are, 0 where refused
unfoldable pub names_answer : (lengths : List ℕ) (size room dimension : ℕ) → Option Element → Outcome
names_answer lengths size room d o = outcome (names_refusal lengths size room d o) (name_count d o)

-- the n-th two numbers of a list, as the place of a name
abbrev pub name_place_in : List ℕ → ℕ → NamePlace
name_place_in l n = record { number = 0; start = get_or l (2 * n) 0; length = get_or l (2 * n + 1) 0 }

-- THE PROMISE; `before` and `after` are the list lent
pub record MapNamesPlaced (text lengths : List ℕ) (dimension : ℕ) (before : List ℕ) (answer : Outcome) (after : List ℕ) : Type 0 where
  pub answered : Answers text (names_answer lengths (length text) (length before) dimension) answer
  pub each : (n : ℕ) → n < answer.value → NamePlaced text lengths dimension n (name_place_in after n)
  pub past : drop (2 * answer.value) after ≡ drop (2 * answer.value) before
  pub long : length after ≡ length before

unfoldable pub all_names : Unit {0}
unfolding name_count names_refusal names_answer
all_names = tt
