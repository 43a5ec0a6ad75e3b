-- THE WALK OVER THE NAMEDMAPS of the map at a place, on any bytes.
use Rattle.std.specs.Prelude.{◌≡◌, List, [], ◌∷◌, ℕ, ◌*◌, ◌≤◌, eqb, ltb, length, Option, Some, None}
use Rattle.lists.specs.Lists.{those, each_in}
use Rattle.lists.specs.Refusals.{◌when◌, first}
use Rattle.grammar.specs.Bytes.{ascii}
use Rattle.records.specs.Fill.{wrote}
use Rattle.records.specs.Outcome.{unless, outcome}
use Rattle.records.specs.declared.outcome.Outcome.{Outcome}
use Rattle.nodes.specs.Children as Children
use Rattle.nodes.specs.Inside.{between_tags}
use Rattle.inside.specs.Walked.{places_from}
use Rattle.inside.specs.Treads.{called, child_named}
use Rattle.inside.specs.One.{tag_end}

-- where the NamedMaps begin
unfoldable pub named_in : List ℕ → ℕ → List ℕ
named_in text k = those (called text (ascii "NamedMap")) (places_from text (Children.first_child text k))

-- where the name starts, and its length
unfoldable pub start_by : List ℕ → Option ℕ → ℕ
start_by text None = 0
start_by text (Some m) = tag_end text m

unfoldable pub size_by : List ℕ → Option ℕ → ℕ
size_by text None = 0
size_by text (Some m) = length (between_tags text m)

unfoldable pub name_in : List ℕ → ℕ → Option ℕ
name_in text c = child_named (ascii "MapName") 0 text c

unfoldable pub pair_of : List ℕ → ℕ → List ℕ
pair_of text c = start_by text (name_in text c) ∷ size_by text (name_in text c) ∷ []

unfoldable pub pairs_at : List ℕ → ℕ → List ℕ
pairs_at text k = each_in (pair_of text) (named_in text k)

-- where there is a NamedMap, there are so many
pub record Counted (text : List ℕ) (at count : ℕ) : Type 0 where
  pub many : 1 ≤ length (named_in text at) → length (named_in text at) ≡ count

unfoldable pub number_on : List ℕ → (at count room : ℕ) → ℕ
number_on text at count room = first (18 when eqb (length (named_in text at)) 0 ∷ 17 when ltb room (2 * count) ∷ [])

pub record NamesOn (text : List ℕ) (at count : ℕ) (before : List ℕ) (answer : Outcome) (after : List ℕ) : Type 0 where
  pub answers : answer ≡ outcome (number_on text at count (length before)) count
  pub holds : after ≡ unless answer.number (wrote 0 (pairs_at text at) before) before
