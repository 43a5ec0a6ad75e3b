-- THE PROMISE of `place_of`: what the program finds, and what it answers.
use Rattle.std.specs.Prelude.{◌≡◌, List, ℕ, length, Some, None}
use Rattle.grammar.specs.Bytes.{ascii}
use Rattle.nodes.specs.Inside.{between_tags}
use Rattle.inside.specs.One.{tag_end}
use Rattle.map_names.specs.Treads.{named_at}
use Rattle.map_names.specs.declared.NamePlace.{NamePlace}

pub record Is (r : NamePlace) (number start size : ℕ) : Type 0 where
  pub number_is : r.number ≡ number
  pub start_is : r.start ≡ start
  pub length_is : r.length ≡ size

-- the refusal that is given; else 18 where nothing is found; else the place behind the tag, and the length of what stands between the tags
pub record Answered (text : List ℕ) (number dimension index : ℕ) (r : NamePlace) : Type 0 where
  pub refused : (number ≡ 0 → ⊥) → Is r number 0 0
  pub missing : number ≡ 0 → named_at text (ascii "MapName") dimension index ≡ None → Is r 18 0 0
  pub found : number ≡ 0 → (k : ℕ) → named_at text (ascii "MapName") dimension index ≡ Some k
      → Is r 0 (tag_end text k) (length (between_tags text k))
