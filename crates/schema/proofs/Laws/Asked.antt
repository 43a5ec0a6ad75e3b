-- What is asked at an element, from what is known there.
use Rattle.std.specs.Prelude.{List, ℕ, ◌<◌}
use Rattle.std.proofs.Common.{arith}
use Rattle.nodes.specs.Places.{Stands}
use Rattle.schema.specs.Asked.{Known}

module _ {text : List ℕ} {at n : ℕ} (p : Known text at n) where
  pub known_small : n < 4294967304
  known_small = p.known

  pub known_stands : Stands text at
  known_stands = p.stands

  pub known_other : {m : ℕ} → m < 4294967296 → Known text at m
  known_other h = record { stands = p.stands; known = omega arith }
