-- WHAT IT IS FOR THE STRETCHES OF A TEXT TO PACK.
use Rattle.std.specs.Prelude.{◌≡◌, List, true, ℕ, ◌+◌, ◌≤◌, length, take, drop}
use Rattle.grammar.specs.Document.{Element}
use Rattle.grammar.specs.Grammar.{Writes}
use Rattle.records.specs.Width.{seven}
use Rattle.records.specs.Sheet.{all_legal, pack_refusal}
use Rattle.cifti.specs.Maps.{maps_of}
use Rattle.cifti.specs.Answer.{stretches}

-- the records begin with the stretches of the text; these are legal, and packing some of them in a row, or all, never answers 16
pub record Packable (text records : List ℕ) : Type 0 where
  pub document : Element
  pub written : Writes document text
  pub held : take (length (stretches (maps_of document))) records ≡ stretches (maps_of document)
  pub legal : all_legal seven (stretches (maps_of document)) ≡ true
  pub packed : (from count room : ℕ) → from + count ≤ length (stretches (maps_of document))
      → pack_refusal seven (take count (drop from records)) room ≡ 16 → ⊥
