-- The number of the word that an attribute says: of the structures, and of the units.
use Rattle.std.specs.Prelude.{◌≡◌, refl, List, [], ◌∷◌, Bool, true, false, cond, ◌||◌, ℕ, suc, ◌<◌, length, Option, Some, None}
use Prim.Native.String.{String}
use Rattle.std.proofs.Common.{arith, sym, ap, ◌∙◌, rules}
use Rattle.lists.specs.Lists.{any}
use Rattle.grammar.specs.Look.{Word, is}
use Rattle.cifti.specs.Words.{structures, number_in}
use Rattle.grammar.specs.Bytes.{ascii}
use Rattle.grammar.specs.Look.{attr}
use Rattle.grammar.specs.Parser.{same_bytes}
use Rattle.nodes.specs.Places.{Stands, the}
use Rattle.nodes.specs.Attributes.{place}
use Rattle.nodes.specs.Values.{value_there}
use Rattle.cifti.specs.Words.{units}
use Rattle.maps.proofs.Laws.Fields.{word_at, found_value, found_none}

pub thirty_two : length structures ≡ 32
unfolding structures
thirty_two = refl

-- a word of the list has a number below its length
pub number_below : (l : List String) (w : Word) → any (λ s. is s w) l ≡ true → number_in l w < length l
unfolding any number_in
number_below [] w h = let z : ◌≡◌ {A = ℕ} 0 1 = cc in absurd (omega arith)
number_below (s ∷ l) w h = go (is s w) h (number_below l w)
  where
    go : (b : Bool) → (b || any (λ s. is s w) l) ≡ true → (any (λ s. is s w) l ≡ true → number_in l w < length l)
        → cond b 0 (suc (number_in l w)) < suc (length l)
    go true k f = omega arith
    go false k f = omega (arith, f k)

pub structure_below : (w : Word) → any (λ s. is s w) structures ≡ true → number_in structures w < 32
structure_below w h = omega (arith, number_below structures w h, thirty_two)

no_structure_lem : number_in structures [] ≡ 32
unfolding structures number_in is same_bytes
no_structure_lem = refl

no_unit : number_in units [] ≡ 4
unfolding units number_in is same_bytes
no_unit = refl

module _ {text : List ℕ} {at : ℕ} (st : Stands text at) (s : String) (l : List String) {f : Option ℕ} (e : f ≡ place text at (ascii s)) where
  named_there : {v n : ℕ} → f ≡ Some v → n ≡ number_in l (value_there text v) → n ≡ number_in l (attr s (the text at))
  named_there h q = q ∙ ap (number_in l) (found_value (ascii s) st e h ∙ word_at s (the text at))

  named_nowhere : f ≡ None → number_in l [] ≡ number_in l (attr s (the text at))
  named_nowhere h = ap (number_in l) (sym (sym (word_at s (the text at)) ∙ found_none (ascii s) st e h))

module _ {text : List ℕ} {at : ℕ} (st : Stands text at) {f : Option ℕ} where
  pub structure_there : f ≡ place text at (ascii "BrainStructure") → {v n : ℕ} → f ≡ Some v → n ≡ number_in structures (value_there text v)
      → n ≡ number_in structures (attr "BrainStructure" (the text at))
  structure_there e h q = named_there st "BrainStructure" structures e h q

  pub structure_missing : f ≡ place text at (ascii "BrainStructure") → f ≡ None
      → 32 ≡ number_in structures (attr "BrainStructure" (the text at))
  structure_missing e h = sym no_structure_lem ∙ named_nowhere st "BrainStructure" structures e h

  pub unit_there : f ≡ place text at (ascii "SeriesUnit") → {v n : ℕ} → f ≡ Some v → n ≡ number_in units (value_there text v)
      → n ≡ number_in units (attr "SeriesUnit" (the text at))
  unit_there e h q = named_there st "SeriesUnit" units e h q

  pub unit_missing : f ≡ place text at (ascii "SeriesUnit") → f ≡ None → 4 ≡ number_in units (attr "SeriesUnit" (the text at))
  unit_missing e h = sym no_unit ∙ named_nowhere st "SeriesUnit" units e h

pub ruleset structured = (structure_there, structure_missing, unit_there, unit_missing, rules)
