-- What is proved of Found.
use Rattle.std.specs.Prelude.{◌≡◌, refl, List, [], ℕ, Option, Some, None}
use Rattle.std.proofs.Common.{ap, sym, ◌∙◌}
use Prim.Native.String.{String}
use Rattle.grammar.specs.Bytes.{ascii}
use Rattle.grammar.specs.Look.{attributes_of, value_in, or_empty, attr, has, is}
use Rattle.grammar.specs.Parser.{same_bytes}
use Rattle.nodes.specs.Places.{the, Stands}
use Rattle.nodes.specs.Attributes.{place, lookup}
use Rattle.nodes.proofs.Laws.AttributesSteps.{lookup_is, Held, missing, held, attribute_law}
use Rattle.nodes.specs.Values.{value_there}
use Rattle.nodes.proofs.Laws.NextBytes.{value_law}
use Rattle.nodes.specs.Found.{found_value, value_at_name}

held_value : {text : List ℕ} {f : Option ℕ} {o : Option (List ℕ)} → Held text f o → found_value text f ≡ o
unfolding found_value
held_value missing = refl
held_value (held h) = ap Some (value_law h)

-- THE LAWS of found values
pub found_law : {text : List ℕ} {at : ℕ} (w : List ℕ) → Stands text at
    → found_value text (place text at w) ≡ lookup w (attributes_of (the text at))
found_law w st = held_value (attribute_law w st)

pub value_in_law_lem : {text : List ℕ} {at : ℕ} (s : String) → Stands text at
    → found_value text (place text at (ascii s)) ≡ value_in s (attributes_of (the text at))
value_in_law_lem {text} {at} s st = found_law (ascii s) st ∙ lookup_is s (attributes_of (the text at))

pub attr_law : {text : List ℕ} {at : ℕ} (s : String) → Stands text at → value_at_name text at (ascii s) ≡ attr s (the text at)
unfolding value_at_name attr
attr_law s st = ap or_empty (value_in_law_lem s st)

pub has_law : {text : List ℕ} {at : ℕ} (s v : String) → Stands text at
    → same_bytes (value_at_name text at (ascii s)) (ascii v) ≡ has s v (the text at)
unfolding has is
has_law s v st = ap (λ x. same_bytes x (ascii v)) (attr_law s st)

-- by the answer of the program
module _ (text : List ℕ) (at : ℕ) (w : List ℕ) {f : Option ℕ} (e : f ≡ place text at w) where
  pub value_found : {v : ℕ} → f ≡ Some v → value_at_name text at w ≡ value_there text v
  unfolding value_at_name found_value or_empty
  value_found z = rw (sym e ∙ z)

  pub value_missing : f ≡ None → value_at_name text at w ≡ []
  unfolding value_at_name found_value or_empty
  value_missing z = rw (sym e ∙ z)
