-- What is proved of Fields.
use Rattle.std.specs.Prelude.{◌≡◌, Bool, true, ℕ, Option, Some, None}
use Rattle.std.proofs.Math.Path.{refl, sym, ap}
use Rattle.std.proofs.Common.{◌∙◌, rules}
use mathlib.Core.List.{List, []}
use Prim.Native.String.{String}
use Rattle.grammar.specs.Bytes.{ascii}
use Rattle.grammar.specs.Document.{Element}
use Rattle.grammar.specs.Look.{Word, attributes_of, or_empty, attr, has, is}
use Rattle.grammar.specs.Parser.{same_bytes}
use Rattle.numbers.specs.Numbers.{whole, value, digits}
use Rattle.lists.specs.Lists.{all}
use Rattle.nodes.specs.Places.{Stands, the}
use Rattle.nodes.specs.Attributes.{place, lookup}
use Rattle.nodes.proofs.Laws.AttributesSteps.{lookup_is, Held, missing, held, attribute_law}
use Rattle.nodes.specs.Values.{value_there}
use Rattle.nodes.proofs.Laws.NextBytes.{value_law}
use Rattle.nodes.specs.Found.{value_at_name}
use Rattle.nodes.proofs.Laws.Found.{found_law}
use Rattle.numbers.specs.Answers.{whole_in}
use Rattle.maps.specs.Fields.{attribute_word, or_zero, number_seen}

pub word_at : (s : String) (e : Element) → attribute_word (ascii s) e ≡ attr s e
unfolding attribute_word attr
word_at s e = ap or_empty (lookup_is s (attributes_of e))

-- a number that is in form
pub number_seen_lem : (lo hi : ℕ) (w : Word) → whole lo hi w ≡ true → number_seen lo hi w ≡ value w
unfolding number_seen whole_in or_zero
number_seen_lem lo hi w h = rw h

-- what stands where the attribute was found
module _ {text : List ℕ} {at : ℕ} (w : List ℕ) (st : Stands text at) {f : Option ℕ} (e : f ≡ place text at w) where
  pub found_value : {v : ℕ} → f ≡ Some v → value_there text v ≡ attribute_word w (the text at)
  unfolding attribute_word or_empty
  found_value {v} h = go (lookup w (attributes_of (the text at))) (rw (sym e ∙ h) at (attribute_law w st))
    where
      go : (o : Option Word) → Held text (Some v) o → value_there text v ≡ or_empty o
      go None x' = elim x' [ ]
      go (Some x) (held k) = value_law k

  pub found_none : f ≡ None → attribute_word w (the text at) ≡ []
  unfolding attribute_word or_empty
  found_none h = go (lookup w (attributes_of (the text at))) (rw (sym e ∙ h) at (attribute_law w st))
    where
      go : (o : Option Word) → Held text None o → or_empty o ≡ []
      go (Some _) x'' = elim x'' [ ]
      go None missing = refl

  -- the paths of `attribute_number`
  pub seen_is : (lo hi : ℕ) {v n : ℕ} {a : Option ℕ} → f ≡ Some v → a ≡ whole_in lo hi (value_there text v) → a ≡ Some n
      → n ≡ number_seen lo hi (attribute_word w (the text at))
  unfolding number_seen or_zero
  seen_is lo hi h p q = sym (ap (λ x. or_zero (whole_in lo hi x)) (sym (found_value h)) ∙ ap or_zero (sym p ∙ q))

  pub seen_no : (lo hi : ℕ) {v : ℕ} {a : Option ℕ} → f ≡ Some v → a ≡ whole_in lo hi (value_there text v) → a ≡ None
      → 0 ≡ number_seen lo hi (attribute_word w (the text at))
  unfolding number_seen or_zero
  seen_no lo hi h p q = sym (ap (λ x. or_zero (whole_in lo hi x)) (sym (found_value h)) ∙ ap or_zero (sym p ∙ q))

  pub seen_none : (lo hi : ℕ) → f ≡ None → 0 ≡ number_seen lo hi (attribute_word w (the text at))
  unfolding number_seen or_zero whole_in whole digits all
  seen_none lo hi h = rw (found_none h)

-- what `attribute_is` of nodes says, of a standing element
pub is_word_lem : {text : List ℕ} {at : ℕ} (w word : List ℕ) → Stands text at → {b : Bool} → b ≡ same_bytes (value_at_name text at w) word
    → b ≡ same_bytes (attribute_word w (the text at)) word
unfolding value_at_name attribute_word
is_word_lem w word st p = p ∙ ap (λ o. same_bytes (or_empty o) word) (found_law w st)

pub ruleset fieldSteps = (seen_is, seen_no, seen_none, is_word_lem, rules)

-- what `attribute_is` says, of words given in letters
pub says_has : (a s : String) (e : Element) {b : Bool} → b ≡ same_bytes (attribute_word (ascii a) e) (ascii s) → b ≡ has a s e
unfolding has is
says_has a s e p = p ∙ ap (λ x. same_bytes x (ascii s)) (word_at a e)
