-- What is proved of Digits.
use Rattle.std.specs.Prelude.{◌≡◌, List, [], ℕ, ◌+◌, min, eqb, replicate, Option, Some, None}
use Rattle.std.proofs.Common.{sym, ap, ◌∙◌, rules}
use Rattle.lists.specs.Lists.{count}
use Rattle.grammar.specs.Bytes.{ascii}
use Rattle.grammar.specs.Document.{Element}
use Rattle.grammar.specs.Look.{Word, attr}
use Rattle.nodes.specs.Places.{the}
use Rattle.nodes.specs.Attributes.{place}
use Rattle.nodes.specs.Values.{value_there}
use Rattle.cifti.specs.Maps.{dimensions_of}
use Rattle.maps.proofs.Laws.MapKind.{map_dimensions}
use Rattle.maps.specs.MapKind.{GoodMap}
use Rattle.maps.specs.Fields.{attribute_word}
use Rattle.maps.proofs.Laws.Fields.{word_at, found_value, found_none}
use Rattle.maps.proofs.Laws.Dimensions.{counted}
use Rattle.maps.specs.Seen.{CountsDigits}
use Rattle.maps.proofs.Laws.Seen.{none_yet}
use Rattle.maps.specs.Sums.{MapAt}
use Rattle.maps.specs.declared.dims.Dims.{Dims}
use Rattle.maps.specs.Digits.{CountsNumbers}

dimension_count : (e : Element) (d : ℕ) → GoodMap e
    → count (eqb d) (dimensions_of e) ≡ count (eqb (d + 48)) (attribute_word (ascii "AppliesToMatrixDimension") e)
unfolding dimensions_of
dimension_count e d g = counted (attr "AppliesToMatrixDimension" e) (map_dimensions g) d
    ∙ ap (count (eqb (d + 48))) (sym (word_at "AppliesToMatrixDimension" e))

tells_by : (e : Element) → GoodMap e → (w : Word) → w ≡ attribute_word (ascii "AppliesToMatrixDimension") e → {r : Dims} → CountsDigits w r
    → CountsNumbers (dimensions_of e) r
tells_by e g w h l = record {
  ten = l.ten;
  tells = λ d u. (l.each_is d u ∙ ap (λ x. min 2 (count (eqb (d + 48)) x)) h ∙ ap (min 2) (sym (dimension_count e d g)));
}

module _ {text : List ℕ} {at : ℕ} (m : MapAt text at) {f : Option ℕ} (e : f ≡ place text at (ascii "AppliesToMatrixDimension")) where
  pub dimensions_there : {v : ℕ} → f ≡ Some v → {r : Dims} → CountsDigits (value_there text v) r
      → CountsNumbers (dimensions_of (the text at)) r
  dimensions_there {v} h l = tells_by (the text at) m.good (value_there text v)
      (found_value (ascii "AppliesToMatrixDimension") m.stands e h) l

  pub dimensions_missing : f ≡ None → (r : Dims) → r.has ≡ replicate 10 0 → CountsNumbers (dimensions_of (the text at)) r
  dimensions_missing h r z = tells_by (the text at) m.good [] (sym (found_none (ascii "AppliesToMatrixDimension") m.stands e h))
      (none_yet r z)

pub ruleset digits_of_map = (dimensions_there, dimensions_missing, rules)
