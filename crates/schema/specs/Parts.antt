-- A row taken apart: the element's own part (attributes, text), and its children.
use Rattle.std.specs.Prelude.{List, Bool, true, ◌&&◌, cond, ℕ, zero, suc, eqb}
use Prim.Native.String.{String}
use Rattle.lists.specs.Lists.{all, any, is_some}
use Rattle.grammar.specs.Bytes.{blank}
use Rattle.grammar.specs.Document.{Attribute, Element}
use Rattle.grammar.specs.Look.{Word, is, attributes_of, contents_of, elements, text_of}
use Rattle.schema.specs.Schema.{AttributeRow, row_name, is_named, is_word, is_number, attribute_shaped, attribute_numbered, is_text}
use Rattle.schema.specs.Schema.{child_shaped}
use Rattle.schema.specs.Schema.{orderly, kind_of, shaped, numbered}
use Rattle.numbers.specs.Numbers as numbers
use Rattle.numbers.specs.Numbers.{whole, volume_dimensions, dimension_list, exponent, decimal, key_list, colour}
use Rattle.base64_text.specs.Base64.{coded}
use Rattle.nodes.specs.Attributes.{Key, key}
use Rattle.schema.specs.Walk.{at_child}
use Rattle.schema.specs.Table.{rows_of, text_at, order_at, order_by, text_form_at, form_at, attribute_at, attributes_of_kind, lines_of_kind}
use Rattle.schema.specs.Faults.{fault, sooner}

-- only attributes that are named in the rows
unfoldable pub named_only : List AttributeRow → List Attribute → Bool
named_only r l = all (λ a. any (is_named a) r) l

-- a value is one of the words
unfoldable pub among_words : List String → Word → Bool
among_words l w = any (λ s. is s w) l

unfoldable pub name_listed : List AttributeRow → Word → Bool
name_listed r n = any (λ row. is (row_name row) n) r

unfoldable pub key_listed : List AttributeRow → Key → Bool
key_listed r (key n v) = name_listed r n

-- numbers by a form and its limits; those of labels, which have none
unfoldable pub label_by_form : (form : ℕ) → Word → Bool
label_by_form f w = cond (eqb f 7) (numbers.key w) (cond (eqb f 8) (colour w) true)

unfoldable pub number_by : (form low high third : ℕ) → Word → Bool
number_by f a b c w =
    cond (eqb f 2) (dimension_list w)
    (cond (eqb f 3) (whole a b w)
    (cond (eqb f 4) (decimal w)
    (cond (eqb f 5) (exponent a w)
    (cond (eqb f 6) (volume_dimensions a b c w)
    (label_by_form f w)))))

-- texts that list keys, by a form: as numbers, or as Base64
unfoldable pub keys_by_form : (form : ℕ) → Word → Bool
keys_by_form f w = cond (eqb f 3) (key_list w) (cond (eqb f 4) (coded w) true)

-- the fault of the attributes in the rows
unfoldable pub attributes_fault : List AttributeRow → List Attribute → ℕ
attributes_fault r l = fault (all (attribute_shaped l) r) (all (attribute_numbered l) r)

-- the text: its shape, and the fault of its numbers
unfoldable pub text_shaped : ℕ → Word → Bool
text_shaped zero w = all blank w
text_shaped (suc t) w = true

unfoldable pub text_numbered : List ℕ → ℕ → Word → Bool
text_numbered t zero w = true
text_numbered t (suc f) w = is_text (text_form_at t f) w

unfoldable pub text_fault : List ℕ → ℕ → Word → ℕ
text_fault t f w = fault true (text_numbered t f w)

module _ (t l : List ℕ) where
  -- the fault of a value of a form, and of an attribute that an element is to have
  abbrev pub value_fault : ℕ → Word → ℕ
  value_fault f w = fault (is_word (form_at t l f) w) (is_number (form_at t l f) w)

  abbrev pub attribute_fault : ℕ → Element → ℕ
  attribute_fault a e = fault (attribute_shaped (attributes_of e) (attribute_at t l a)) (attribute_numbered (attributes_of e) (attribute_at t l a))

  -- the fault of an element's own part: its attributes, and the numbers in its text
  unfoldable pub own_fault : ℕ → Element → ℕ
  own_fault k e =
      sooner (fault (named_only (attributes_of_kind t l k) (attributes_of e)) true)
      (sooner (attributes_fault (attributes_of_kind t l k) (attributes_of e)) (text_fault t (text_at t k) (text_of e)))

  -- each line is met as often as it says
  unfoldable pub times_right : ℕ → List Element → Bool
  times_right k es = all (child_shaped es) (lines_of_kind t l k)

  -- and in turn, where the order is that of the lines
  unfoldable pub order_right : ℕ → List Element → Bool
  order_right k es = orderly (order_by (order_at t k)) (lines_of_kind t l k) es

  -- and between them is no text where none may be
  unfoldable pub frame_right : ℕ → Element → Bool
  frame_right k e = text_shaped (text_at t k) (text_of e) && (times_right k (elements (contents_of e)) && order_right k (elements (contents_of e)))

  -- the fault of the children, one by one: each has a kind, and is as its kind says
  unfoldable pub kid_shaped : ℕ → Element → Bool
  kid_shaped k e = is_some (kind_of (lines_of_kind t l k) e) && at_child (rows_of t l) shaped (lines_of_kind t l k) e

  unfoldable pub kids_fault : ℕ → List Element → ℕ
  kids_fault k es = fault (all (kid_shaped k) es) (all (at_child (rows_of t l) numbered (lines_of_kind t l k)) es)
