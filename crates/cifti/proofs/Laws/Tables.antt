-- WHAT A GOOD TABLE OF LABELS HOLDS: every Label has a key in form.
use Rattle.std.specs.Prelude.{◌≡◌, refl, List, [], ◌∷◌, true, Some}
use Rattle.std.proofs.Common.{subst}
use Rattle.lists.specs.Lists.{all}
use Rattle.lists.proofs.Laws.Booleans.{and_left, and_right, and_both}
use Rattle.grammar.specs.Document.{Element}
use Rattle.grammar.specs.Look.{is, name_of, attributes_of, contents_of, attr, elements, children}
use Rattle.numbers.specs.Numbers.{key}
use Rattle.schema.specs.Schema.{ChildRow, child, any_times, always, kind_of, kind_by, shaped, numbered, attributes_shaped}
use Rattle.schema.proofs.Laws.Good.{GoodAs, good_as, EachGood, no_good, also_good, those_good, shape_here, number_here}
use Rattle.schema.specs.Good.{Good}
use Rattle.schema.proofs.Laws.Good.{good_children, required_number}
use Rattle.cifti.specs.LabelTable.{labels_of, keys_right}
use Rattle.cifti.specs.Rows.{ElementKind, rows, label_attributes, label_table, label}

abbrev table_rows : List (ChildRow ElementKind)
table_rows = child "Label" any_times (always label) ∷ []

label_kind : (e : Element) → GoodAs rows table_rows e → is "Label" (name_of e) ≡ true → Good rows label e
unfolding kind_of kind_by
label_kind e (good_as {k} q g) n =
    let at : Some label ≡ Some k = rw n at q in
    let z : k ≡ label = cc in
    subst (λ (j : ElementKind). Good rows j e) z g

good_labels_of : {e : Element} → Good rows label_table e → EachGood rows label (children "Label" e)
unfolding children rows
good_labels_of {e} g = those_good "Label" label table_rows label_kind (elements (contents_of e)) (good_children g _ _ _ refl)

label_key_lem : {e : Element} → Good rows label e → key (attr "Key" e) ≡ true
unfolding rows label_attributes shaped numbered attributes_shaped all attr
label_key_lem {e} g = required_number (attributes_of e) "Key" key
    (and_left _ _ (and_right (all _ (attributes_of e)) _ (and_left _ _ (shape_here g))))
    (and_left _ _ (and_left _ _ (number_here g)))

all_keys : {l : List Element} → EachGood rows label l → all (λ d. key (attr "Key" d)) l ≡ true
unfolding all
all_keys no_good = refl
all_keys (also_good g m) = and_both (label_key_lem g) (all_keys m)

pub keys_in_form : {e : Element} → Good rows label_table e → keys_right e ≡ true
unfolding keys_right labels_of
keys_in_form g = all_keys (good_labels_of g)
