-- WHAT A GOOD LABELS MAP HOLDS: its NamedMaps are good, their LabelTables are, and so every Label has a key in form.
use Rattle.std.specs.Prelude.{◌≡◌, refl, List, [], ◌∷◌, true, false, Some}
use Rattle.std.proofs.Common.{subst}
use Rattle.grammar.specs.Bytes.{ascii}
use Rattle.grammar.specs.Document.{Element}
use Rattle.grammar.specs.Look.{is, name_of, contents_of, elements, children}
use Rattle.grammar.specs.Parser.{same_bytes}
use Rattle.schema.specs.Schema.{ChildRow, child, once, at_most_once, always, kind_of, kind_by}
use Rattle.schema.proofs.Laws.Good as good
pub use Rattle.schema.proofs.Laws.Good.{no_good, also_good, those_good}
use Rattle.cifti.specs.Rows.{ElementKind, rows, text_leaf, meta_data, labels, labelled_map, label_table}
pub use Rattle.cifti.proofs.Laws.Tables.{keys_in_form}
use Rattle.maps.proofs.Laws.Good.{GoodAs, good_as, good_children}
use Rattle.maps.specs.Good.{Good}
use Rattle.maps.proofs.Laws.Kinds.{not_both}
use Rattle.map_names.proofs.Laws.Held.{named_of, named_kind, labels_children}

-- each of the list is good
abbrev pub EachGood : ElementKind → List Element → Type 0
EachGood k l = good.EachGood rows k l

-- ---- The NamedMaps of a labels map.

pub good_named : {e : Element} → Good labels e → EachGood labelled_map (children "NamedMap" e)
unfolding children
good_named {e} g =
    those_good "NamedMap" labelled_map (named_of labelled_map) (λ x h p. (named_kind labelled_map x h).1) (elements (contents_of e))
    (labels_children g)

-- ---- The LabelTable of a NamedMap.

abbrev labelled_rows : List (ChildRow ElementKind)
labelled_rows = child "MapName" once (always text_leaf) ∷ child "LabelTable" once (always label_table)
    ∷ child "MetaData" at_most_once (always meta_data) ∷ []

name_table : is "MapName" (ascii "LabelTable") ≡ false
unfolding is same_bytes
name_table = refl

table_kind : (e : Element) → GoodAs labelled_rows e → is "LabelTable" (name_of e) ≡ true → Good label_table e
unfolding kind_of kind_by
table_kind e (good_as {k} q g) n =
    let at : Some label_table ≡ Some k = rw (not_both "LabelTable" "MapName" (name_of e) n name_table, n) at q in
    let z : k ≡ label_table = cc in
    subst (λ (j : ElementKind). Good j e) z g

pub good_tables : {e : Element} → Good labelled_map e → EachGood label_table (children "LabelTable" e)
unfolding children rows
good_tables {e} g =
    those_good "LabelTable" label_table labelled_rows table_kind (elements (contents_of e)) (good_children g _ _ _ refl)
