-- A document that passes 6, 29 and 7 holds what `Held` says.
use Rattle.std.specs.Prelude.{◌≡◌, refl, List, [], ◌∷◌, ◌++◌, Bool, true, false, ◌&&◌, ◌||◌, cond, Option, Some, None}
use Rattle.std.proofs.Common.{sym, ap, ◌∙◌, subst, append-nil, arith}
use Rattle.std.proofs.lemmas.Bool.{false≢true}
use borrow.Author.Tests.{eqb-true, not-false}
use Rattle.lists.specs.Lists.{all, count, those, each_in}
use Rattle.lists.proofs.Laws.Booleans.{and_left, and_right, both_ways}
use Rattle.grammar.specs.Bytes.{ascii}
use Rattle.grammar.specs.Document.{Element}
use Rattle.grammar.specs.Look.{Word, is, name_of, attributes_of, contents_of, value_in, or_empty, attr, has, elements, children, text_of}
use Rattle.grammar.specs.Parser.{same_bytes}
use Rattle.numbers.specs.Numbers.{whole, key_list}
use Rattle.base64_text.specs.Base64.{coded}
use Rattle.schema.specs.Schema.{any_value, word, number, AttributeRow, required, optional, ChildRow, child, once, at_most_once}
use Rattle.schema.specs.Schema.{at_least_once, always, chosen_else, any_order}
use Rattle.schema.specs.Schema.{in_order, branch, kind_of, kind_by, kind_chosen, kind_among, or_else, shaped, numbered}
use Rattle.schema.specs.Schema.{child_shaped, stands_so}
use Rattle.schema.proofs.Laws.Renamed.{walk_named, shaped_named, numbered_named}
use Rattle.schema.proofs.Laws.Good.{GoodAs, good_as, AllGood, none_left, one_good, good_children, row_met, in_form_lem}
use Rattle.schema.specs.Good.{Good}
use Rattle.schema.proofs.Laws.Good.{text_in_form, not_both, one_good_of}
use Rattle.schema.specs.Good.{One}
use Rattle.cifti.specs.Rows.{ElementKind, meta_data, label_table, rows}
use Rattle.cifti.proofs.Laws.Tables.{keys_in_form}
use Rattle.gifti.specs.Rows.{GiftiKind, of_cifti, gifti, plain_array, coded_array, other_array, plain_data, coded_data, encodings, endians}
use Rattle.gifti.specs.Rows.{array_attributes, array_row, gifti_rows}
use Rattle.gifti.specs.Arrays.{arrays_of, is_coded, data_of, label_tables}
use Rattle.gifti.specs.Conditions.{shape_wrong, number_wrong, encoding_read, array_read, array_not_read}
use Rattle.gifti.specs.Held.{GoodTable, GoodArray, GoodArrays, no_array_lem, one_array}

-- the second of the rows is met
second_met : {A : Type 0} (p : A → Bool) (x y : A) (l : List A) → all p (x ∷ y ∷ l) ≡ true → p y ≡ true
unfolding all
second_met p x y l h = and_left (p y) (all p l) (and_right (p x) (p y && all p l) h)

-- ---- The root.

-- the rows of its children
abbrev root_rows : List (ChildRow GiftiKind)
root_rows =
    child "MetaData" at_most_once (always (of_cifti meta_data))
    ∷ child "LabelTable" once (always (of_cifti label_table))
    ∷ child "DataArray" at_least_once (chosen_else "Encoding" encodings other_array)
    ∷ []

pub good_root : (e : Element) → shape_wrong e ≡ false → number_wrong e ≡ false → Good gifti_rows gifti e
unfolding shape_wrong number_wrong
good_root e h k = record { shape = not-false _ h; number = not-false _ k }

abbrev root_attributes : List AttributeRow
root_attributes = required "Version" any_value ∷ required "NumberOfDataArrays" (number (whole 0 9999999)) ∷ []

root_row : gifti_rows gifti ≡ branch root_attributes in_order root_rows
unfolding gifti_rows
root_row = refl

module _ {e : Element} (g : Good gifti_rows gifti e) where
  pub said_in_form : whole 0 9999999 (attr "NumberOfDataArrays" e) ≡ true
  said_in_form = in_form_lem g _ _ _ root_row 1 (omega arith) "NumberOfDataArrays" (whole 0 9999999) refl

  root_children : AllGood gifti_rows root_rows (elements (contents_of e))
  root_children = good_children g _ _ _ root_row

-- ---- The table.

-- a good element of CIFTI's kinds is good by CIFTI's rows
of_cifti_lem : {k : ElementKind} {e : Element} → Good gifti_rows (of_cifti k) e → Good rows k e
unfolding gifti_rows
of_cifti_lem {k} {e} g = record {
  shape = sym (walk_named of_cifti rows gifti_rows (λ j. refl) shaped shaped (shaped_named of_cifti) e k) ∙ g.shape;
  number = sym (walk_named of_cifti rows gifti_rows (λ j. refl) numbered numbered (numbered_named of_cifti) e k) ∙ g.number;
}

meta_table : is "MetaData" (ascii "LabelTable") ≡ false
unfolding is same_bytes
meta_table = refl

table_kind : (e : Element) → GoodAs gifti_rows root_rows e → is "LabelTable" (name_of e) ≡ true → Good gifti_rows (of_cifti label_table) e
unfolding kind_of kind_by
table_kind e (good_as {k} q g) n =
    let at : Some (of_cifti label_table) ≡ Some k = rw (not_both "LabelTable" "MetaData" (name_of e) n meta_table, n) at q in
    let z : k ≡ of_cifti label_table = cc in
    subst (λ (j : GiftiKind). Good gifti_rows j e) z g

module _ {e : Element} (g : Good gifti_rows gifti e) where
  one_table : count (λ d. is "LabelTable" (name_of d)) (elements (contents_of e)) ≡ 1
  unfolding child_shaped stands_so
  one_table = eqb-true _ _ (second_met (child_shaped (elements (contents_of e))) _ _ _ (row_met g _ _ _ root_row))

  pub good_table : GoodTable e
  unfolding label_tables children
  good_table =
      let o = one_good_of "LabelTable" (of_cifti label_table) root_rows table_kind (elements (contents_of e)) (root_children g) one_table in
      record { table = o.one; one_table = o.alone; keys_right_lem = keys_in_form (of_cifti_lem o.good) }

-- ---- An array: the Data that it holds.

-- the rows of its children
abbrev array_rows : GiftiKind → List (ChildRow GiftiKind)
array_rows k = child "MetaData" at_most_once (always (of_cifti meta_data)) ∷ child "Data" once (always k) ∷ []

meta_data_lem : is "MetaData" (ascii "Data") ≡ false
unfolding is same_bytes
meta_data_lem = refl

data_kind : (k : GiftiKind) (e : Element) → GoodAs gifti_rows (array_rows k) e → is "Data" (name_of e) ≡ true → Good gifti_rows k e
unfolding kind_of kind_by
data_kind k e (good_as {k = j} q g) n =
    let at : Some k ≡ Some j = rw (not_both "Data" "MetaData" (name_of e) n meta_data_lem, n) at q in
    let z : j ≡ k = cc in
    subst (λ (i : GiftiKind). Good gifti_rows i e) z g

one_data : (k : GiftiKind) {j : GiftiKind} {a : Element} (s : List AttributeRow) → Good gifti_rows j a
    → gifti_rows j ≡ branch s any_order (array_rows k) → One gifti_rows k (children "Data" a)
unfolding children child_shaped stands_so
one_data k {j} {a} s g row =
    one_good_of "Data" k (array_rows k) (data_kind k) (elements (contents_of a)) (good_children g _ _ _ row)
    (eqb-true _ _ (second_met (child_shaped (elements (contents_of a))) _ _ _ (row_met g _ _ _ row)))

-- what the array's one Data writes
pub data_of_lem : (a d : Element) → children "Data" a ≡ d ∷ [] → data_of a ≡ text_of d
unfolding data_of each_in
data_of_lem a d h = rw h (append-nil (text_of d))

-- ---- An array, by its encoding.

plain_row : gifti_rows plain_array ≡ branch (array_attributes ++ (optional "Endian" (word endians) ∷ [])) any_order (array_rows plain_data)
unfolding gifti_rows array_row
plain_row = refl

coded_row : gifti_rows coded_array ≡ branch (required "Endian" (word endians) ∷ array_attributes) any_order (array_rows coded_data)
unfolding gifti_rows array_row
coded_row = refl

good_plain : {a : Element} → Good gifti_rows plain_array a → is_coded a ≡ false → GoodArray a
unfolding array_attributes gifti_rows
good_plain {a} g c =
    let o = one_data plain_data _ g plain_row in
    record {
      held = o.one;
      one_data = o.alone;
      length_said = in_form_lem g _ _ _ plain_row 5 (omega arith) "Dim0" (whole 1 1048576) refl;
      plain = λ _. text_in_form o.good [] key_list refl;
      bytes = λ t. both_ways t c;
    }

good_coded : {a : Element} → Good gifti_rows coded_array a → is_coded a ≡ true → GoodArray a
unfolding array_attributes gifti_rows
good_coded {a} g c =
    let o = one_data coded_data _ g coded_row in
    record {
      held = o.one;
      one_data = o.alone;
      length_said = in_form_lem g _ _ _ coded_row 6 (omega arith) "Dim0" (whole 1 1048576) refl;
      plain = λ f. both_ways c f;
      bytes = λ _. text_in_form o.good [] coded refl;
    }

meta_array : is "MetaData" (ascii "DataArray") ≡ false
unfolding is same_bytes
meta_array = refl

table_array : is "LabelTable" (ascii "DataArray") ≡ false
unfolding is same_bytes
table_array = refl

coded_ascii : is "Base64Binary" (ascii "ASCII") ≡ false
unfolding is same_bytes
coded_ascii = refl

-- no value chooses no encoding that is read
none_read : (is "ASCII" [] ≡ false) × (is "Base64Binary" [] ≡ false)
unfolding is same_bytes
none_read = (refl, refl)

good_array : (a : Element) → GoodAs gifti_rows root_rows a → is "DataArray" (name_of a) ≡ true → array_read a ≡ true → GoodArray a
unfolding kind_of kind_by kind_chosen kind_among or_else encodings array_read encoding_read is_coded has attr or_empty
good_array a (good_as {k} q g) n h = go (value_in "Encoding" (attributes_of a)) refl chosen_so (and_left _ _ h)
  where
    chosen_so : or_else other_array (kind_chosen encodings (value_in "Encoding" (attributes_of a))) ≡ Some k
    chosen_so = rw (
      not_both "DataArray" "MetaData" (name_of a) n meta_array,
      not_both "DataArray" "LabelTable" (name_of a) n table_array,
      n,
    ) at q

    coded_so : (v : Word) → value_in "Encoding" (attributes_of a) ≡ Some v → is_coded a ≡ is "Base64Binary" v
    coded_so v p = ap (λ o. is "Base64Binary" (or_empty o)) p

    pick : (v : Word) → value_in "Encoding" (attributes_of a) ≡ Some v → (b c : Bool) → is "ASCII" v ≡ b → is "Base64Binary" v ≡ c
        → or_else other_array (cond b (Some plain_array) (cond c (Some coded_array) None)) ≡ Some k → (b || c) ≡ true → GoodArray a
    pick v p true c x y r t =
        let z : k ≡ plain_array = cc in
        good_plain (subst (λ (i : GiftiKind). Good gifti_rows i a) z g)
        (coded_so v p ∙ not_both "ASCII" "Base64Binary" v x coded_ascii)
    pick v p false true x y r t = let z : k ≡ coded_array = cc in
        good_coded (subst (λ (i : GiftiKind). Good gifti_rows i a) z g) (coded_so v p ∙ y)
    pick v p false false x y r t = absurd (false≢true t)

    go : (o : Option Word) → value_in "Encoding" (attributes_of a) ≡ o → or_else other_array (kind_chosen encodings o) ≡ Some k
        → (is "ASCII" (or_empty o) || is "Base64Binary" (or_empty o)) ≡ true → GoodArray a
    go None p r t = both_ways t (rw (none_read.0, none_read.1) refl)
    go (Some v) p r t = pick v p (is "ASCII" v) (is "Base64Binary" v) refl refl r t

-- ---- The arrays of the root.

arrays_good : (l : List Element) → AllGood gifti_rows root_rows l → all array_read (those (λ d. is "DataArray" (name_of d)) l) ≡ true
    → GoodArrays (those (λ d. is "DataArray" (name_of d)) l)
unfolding those all
arrays_good [] none_left h = no_array_lem
arrays_good (a ∷ l) (one_good g m) h = go (is "DataArray" (name_of a)) refl h (arrays_good l m)
  where
    go : (b : Bool) → is "DataArray" (name_of a) ≡ b
        → all array_read (cond b (a ∷ those (λ d. is "DataArray" (name_of d)) l) (those (λ d. is "DataArray" (name_of d)) l)) ≡ true
        → (all array_read (those (λ d. is "DataArray" (name_of d)) l) ≡ true → GoodArrays (those (λ d. is "DataArray" (name_of d)) l))
        → GoodArrays (cond b (a ∷ those (λ d. is "DataArray" (name_of d)) l) (those (λ d. is "DataArray" (name_of d)) l))
    go true n k on = one_array (good_array a g n (and_left _ _ k)) (on (and_right (array_read a) _ k))
    go false n k on = on k

pub good_arrays : {e : Element} → Good gifti_rows gifti e → array_not_read e ≡ false → GoodArrays (arrays_of e)
unfolding array_not_read arrays_of children
good_arrays {e} g h = arrays_good (elements (contents_of e)) (root_children g) (not-false _ h)
