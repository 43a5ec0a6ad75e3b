-- THE KIND OF A MAP, and its row: the words that name kinds are the words that choose rows, each beside its kind's. What holds of every
-- kind is computed over the table of words.
use Rattle.std.specs.Prelude.{◌≡◌, Bool, ◌||◌, ℕ, min, length, replicate, Option, Some, None}
use Rattle.std.proofs.Math.Path.{refl, ap}
use Rattle.std.proofs.Common.{sym, ◌∙◌, true≢false, arith, rules}
use mathlib.Core.List.{List, [], ◌∷◌}
use Rattle.std.proofs.Math.Bool.{true, false, cond}
use Prim.Native.String.{String}
use Rattle.lists.specs.Lists.{each, those}
use Rattle.lists.proofs.Laws.Booleans.{never_some, clash, or_left, or_right}
use Rattle.grammar.specs.Bytes.{ascii}
use Rattle.grammar.specs.Document.{Element}
use Rattle.grammar.specs.Look.{Word, is, name_of, attributes_of, contents_of, value_in, or_empty, attr, elements, children}
use Rattle.grammar.specs.Parser.{same_bytes}
use Rattle.nodes.specs.Places.{Stands, the}
use Rattle.nodes.specs.Attributes.{place}
use Rattle.nodes.specs.Values.{value_there}
use Rattle.numbers.specs.Numbers.{dimension_list}
use Rattle.schema.specs.Schema.{AttributeRow, required, number, Row, branch, leaf, ChildRow, child, Case, ◌⇒◌, kind_of, kind_chosen}
use Rattle.schema.specs.Schema.{kind_among}
use Rattle.cifti.specs.Words.{number_in}
use Rattle.cifti.specs.Rows.{ElementKind, brain_models, series, map_kinds, map_attributes, rows}
use Rattle.cifti.specs.Maps.{kind_words, kind_by_word, case_kind, words_of_kinds, all_kinds, kind_place, same_kind, row_for, kind_of_map, is_brain}
use Rattle.cifti.specs.Maps.{is_series}
use Rattle.cifti.proofs.Laws.Kinds.{kind_named, no_word}
use Rattle.cifti.specs.declared.answer.Kind.{Kind}
use Rattle.cifti.specs.declared.answer.Kind.TheVariants.{None as NoKind, Brain, Series}
use Rattle.maps.proofs.Laws.Good.{GoodAs, good_as, AllGood, none_left, one_good, good_children}
use Rattle.maps.specs.Good.{Good}
use Rattle.maps.proofs.Laws.Kinds.{is_word_lem, matrix_rows, map_word, no_row, in_form_lem}
use Rattle.maps.proofs.Laws.Fields.{word_at, found_value, found_none}
use Rattle.maps.specs.MapKind.{Among, further, here, RowOf, GoodMap}

unfoldable rowed : Case Kind → Case ElementKind
rowed (s ⇒ k) = s ⇒ row_for k

-- one computed test over the two tables of words
same_words : map_kinds ≡ each rowed kind_words
unfolding map_kinds kind_words each rowed row_for
same_words = refl

-- what a computed equation says of all kinds holds of each
pub of_all : {A : Type 0} (f : Kind → A) (a : A) (l : List Kind) {k : Kind} → each f l ≡ replicate (length l) a → Among k l → f k ≡ a
unfolding each
of_all {A = A} f a [] {k = k} h x'' = elim x'' [ ]
of_all f a (j ∷ l) h here = cc
of_all f a (j ∷ l) h (further m) = of_all f a l (cc) m

row_chosen : (l : List (Case Kind)) (v : Word) (r : ElementKind) → kind_among (each rowed l) v ≡ Some r → RowOf l (kind_by_word l v) r
unfolding kind_among each rowed case_kind kind_by_word
row_chosen [] v r h = never_some h
row_chosen ((s ⇒ k) ∷ l) v r h = go (is s v) h (row_chosen l v r)
  where
    go : (b : Bool) → cond b (Some (row_for k)) (kind_among (each rowed l) v) ≡ Some r
        → (kind_among (each rowed l) v ≡ Some r → RowOf l (kind_by_word l v) r)
        → RowOf ((s ⇒ k) ∷ l) (cond b k (kind_by_word l v)) r
    go true q ih = record { row = cc; known = here }
    go false q ih = let o = ih q in record { row = o.row; known = further o.known }

-- every kind of map lists its dimensions
unfoldable first_of : Row ElementKind → AttributeRow
first_of (branch [] o r) = no_row
first_of (branch (a ∷ l) o r) = a
first_of (leaf a t) = no_row

all_list : each (λ k. first_of (rows (row_for k))) all_kinds
    ≡ replicate (length all_kinds) (required "AppliesToMatrixDimension" (number dimension_list))
unfolding all_kinds kind_words case_kind each row_for rows map_attributes first_of
all_list = refl

lists_first : {k : ElementKind} {e : Element} → Good k e → first_of (rows k) ≡ required "AppliesToMatrixDimension" (number dimension_list)
    → dimension_list (attr "AppliesToMatrixDimension" e) ≡ true
unfolding first_of
lists_first {k} {e} g h = go (rows k) refl h
  where
    go : (r : Row ElementKind) → rows k ≡ r → first_of r ≡ required "AppliesToMatrixDimension" (number dimension_list)
        → dimension_list (attr "AppliesToMatrixDimension" e) ≡ true
    go (branch [] o r) q f = clash (cc)
    go (branch (a ∷ l) o r) q f = in_form_lem g (a ∷ l) o r q 0 (omega arith) "AppliesToMatrixDimension" dimension_list f
    go (leaf a t) q f = clash (cc)

kind_by_lem : (e : Element) (v : Word) → value_in "IndicesMapToDataType" (attributes_of e) ≡ Some v → kind_of_map e ≡ kind_by_word kind_words v
unfolding kind_of_map attr or_empty
kind_by_lem e v p = rw p refl

pub good_map : (e : Element) → GoodAs matrix_rows e → is "MatrixIndicesMap" (name_of e) ≡ true → GoodMap e
unfolding kind_chosen all_kinds
good_map e (good_as {k} q g) n =
    let w = map_word e q n in
    let c : kind_among (each rowed kind_words) w.word ≡ Some k = ap (λ l. kind_among l w.word) (sym same_words) ∙ w.chooses in
    let o = row_chosen kind_words w.word k c in
    record { good = rw (kind_by_lem e w.word w.said, o.row) g; known = rw (kind_by_lem e w.word w.said) o.known }

pub map_dimensions : {e : Element} → GoodMap e → dimension_list (attr "AppliesToMatrixDimension" e) ≡ true
map_dimensions {e} g = lists_first g.good (of_all (λ k. first_of (rows (row_for k))) _ all_kinds all_list g.known)

module _ {e : Element} (g : GoodMap e) where
  good_at : {k : Kind} → kind_of_map e ≡ k → Good (row_for k) e
  good_at h = rw (← h) g.good

  pub good_brain : kind_of_map e ≡ Brain → Good brain_models e
  unfolding row_for
  good_brain h = good_at h

  pub good_series : kind_of_map e ≡ Series → Good series e
  unfolding row_for
  good_series h = good_at h

-- ---- Children that the row does not name: there are none.

unfoldable pub rows_name : String → List (ChildRow ElementKind) → Bool
rows_name s [] = false
rows_name s (child t n w ∷ r) = is t (ascii s) || rows_name s r

module _ (s : String) where
  unknown : (r : List (ChildRow ElementKind)) (e : Element) → rows_name s r ≡ false → is s (name_of e) ≡ true → kind_of r e ≡ None
  unfolding rows_name kind_of
  unknown [] e h q = refl
  unknown (child t n w ∷ r) e h q =
      let z : is t (name_of e) ≡ false = rw (is_word_lem s (name_of e) q) (or_left _ _ h) in
      rw z (unknown r e (or_right (is t (ascii s)) _ h) q)

  pub absent : (r : List (ChildRow ElementKind)) (l : List Element) → rows_name s r ≡ false → AllGood r l
      → those (λ e. is s (name_of e)) l ≡ []
  unfolding those
  absent r [] h none_left = refl
  absent r (e ∷ l) h (one_good (good_as {k} q g) m) = go (is s (name_of e)) refl (absent r l h m)
    where
      go : (b : Bool) → is s (name_of e) ≡ b → those (λ d. is s (name_of d)) l ≡ []
          → cond b (e ∷ those (λ d. is s (name_of d)) l) (those (λ d. is s (name_of d)) l) ≡ []
      go true p ih = never_some (sym (unknown r e h p) ∙ q)
      go false p ih = ih

-- whether the row names such a child
unfoldable pub names_child : String → Row ElementKind → Bool
names_child s (branch a o r) = rows_name s r
names_child s (leaf a t) = true

pub childless : (s : String) {k : ElementKind} {e : Element} → Good k e → names_child s (rows k) ≡ false → children s e ≡ []
unfolding names_child children
childless s {k} {e} g h = go (rows k) refl h
  where
    go : (r : Row ElementKind) → rows k ≡ r → names_child s r ≡ false → those (λ d. is s (name_of d)) (elements (contents_of e)) ≡ []
    go (branch a o r) q f = absent s r (elements (contents_of e)) f (good_children g a o r q)
    go (leaf a t) q f = absurd (true≢false f)

all_without : each (λ k. cond (is_brain k) false (names_child "BrainModel" (rows (row_for k)))) all_kinds ≡ replicate (length all_kinds) false
unfolding all_kinds kind_words case_kind each row_for rows map_attributes names_child rows_name is same_bytes
all_without = refl

-- only a brain map has models
pub no_models_lem : {e : Element} → GoodMap e → is_brain (kind_of_map e) ≡ false → children "BrainModel" e ≡ []
no_models_lem {e} g b =
    let h = of_all (λ k. cond (is_brain k) false (names_child "BrainModel" (rows (row_for k)))) false all_kinds all_without g.known in
    childless "BrainModel" g.good (rw b at h)

pub brain_kind : (k : Kind) → is_brain k ≡ true → k ≡ Brain
brain_kind k h = same_kind k Brain h

pub series_kind : (k : Kind) → is_series k ≡ true → k ≡ Series
series_kind k h = same_kind k Series h

-- ---- As its attribute tells it.

module _ {text : List ℕ} {at : ℕ} (st : Stands text at) {f : Option ℕ} (e : f ≡ place text at (ascii "IndicesMapToDataType")) where
  pub kind_there : {v p : ℕ} {r : Kind} → f ≡ Some v → p ≡ number_in words_of_kinds (value_there text v)
      → kind_place r ≡ min p (kind_place NoKind) → r ≡ kind_of_map (the text at)
  unfolding kind_of_map
  kind_there {v} h q z = kind_named _ q z
      ∙ ap (kind_by_word kind_words) (found_value (ascii "IndicesMapToDataType") st e h ∙ word_at "IndicesMapToDataType" (the text at))

  pub kind_missing : f ≡ None → NoKind ≡ kind_of_map (the text at)
  unfolding kind_of_map
  kind_missing h = no_word ∙ ap (kind_by_word kind_words)
      (sym (sym (word_at "IndicesMapToDataType" (the text at)) ∙ found_none (ascii "IndicesMapToDataType") st e h))

pub ruleset asking = (kind_there, kind_missing, rules)
