-- What is proved of Unread.
use Rattle.std.specs.Prelude.{◌≡◌, List, [], ◌∷◌, Bool, cond, ◌||◌, ◌&&◌, ℕ, ◌<◌, Option, Some, None}
use Rattle.std.proofs.Math.Path.{refl, sym, ap}
use Rattle.std.proofs.Common.{◌∙◌, rules}
use Rattle.std.proofs.Math.Bool.{true, false, not}
use Prim.Native.String.{String}
use Rattle.lists.specs.Lists.{any, those}
use Rattle.lists.proofs.Laws.Lists.{any_in}
use Rattle.grammar.specs.Bytes.{ascii}
use Rattle.grammar.specs.Document.{Element}
use Rattle.grammar.specs.Parser.{same_bytes}
use Rattle.grammar.specs.Look.{Word, is, name_of, has, contents_of, elements, children}
use Rattle.nodes.specs.Places.{Stands, the}
use Rattle.nodes.specs.Children.{first_child, next}
use Rattle.nodes.proofs.Laws.Children.{left}
use Rattle.nodes.specs.Names.{named}
use Rattle.nodes.proofs.Laws.Names.{name_is_law}
use Rattle.nodes.specs.Found.{value_at_name}
use Rattle.nodes.proofs.Laws.Found.{has_law, attr_law, value_found, value_missing}
use Rattle.nodes.specs.Values.{value_there}
use Rattle.nodes.specs.Attributes.{place}
use Rattle.nodes.proofs.Laws.Along.{Along, along_start, along_done, along_stands, along_here, along_less, along_next}
use Rattle.cifti.specs.Maps.{map_elements}
use Rattle.cifti.specs.Conditions.{root_wrong, kind_not_read}
use Rattle.schema.specs.Schema.{Case, ◌⇒◌, kind_chosen, kind_among}
use Rattle.cifti.specs.Rows.{ElementKind, cifti, map_kinds}
use Rattle.maps.proofs.Laws.Good.{GoodAs, good_as, AllGood, none_left, one_good}
use Rattle.maps.specs.Good.{Good}
use Rattle.maps.proofs.Laws.Kinds.{is_word_lem, matrix_rows, matrix_children, root_child, has_value, map_word}
use Rattle.lists.proofs.Laws.Booleans.{never_some, or_left, or_right}
use Rattle.maps.specs.Unread.{not_read}

-- ---- Condition 4.

module _ {text : List ℕ} {at : ℕ} (st : Stands text at) {b : Bool} (nm : b ≡ named text at (ascii "CIFTI")) where
  root_name : b ≡ is "CIFTI" (name_of (the text at))
  root_name = nm ∙ name_is_law "CIFTI" st

  pub root_other : b ≡ false → true ≡ root_wrong (the text at)
  unfolding root_wrong
  root_other f = rw (sym root_name ∙ f)

  pub root_version : b ≡ true → {c : Bool} → c ≡ same_bytes (value_at_name text at (ascii "Version")) (ascii "2")
      → not c ≡ root_wrong (the text at)
  unfolding root_wrong
  root_version t p = rw (sym root_name ∙ t) (ap not (p ∙ has_law "Version" "2" st))

pub ruleset rooting = (root_other, root_version, rules)

unfoldable pub any_not_read : Element → Bool
any_not_read e = any not_read (children "MatrixIndicesMap" e)

unfoldable unread_word : List ℕ → Bool
unread_word w = same_bytes w (ascii "CIFTI_INDEX_TYPE_PARCELS")

module _ {text : List ℕ} {at : ℕ} (st : Stands text at) {f : Option ℕ} (e : f ≡ place text at (ascii "IndicesMapToDataType")) where
  not_read_so : not_read (the text at) ≡ unread_word (value_at_name text at (ascii "IndicesMapToDataType"))
  unfolding not_read unread_word has is
  not_read_so = rw (attr_law "IndicesMapToDataType" st)

  pub unread_found : {v : ℕ} → f ≡ Some v → {b : Bool} → b ≡ same_bytes (value_there text v) (ascii "CIFTI_INDEX_TYPE_PARCELS")
      → b ≡ not_read (the text at)
  unfolding unread_word
  unread_found h p = sym (not_read_so ∙ ap unread_word (value_found text at (ascii "IndicesMapToDataType") e h) ∙ sym p)

  pub unread_missing : f ≡ None → false ≡ not_read (the text at)
  unfolding unread_word same_bytes
  unread_missing h = sym (not_read_so ∙ ap unread_word (value_missing text at (ascii "IndicesMapToDataType") e h))

pub ruleset unread_one = (unread_found, unread_missing, rules)

-- ---- Some child of a name passes: a loop over children that is left at the first.

module _ (s : String) (p : Element → Bool) where
  some_one : (e : Element) (l : List Element)
      → any p (those (λ d. is s (name_of d)) (e ∷ l)) ≡ ((is s (name_of e) && p e) || any p (those (λ d. is s (name_of d)) l))
  unfolding any those
  some_one e l = go (is s (name_of e))
    where
      go : (b : Bool) → any p (cond b (e ∷ those (λ d. is s (name_of d)) l) (those (λ d. is s (name_of d)) l))
          ≡ ((b && p e) || any p (those (λ d. is s (name_of d)) l))
      go true = refl
      go false = refl

  -- of those of the list that are ahead, as of all
  pub record Sought (text : List ℕ) (at : ℕ) (l : List Element) : Type 0 where
    pub so_far : any p (children s (the text at)) ≡ any p (those (λ e. is s (name_of e)) l)

  abbrev pub Seeking : List ℕ → ℕ → Option ℕ → Type 0
  Seeking text at kid = Along text (Sought text at) kid

  pub seek_start : {text : List ℕ} {at : ℕ} → Stands text at → {kid : Option ℕ} → kid ≡ first_child text at → Seeking text at kid
  unfolding children
  seek_start st e = along_start st (record { so_far = refl }) e

  module _ {text : List ℕ} {at : ℕ} {kid : Option ℕ} (go : Seeking text at kid) where
    pub seek_done : kid ≡ None → false ≡ any p (children s (the text at))
    unfolding any those
    seek_done e = sym (along_done go e).so_far

    module _ {k : ℕ} (is_child : kid ≡ Some k) where
      pub seek_stands : Stands text k
      seek_stands = along_stands go is_child

      pub seek_less : {kid₁ : Option ℕ} → kid₁ ≡ next text k → left text kid₁ < left text kid
      seek_less = along_less go is_child

      module _ {b : Bool} (nm : b ≡ named text k (ascii s)) where
        split : (l : List Element) → Sought text at (the text k ∷ l)
            → any p (children s (the text at)) ≡ ((b && p (the text k)) || any p (those (λ d. is s (name_of d)) l))
        split l h = rw (nm ∙ name_is_law s seek_stands) (h.so_far ∙ some_one (the text k) l)

        pub seek_other : b ≡ false → {kid₁ : Option ℕ} → kid₁ ≡ next text k → Seeking text at kid₁
        seek_other f = along_next go is_child (λ l h. record { so_far = rw f at (split l h) })

        module _ (t : b ≡ true) {c : Bool} (q : c ≡ p (the text k)) where
          pub seek_found : c ≡ true → true ≡ any p (children s (the text at))
          seek_found r = sym (rw (t, sym q ∙ r) at (split _ (along_here go is_child)))

          pub seek_missed : c ≡ false → {kid₁ : Option ℕ} → kid₁ ≡ next text k → Seeking text at kid₁
          seek_missed r = along_next go is_child (λ l h. record { so_far = rw (t, sym q ∙ r) at (split l h) })

-- all maps, matrix after matrix
not_read_by : (e : Element) → kind_not_read e ≡ any any_not_read (children "Matrix" e)
unfolding kind_not_read map_elements any_not_read not_read
not_read_by e = any_in not_read (children "MatrixIndicesMap") (children "Matrix" e)

-- what the two loops end with
pub matrix_is : (e : Element) {b : Bool} → b ≡ any not_read (children "MatrixIndicesMap" e) → b ≡ any_not_read e
unfolding any_not_read
matrix_is e h = h

pub root_is : (e : Element) {b : Bool} → b ≡ any any_not_read (children "Matrix" e) → b ≡ kind_not_read e
root_is e h = h ∙ sym (not_read_by e)

-- ---- A root that passes 6 and 7 has no such map: no kind is chosen by its word.

unfoldable is_unread : Word → Bool
is_unread w = is "CIFTI_INDEX_TYPE_PARCELS" w

unfoldable case_unread : Case ElementKind → Bool
case_unread (s ⇒ k) = is_unread (ascii s)

none_unread : any case_unread map_kinds ≡ false
unfolding any case_unread is_unread map_kinds is same_bytes
none_unread = refl

chosen_in : (l : List (Case ElementKind)) (v : Word) {k : ElementKind} → kind_among l v ≡ Some k → any case_unread l ≡ false
    → is_unread v ≡ false
unfolding kind_among any case_unread
chosen_in [] v h n = never_some h
chosen_in ((s ⇒ j) ∷ l) v {k} h n = go (is s v) refl h (λ q. chosen_in l v q (or_right (is_unread (ascii s)) _ n))
  where
    go : (b : Bool) → is s v ≡ b → cond b (Some j) (kind_among l v) ≡ Some k → (kind_among l v ≡ Some k → is_unread v ≡ false)
        → is_unread v ≡ false
    go true x q ih = rw (is_word_lem s v x) (or_left _ _ n)
    go false x q ih = ih q

chosen_read : (v : Word) {k : ElementKind} → kind_chosen map_kinds (Some v) ≡ Some k → is "CIFTI_INDEX_TYPE_PARCELS" v ≡ false
unfolding kind_chosen is_unread
chosen_read v h = chosen_in map_kinds v h none_unread

map_read : (e : Element) → GoodAs matrix_rows e → is "MatrixIndicesMap" (name_of e) ≡ true → not_read e ≡ false
unfolding not_read
map_read e (good_as q g) n =
    let w = map_word e q n in
    has_value "IndicesMapToDataType" "CIFTI_INDEX_TYPE_PARCELS" e w.word w.said ∙ chosen_read w.word w.chooses

maps_read : (l : List Element) → AllGood matrix_rows l → any not_read (those (λ e. is "MatrixIndicesMap" (name_of e)) l) ≡ false
unfolding any those
maps_read [] none_left = refl
maps_read (e ∷ l) (one_good h m) = some_one "MatrixIndicesMap" not_read e l ∙ go (is "MatrixIndicesMap" (name_of e)) refl (maps_read l m)
  where
    go : (b : Bool) → is "MatrixIndicesMap" (name_of e) ≡ b → any not_read (those (λ d. is "MatrixIndicesMap" (name_of d)) l) ≡ false
        → ((b && not_read e) || any not_read (those (λ d. is "MatrixIndicesMap" (name_of d)) l)) ≡ false
    go true n ih = rw (map_read e h n, ih)
    go false n ih = ih

pub all_read : {e : Element} → Good cifti e → kind_not_read e ≡ false
unfolding any_not_read children those any
all_read {e} g =
    let only = root_child g in
    not_read_by e ∙ rw (only.alone, only.name, maps_read (elements (contents_of only.one)) (matrix_children only.good))
