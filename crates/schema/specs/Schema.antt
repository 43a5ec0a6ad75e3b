-- A SCHEMA: tables that say what each kind of element holds, and what it is for a document to be as the tables say. Nothing here is
-- CIFTI's.
use Rattle.std.specs.Prelude.{List, [], ◌∷◌, Bool, true, false, ◌&&◌, ◌||◌, cond, ℕ, suc, eqb, leb, length, Option, Some, None}
use Prim.Native.String.{String}
use Rattle.lists.specs.Lists.{all, any, count, is_some, if_there, there}
use Rattle.grammar.specs.Bytes.{blank}
use Rattle.grammar.specs.Document.{Attribute, attribute, Element, element, Contents, nothing, child as inside, run}
use Rattle.grammar.specs.Look.{Word, is, name_of, attributes_of, value_in, elements, characters}

-- ---- The tables.

-- What the value of an attribute must be: anything, a named word, or a number or numbers of a form.
pub data Form : Type 0 where
  any_value : Form
  word : List String → Form
  number : (Word → Bool) → Form

-- An attribute that must be there, and one that may be left out.
pub data AttributeRow : Type 0 where
  required optional : (name : String) → Form → AttributeRow

-- What the text of an element must be: anything, or numbers of a form.
pub data TextForm : Type 0 where
  any_text : TextForm
  numbers : (Word → Bool) → TextForm

-- How often a child stands: 1, 0..1, 0..N, 1..N; or 0..1, and 1 where an element of the name stands anywhere below a child of the same
-- parent.
pub data Times : Type 0 where
  once at_most_once any_times at_least_once : Times
  needed_below : (name : String) → Times

-- Of which kind a child is: always of one; of the kind that the word of an attribute chooses;
-- or of that, and of another where the word chooses none or the attribute is missing.
infix 80 ◌⇒◌
pub data Case (K : Type 0) : Type 0 where
  ◌⇒◌ : String → K → Case K

pub data Which (K : Type 0) : Type 0 where
  always : K → Which K
  chosen : (attribute : String) → List (Case K) → Which K
  chosen_else : (attribute : String) → List (Case K) → K → Which K

pub data ChildRow (K : Type 0) : Type 0 where
  child : (name : String) → Times → Which K → ChildRow K

-- Whether the children come in any order, or in that of the rows.
pub data Order : Type 0 where
  any_order in_order : Order

-- An element without text, which may hold only blanks between its children; an element with text and no children.
pub data Row (K : Type 0) : Type 0 where
  branch : List AttributeRow → Order → List (ChildRow K) → Row K
  leaf : List AttributeRow → TextForm → Row K

-- ---- The kind of a child: the row of its name decides, and there the word of its attribute. It may have none.

module _ {K : Type 0} where
  unfoldable pub kind_among : List (Case K) → Word → Option K
  kind_among [] v = None
  kind_among ((s ⇒ k) ∷ l) v = cond (is s v) (Some k) (kind_among l v)

  unfoldable pub kind_chosen : List (Case K) → Option Word → Option K
  kind_chosen l None = None
  kind_chosen l (Some v) = kind_among l v

  unfoldable pub or_else : K → Option K → Option K
  or_else k None = Some k
  or_else k (Some j) = Some j

  unfoldable pub kind_by : Which K → Element → Option K
  kind_by (always k) e = Some k
  kind_by (chosen a l) e = kind_chosen l (value_in a (attributes_of e))
  kind_by (chosen_else a l k) e = or_else k (kind_chosen l (value_in a (attributes_of e)))

  unfoldable pub kind_of : List (ChildRow K) → Element → Option K
  kind_of [] e = None
  kind_of (child s t w ∷ l) e = cond (is s (name_of e)) (kind_by w e) (kind_of l e)

  unfoldable pub child_rows : Row K → List (ChildRow K)
  child_rows (branch a o l) = l
  child_rows (leaf a t) = []

-- ---- ONE WALK: a test passes at an element of a kind, and at every child that has a kind, all the way down.

module _ {K : Type 0} (rows : K → Row K) (test : Row K → List Attribute → Contents → Bool) where
  unfoldable mutual
    pub everywhere : K → Element → Bool
    everywhere k (element n l c w) = test (rows k) l c && everywhere_in (child_rows (rows k)) c

    pub everywhere_in : List (ChildRow K) → Contents → Bool
    everywhere_in r nothing = true
    everywhere_in r (run w c) = everywhere_in r c
    everywhere_in r (inside e c) = if_there (λ k. everywhere k e) (kind_of r e) && everywhere_in r c

-- ---- FIRST TEST, the shape: attributes, named words, children, and non-blank text only where text may be.

unfoldable pub row_name : AttributeRow → String
row_name (required s f) = s
row_name (optional s f) = s

unfoldable pub is_named : Attribute → AttributeRow → Bool
is_named (attribute n v) r = is (row_name r) n

unfoldable pub is_word : Form → Word → Bool
is_word any_value w = true
is_word (word l) w = any (λ s. is s w) l
is_word (number p) w = true

unfoldable pub attribute_shaped : List Attribute → AttributeRow → Bool
attribute_shaped l (required s f) = there (is_word f) (value_in s l)
attribute_shaped l (optional s f) = if_there (is_word f) (value_in s l)

-- only attributes that are named, and every one that is required
unfoldable pub attributes_shaped : List AttributeRow → List Attribute → Bool
attributes_shaped r l = all (λ a. any (is_named a) r) l && all (attribute_shaped l) r

-- an element of the name stands below, at any depth
unfoldable mutual
  pub below : String → Element → Bool
  below s (element n l c w) = below_in s c

  pub below_in : String → Contents → Bool
  below_in s nothing = false
  below_in s (run w c) = below_in s c
  below_in s (inside e c) = (is s (name_of e) || below s e) || below_in s c

-- n children of the row's name stand among the children l
unfoldable pub stands_so : Times → ℕ → List Element → Bool
stands_so once n l = eqb n 1
stands_so at_most_once n l = leb n 1
stands_so any_times n l = true
stands_so at_least_once n l = leb 1 n
stands_so (needed_below s) n l = cond (any (below s) l) (eqb n 1) (leb n 1)

module _ {K : Type 0} where
  unfoldable pub child_shaped : List Element → ChildRow K → Bool
  child_shaped l (child s t w) = stands_so t (count (λ e. is s (name_of e)) l) l

  -- the place of the element's row
  unfoldable pub row_place : List (ChildRow K) → Element → ℕ
  row_place [] e = 0
  row_place (child s t w ∷ r) e = cond (is s (name_of e)) 0 (suc (row_place r e))

  unfoldable pub in_order_of : List (ChildRow K) → ℕ → List Element → Bool
  in_order_of r n [] = true
  in_order_of r n (e ∷ l) = leb n (row_place r e) && in_order_of r (row_place r e) l

  unfoldable pub orderly : Order → List (ChildRow K) → List Element → Bool
  orderly any_order r l = true
  orderly in_order r l = in_order_of r 0 l

  -- only children that have a kind, each as often as its row says
  unfoldable pub children_shaped : Order → List (ChildRow K) → List Element → Bool
  children_shaped o r l = all (λ e. is_some (kind_of r e)) l && (all (child_shaped l) r && orderly o r l)

  unfoldable pub shaped : Row K → List Attribute → Contents → Bool
  shaped (branch a o r) l c = attributes_shaped a l && (all blank (characters c) && children_shaped o r (elements c))
  shaped (leaf a t) l c = attributes_shaped a l && eqb (length (elements c)) 0

-- ---- SECOND TEST, the numbers: each value and text that is to be a number or numbers.

unfoldable pub is_number : Form → Word → Bool
is_number any_value w = true
is_number (word l) w = true
is_number (number p) w = p w

unfoldable pub is_text : TextForm → Word → Bool
is_text any_text w = true
is_text (numbers p) w = p w

unfoldable pub attribute_numbered : List Attribute → AttributeRow → Bool
attribute_numbered l (required s f) = if_there (is_number f) (value_in s l)
attribute_numbered l (optional s f) = if_there (is_number f) (value_in s l)

module _ {K : Type 0} where
  unfoldable pub numbered : Row K → List Attribute → Contents → Bool
  numbered (branch a o r) l c = all (attribute_numbered l) a
  numbered (leaf a t) l c = all (attribute_numbered l) a && is_text t (characters c)

unfoldable pub schema : Unit {0}
unfolding kind_among kind_chosen or_else kind_by kind_of child_rows everywhere row_name is_named is_word attribute_shaped attributes_shaped below
    stands_so child_shaped row_place in_order_of orderly children_shaped shaped is_number is_text attribute_numbered numbered
schema = tt
