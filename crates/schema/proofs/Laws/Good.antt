-- A DOCUMENT THAT PASSES BOTH TESTS OF THE WALK, going down: what each element of a kind is then known to hold.
use Rattle.std.specs.Prelude.{◌≡◌, Bool, ◌&&◌, cond, ℕ, ◌+◌, ◌<◌, length, get_or, Option, Some, None}
use Rattle.std.proofs.Math.Path.{refl}
use Rattle.std.proofs.Common.{sym, ◌∙◌, arith}
use mathlib.Core.List.{List, [], ◌∷◌}
use Rattle.std.proofs.Math.Bool.{true, false}
use Rattle.std.proofs.lemmas.Bool.{false≢true}
use Prim.Native.String.{String}
use Rattle.lists.specs.Lists.{all, any, those, count, is_some, if_there, there}
use Rattle.lists.proofs.Laws.Quantifiers.{all_iff}
use Rattle.lists.proofs.Laws.Booleans.{and_left, and_right}
use Rattle.grammar.specs.Bytes.{ascii, blank}
use Rattle.grammar.specs.Document.{Attribute, Element}
use Rattle.grammar.specs.Look.{Word, is, name_of, attributes_of, contents_of, value_in, or_empty, attr, elements, characters, text_of}
use Rattle.grammar.proofs.Laws.Tokens.{same_equal}
use Rattle.schema.specs.Schema.{any_value, word, number, AttributeRow, required, optional, numbers, ChildRow, Row, branch, leaf, Order}
use Rattle.schema.specs.Schema.{kind_of, child_rows, everywhere, is_text}
use Rattle.schema.specs.Schema.{shaped, numbered, attributes_shaped, attribute_shaped, attribute_numbered, is_word, is_number}
use Rattle.schema.specs.Schema.{children_shaped, child_shaped}
use Rattle.schema.specs.Walk.{at_child}
use Rattle.schema.proofs.Laws.WalkStep.{walk_step}
use Rattle.schema.specs.Good.{Good, One}

-- a child that its parent's rows know, good as what they take it for
pub data GoodAs {K : Type 0} (rows : K → Row K) (r : List (ChildRow K)) (e : Element) : Type 0 where
  good_as : {k : K} → kind_of r e ≡ Some k → Good rows k e → GoodAs rows r e

pub data AllGood {K : Type 0} (rows : K → Row K) (r : List (ChildRow K)) : List Element → Type 0 where
  none_left : AllGood rows r []
  one_good : {e : Element} {l : List Element} → GoodAs rows r e → AllGood rows r l → AllGood rows r (e ∷ l)

module _ {K : Type 0} {rows : K → Row K} where
  pub good_head : {r : List (ChildRow K)} {e : Element} {l : List Element} → AllGood rows r (e ∷ l) → GoodAs rows r e
  good_head (one_good g h) = g

  pub good_tail : {r : List (ChildRow K)} {e : Element} {l : List Element} → AllGood rows r (e ∷ l) → AllGood rows r l
  good_tail (one_good g h) = h

  module _ {k : K} {e : Element} (g : Good rows k e) where
    pub shape_here : shaped (rows k) (attributes_of e) (contents_of e) ≡ true
    shape_here = and_left _ _ (sym (walk_step rows shaped k e) ∙ g.shape)

    pub number_here : numbered (rows k) (attributes_of e) (contents_of e) ≡ true
    number_here = and_left _ _ (sym (walk_step rows numbered k e) ∙ g.number)

    shape_below : all (at_child rows shaped (child_rows (rows k))) (elements (contents_of e)) ≡ true
    shape_below = and_right (shaped (rows k) (attributes_of e) (contents_of e)) _ (sym (walk_step rows shaped k e) ∙ g.shape)

    number_below : all (at_child rows numbered (child_rows (rows k))) (elements (contents_of e)) ≡ true
    number_below = and_right (numbered (rows k) (attributes_of e) (contents_of e)) _ (sym (walk_step rows numbered k e) ∙ g.number)

  good_one : (r : List (ChildRow K)) (e : Element) → is_some (kind_of r e) ≡ true → at_child rows shaped r e ≡ true
      → at_child rows numbered r e ≡ true → GoodAs rows r e
  unfolding at_child is_some if_there
  good_one r e h s n = go (kind_of r e) refl h s n
    where
      go : (o : Option K) → kind_of r e ≡ o → is_some o ≡ true → if_there (λ k. everywhere rows shaped k e) o ≡ true
          → if_there (λ k. everywhere rows numbered k e) o ≡ true → GoodAs rows r e
      go None q a b c = absurd (false≢true a)
      go (Some k) q a b c = good_as q (record { shape = b; number = c })

  all_good_lem : (r : List (ChildRow K)) (l : List Element) → all (λ e. is_some (kind_of r e)) l ≡ true
      → all (at_child rows shaped r) l ≡ true → all (at_child rows numbered r) l ≡ true → AllGood rows r l
  unfolding all
  all_good_lem r [] h s n = none_left
  all_good_lem r (e ∷ l) h s n =
      one_good (good_one r e (and_left _ _ h) (and_left _ _ s) (and_left _ _ n))
      (all_good_lem r l (and_right (is_some (kind_of r e)) _ h) (and_right (at_child rows shaped r e) _ s)
      (and_right (at_child rows numbered r e) _ n))

  -- ---- A branch: what its attributes and children are known to be.

  module _ {k : K} {e : Element} (g : Good rows k e) (a : List AttributeRow) (o : Order) (r : List (ChildRow K))
      (is-branch : rows k ≡ branch a o r) where
    branch_shape : (attributes_shaped a (attributes_of e)
        && (all blank (characters (contents_of e)) && children_shaped o r (elements (contents_of e)))) ≡ true
    unfolding shaped
    branch_shape = rw is-branch at (shape_here g)

    branch_children : children_shaped o r (elements (contents_of e)) ≡ true
    branch_children = and_right (all blank (characters (contents_of e))) _ (and_right (attributes_shaped a (attributes_of e)) _ branch_shape)

    -- every child is known, and good as what it is
    pub good_children : AllGood rows r (elements (contents_of e))
    unfolding children_shaped child_rows
    good_children =
        all_good_lem r (elements (contents_of e)) (and_left _ _ branch_children) (rw is-branch at (shape_below g))
        (rw is-branch at (number_below g))

    -- each child row is met as often as it says
    pub row_met : all (child_shaped (elements (contents_of e))) r ≡ true
    unfolding children_shaped
    row_met = and_left _ _ (and_right (all (λ d. is_some (kind_of r d)) (elements (contents_of e))) _ branch_children)

    pub attributes_shape : all (attribute_shaped (attributes_of e)) a ≡ true
    unfolding attributes_shaped
    attributes_shape = and_right (all _ (attributes_of e)) _ (and_left _ _ branch_shape)

    pub attributes_number : all (attribute_numbered (attributes_of e)) a ≡ true
    unfolding numbered
    attributes_number = rw is-branch at (number_here g)

-- a required attribute that is to be a number is one
pub required_number : (l : List Attribute) (s : String) (p : Word → Bool) → attribute_shaped l (required s (number p)) ≡ true
    → attribute_numbered l (required s (number p)) ≡ true → p (or_empty (value_in s l)) ≡ true
unfolding attribute_shaped attribute_numbered is_word is_number there if_there or_empty
required_number l s p h n = go (value_in s l) h n
  where
    go : (o : Option Word) → there (λ w. true) o ≡ true → if_there p o ≡ true → p (or_empty o) ≡ true
    go None a b = absurd (false≢true a)
    go (Some v) a b = b

pub required_word : (l : List Attribute) (s : String) (ws : List String) → attribute_shaped l (required s (word ws)) ≡ true
    → any (λ x. is x (or_empty (value_in s l))) ws ≡ true
unfolding attribute_shaped is_word there or_empty
required_word l s ws h = go (value_in s l) h
  where
    go : (o : Option Word) → there (λ w. any (λ x. is x w) ws) o ≡ true → any (λ x. is x (or_empty o)) ws ≡ true
    go None a = absurd (false≢true a)
    go (Some v) a = a

-- ---- A row's attributes by place: what is known of the i-th.

abbrev pub no_row : AttributeRow
no_row = optional "" any_value

module _ {K : Type 0} {rows : K → Row K} {k : K} {e : Element} (g : Good rows k e) where
  module _ (a : List AttributeRow) (o : Order) (r : List (ChildRow K)) (is-branch : rows k ≡ branch a o r) (i : ℕ)
      (here : i < length a) where
    shape_at : attribute_shaped (attributes_of e) (get_or a i no_row) ≡ true
    shape_at = (all_iff no_row (attribute_shaped (attributes_of e)) a).0 (attributes_shape g a o r is-branch) i here

    number_at : attribute_numbered (attributes_of e) (get_or a i no_row) ≡ true
    number_at = (all_iff no_row (attribute_numbered (attributes_of e)) a).0 (attributes_number g a o r is-branch) i here

    pub in_form_lem : (s : String) (p : Word → Bool) → get_or a i no_row ≡ required s (number p) → p (attr s e) ≡ true
    unfolding attr
    in_form_lem s p q = required_number (attributes_of e) s p (rw q at shape_at) (rw q at number_at)

    pub in_words : (s : String) (ws : List String) → get_or a i no_row ≡ required s (word ws) → any (λ x. is x (attr s e)) ws ≡ true
    unfolding attr
    in_words s ws q = required_word (attributes_of e) s ws (rw q at shape_at)

  -- ---- A leaf: its text.

  pub text_in_form : (a : List AttributeRow) (p : Word → Bool) → rows k ≡ leaf a (numbers p) → p (text_of e) ≡ true
  unfolding numbered is_text text_of
  text_in_form a p is_IsLeaf = and_right (all (attribute_numbered (attributes_of e)) a) (p (text_of e)) (rw is_IsLeaf at (number_here g))

-- ---- Words.

pub is_word_lem : (s : String) (w : Word) → is s w ≡ true → w ≡ ascii s
unfolding is
is_word_lem s w h = same_equal w (ascii s) h

-- a word is not two
pub not_both : (s t : String) (w : Word) → is s w ≡ true → is t (ascii s) ≡ false → is t w ≡ false
not_both s t w h n = rw (is_word_lem s w h) n

-- ---- Children of one name, each good.

pub count_those : {A : Type 0} (p : A → Bool) (l : List A) → count p l ≡ length (those p l)
unfolding count those
count_those p [] = refl
count_those p (e ∷ l) = go (p e) (count_those p l)
  where
    go : (b : Bool) → count p l ≡ length (those p l) → cond b 1 0 + count p l ≡ length (cond b (e ∷ those p l) (those p l))
    go true h = omega arith
    go false h = omega arith

pub single : {A : Type 0} (l : List A) → length l ≡ 1 → (x : A) × (l ≡ x ∷ [])
single [] h = absurd (omega arith)
single (a ∷ []) h = (a, refl)
single (a ∷ b ∷ l) h = absurd (omega arith)

pub data EachGood {K : Type 0} (rows : K → Row K) (k : K) : List Element → Type 0 where
  no_good : EachGood rows k []
  also_good : {e : Element} {l : List Element} → Good rows k e → EachGood rows k l → EachGood rows k (e ∷ l)

module _ {K : Type 0} {rows : K → Row K} (s : String) (k : K) (r : List (ChildRow K))
    (known : (e : Element) → GoodAs rows r e → is s (name_of e) ≡ true → Good rows k e) where
  pub those_good : (l : List Element) → AllGood rows r l → EachGood rows k (those (λ d. is s (name_of d)) l)
  unfolding those
  those_good [] none_left = no_good
  those_good (e ∷ l) (one_good g m) = go (is s (name_of e)) refl (those_good l m)
    where
      go : (b : Bool) → is s (name_of e) ≡ b → EachGood rows k (those (λ d. is s (name_of d)) l)
          → EachGood rows k (cond b (e ∷ those (λ d. is s (name_of d)) l) (those (λ d. is s (name_of d)) l))
      go true p h = also_good (known e g p) h
      go false p h = h

  -- where one of the name stands, it is good
  pub one_good_of : (l : List Element) → AllGood rows r l → count (λ d. is s (name_of d)) l ≡ 1 → One rows k (those (λ d. is s (name_of d)) l)
  one_good_of l h n = go (those_good l h) (sym (count_those (λ d. is s (name_of d)) l) ∙ n)
    where
      go : {m : List Element} → EachGood rows k m → length m ≡ 1 → One rows k m
      go no_good q = absurd (omega arith)
      go (also_good {e} g no_good) q = record { one = e; alone = refl; good = g }
      go (also_good g (also_good h m)) q = absurd (omega arith)
