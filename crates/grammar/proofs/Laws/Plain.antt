-- AN ELEMENT WITHOUT ITS BYTES: what looks at names, attributes, elements and characters does not see the bytes that each element keeps
-- between its tags.
-- Two elements of one document of the paper (`Erased`) are the same without them.
use Rattle.std.specs.Prelude.{◌≡◌, refl, List, [], ◌∷◌, ◌++◌, Bool, true, false, cond}
use Rattle.std.proofs.Common.{ap, ap₂, sym, ◌∙◌}
use Prim.Native.String.{String}
use Rattle.lists.specs.Lists.{those, each}
use Rattle.grammar.specs.Document.{Element, element, Contents, nothing, child, run}
use Rattle.grammar.specs.Erased
use Rattle.grammar.specs.Erased.{Node, node, Nodes, erased, erased_all}
use Rattle.grammar.specs.Look.{is, name_of, attributes_of, contents_of, within_of, attr, has, elements, characters, children}
use Rattle.grammar.specs.Look.{text_of}

unfoldable mutual
  pub plain : Element → Element
  plain (element n l c k) = element n l (plain_in c) []

  pub plain_in : Contents → Contents
  plain_in nothing = nothing
  plain_in (child e c) = child (plain e) (plain_in c)
  plain_in (run w c) = run w (plain_in c)

-- the paper's document, as an element
unfoldable mutual
  grown : Node → Element
  grown (node n l c) = element n l (grown_in c) []

  grown_in : Nodes → Contents
  grown_in Erased.none = nothing
  grown_in (Erased.inner e c) = child (grown e) (grown_in c)
  grown_in (Erased.characters w c) = run w (grown_in c)

mutual
  unfolding plain grown erased

  plain_grown : (e : Element) → plain e ≡ grown (erased e)
  plain_grown (element n l c k) = ap (λ d. element n l d []) (plain_grown_in c)

  plain_grown_in : (c : Contents) → plain_in c ≡ grown_in (erased_all c)
  plain_grown_in nothing = refl
  plain_grown_in (child e c) = ap₂ (λ x y. child x y) (plain_grown e) (plain_grown_in c)
  plain_grown_in (run w c) = ap (λ d. run w d) (plain_grown_in c)

pub plain_same : (e f : Element) → erased e ≡ erased f → plain e ≡ plain f
plain_same e f h = plain_grown e ∙ ap grown h ∙ sym (plain_grown f)

pub name_erased : (e : Element) → name_of (plain e) ≡ name_of e
unfolding name_of plain
name_erased (element n l c k) = refl

pub attributes_erased : (e : Element) → attributes_of (plain e) ≡ attributes_of e
unfolding attributes_of plain
attributes_erased (element n l c k) = refl

pub contents_erased : (e : Element) → contents_of (plain e) ≡ plain_in (contents_of e)
unfolding contents_of plain
contents_erased (element n l c k) = refl

pub elements_erased : (c : Contents) → elements (plain_in c) ≡ each plain (elements c)
unfolding elements plain each
elements_erased nothing = refl
elements_erased (child e c) = ap (λ l. plain e ∷ l) (elements_erased c)
elements_erased (run w c) = elements_erased c

pub characters_erased : (c : Contents) → characters (plain_in c) ≡ characters c
unfolding characters plain
characters_erased nothing = refl
characters_erased (child e c) = characters_erased c
characters_erased (run w c) = ap (λ l. w ++ l) (characters_erased c)

pub attr_erased : (s : String) (e : Element) → attr s (plain e) ≡ attr s e
unfolding attr
attr_erased s e = rw (attributes_erased e) refl

pub has_erased : (s v : String) (e : Element) → has s v (plain e) ≡ has s v e
unfolding has
has_erased s v e = rw (attr_erased s e) refl

pub text_erased : (e : Element) → text_of (plain e) ≡ text_of e
unfolding text_of
text_erased e = rw (contents_erased e) (characters_erased (contents_of e))

named_erased : (s : String) (l : List Element) → those (λ d. is s (name_of d)) (each plain l) ≡ each plain (those (λ d. is s (name_of d)) l)
unfolding those each
named_erased s [] = refl
named_erased s (e ∷ l) = rw (name_erased e) (go (is s (name_of e)) _ _ (named_erased s l))
  where
    go : (b : Bool) (k m : List Element) → k ≡ each plain m → cond b (plain e ∷ k) k ≡ each plain (cond b (e ∷ m) m)
    go true k m h = ap (λ k. plain e ∷ k) h
    go false k m h = h

pub children_erased : (s : String) (e : Element) → children s (plain e) ≡ each plain (children s e)
unfolding children
children_erased s e = rw (contents_erased e, elements_erased (contents_of e)) (named_erased s (elements (contents_of e)))

unfoldable pub erasing : Unit {0}
unfolding plain within_of
erasing = tt
