-- Looking into a document: an attribute's value, the children of a name, the text.
use Rattle.std.specs.Prelude.{List, [], ◌∷◌, ◌++◌, Bool, cond, ℕ, Option, Some, None}
use Prim.Native.String.{String}
use Rattle.grammar.specs.Bytes.{ascii, same_bytes}
use Rattle.grammar.specs.Document.{Attribute, attribute, Element, element, Contents, nothing, child, run}
use Rattle.lists.specs.Lists.{those}

-- bytes: a name, a value, a text
abbrev pub Word : Type 0
Word = List ℕ

-- the bytes are this word
unfoldable pub is : String → Word → Bool
is s w = same_bytes w (ascii s)

unfoldable pub name_of : Element → Word
name_of (element n l c k) = n

unfoldable pub attributes_of : Element → List Attribute
attributes_of (element n l c k) = l

unfoldable pub contents_of : Element → Contents
contents_of (element n l c k) = c

-- the bytes between its tags, as they are written
unfoldable pub within_of : Element → Word
within_of (element n l c k) = k

-- the value of the attribute of this name, if there is one
unfoldable pub value_in : String → List Attribute → Option Word
value_in s [] = None
value_in s (attribute n v ∷ l) = cond (is s n) (Some v) (value_in s l)

-- the same, nothing written where there is none
unfoldable pub or_empty : Option Word → Word
or_empty None = []
or_empty (Some v) = v

unfoldable pub attr : String → Element → Word
attr s e = or_empty (value_in s (attributes_of e))

-- the attribute of the first name has the second for its value
unfoldable pub has : String → String → Element → Bool
has s v e = is v (attr s e)

-- the elements directly inside
unfoldable pub elements : Contents → List Element
elements nothing = []
elements (child e c) = e ∷ elements c
elements (run w c) = elements c

-- the characters directly inside
unfoldable pub characters : Contents → Word
characters nothing = []
characters (child e c) = characters c
characters (run w c) = w ++ characters c

-- the element's children of this name, in order; its text
unfoldable pub children : String → Element → List Element
children s e = those (λ d. is s (name_of d)) (elements (contents_of e))

unfoldable pub text_of : Element → Word
text_of e = characters (contents_of e)

unfoldable pub looks : Unit {0}
unfolding same_bytes is name_of attributes_of contents_of within_of value_in or_empty attr has elements characters children text_of
looks = tt
