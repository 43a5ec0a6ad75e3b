-- WAYS TO AN ELEMENT: a way is a list of steps, and a step goes to the n-th, from 0, of the children that pass a test.
-- `reached` says what a way leads to in a document; `WayPlace` says where that stands in a text, by the grammar.
use Rattle.std.specs.Prelude.{◌≡◌, List, [], ◌∷◌, Bool, true, ℕ, zero, suc, length, Option, Some, None}
use Rattle.lists.specs.Lists.{those, count}
use Rattle.grammar.specs.Bytes.{◌⊹◌, ascii, blank, Each, Sequence}
use Rattle.grammar.specs.Document.{Attribute, Element, Contents}
use Rattle.grammar.specs.Grammar.{Name, Attributes, WritesElement, WritesContents, Declaration, Aside, Prologue}
use Rattle.grammar.specs.Look.{contents_of, within_of, elements}

pub data WayStep : Type 0 where
  step : (test : Element → Bool) (n : ℕ) → WayStep

-- ---- In a document.

-- the n-th of a list, from 0
unfoldable pub nth : {A : Type 0} → ℕ → List A → Option A
nth zero [] = None
nth (suc n) [] = None
nth zero (a ∷ l) = Some a
nth (suc n) (a ∷ l) = nth n l

unfoldable pub onward : {A B : Type 0} → (A → Option B) → Option A → Option B
onward f None = None
onward f (Some a) = f a

-- what a way leads to from an element
unfoldable pub reached : List WayStep → Element → Option Element
reached [] e = Some e
reached (step p n ∷ way) e = onward (reached way) (nth n (those p (elements (contents_of e))))

-- ---- In a text.

-- a start tag; and the only tag of an element that has no contents
pub data StartTag : List ℕ → Type 0 where
  start_tag : {n t u : List ℕ} {l : List Attribute} → Name n → Attributes l t → Each blank u → StartTag (ascii "<" ⊹ n ⊹ t ⊹ u ⊹ ascii ">")

pub data OnlyTag : List ℕ → Type 0 where
  only_tag : {n t u : List ℕ} {l : List Attribute} → Name n → Attributes l t → Each blank u → OnlyTag (ascii "<" ⊹ n ⊹ t ⊹ u ⊹ ascii "/>")

-- `w` writes an element; the way leads from it to the element `x`, which `s` writes, and `before` stands before that in `w`:
-- a start tag, contents in which n children pass the test, and then, in the child behind them, which passes, what stands before `x` there
pub data Leads : List WayStep → ℕ → Element → (w before : List ℕ) → Element → (s : List ℕ) → Type 0 where
  here : {d : ℕ} {e : Element} {w : List ℕ} → WritesElement d e w → Leads [] d e w [] e w
  down : {p : Element → Bool} {way : List WayStep} {d : ℕ} {e y x : Element} {tag a v before s : List ℕ} {c : Contents} (rest : List ℕ)
      → WritesElement (suc d) e (tag ⊹ a ⊹ v ⊹ rest) → StartTag tag → WritesContents d c a → p y ≡ true → Leads way d y v before x s
      → Leads (step p (count p (elements c)) ∷ way) (suc d) e (tag ⊹ a ⊹ v ⊹ rest) (tag ⊹ a ⊹ before) x s

-- the tag that an element begins with, and what stands between its tags
pub data Tagged (part : List ℕ) : (tag s : List ℕ) → Type 0 where
  between : {tag : List ℕ} (rest : List ℕ) → StartTag tag → Tagged part tag (tag ⊹ part ⊹ rest)
  nothing_between : {tag : List ℕ} → OnlyTag tag → part ≡ [] → Tagged part tag tag

-- THE PLACE that the way leads to from the root: `part` is what stands between the tags there,
-- and it starts behind the start tag, or the only tag
pub data WayPlace (way : List WayStep) (part : List ℕ) : List ℕ → ℕ → Type 0 where
  place : {p u w v before tag s : List ℕ} {cs : List (List ℕ)} {e x : Element}
      → Declaration p → Prologue u → Leads way 16 e w before x s → Sequence Aside cs v → within_of x ≡ part → Tagged part tag s
      → WayPlace way part (p ⊹ u ⊹ w ⊹ v) (length (p ⊹ u ⊹ before ⊹ tag))

unfoldable pub ways : Unit {0}
unfolding nth onward reached
ways = tt
