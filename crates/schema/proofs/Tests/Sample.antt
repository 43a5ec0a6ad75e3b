-- A SAMPLE: a table that is not CIFTI's, its rows, and texts that are as they say or are not. It has an attribute that may be left out,
-- children in order, a kind chosen by a word or else another, and a child that is needed where a name stands below.
use Rattle.std.specs.Prelude.{◌≡◌, refl, List, [], ◌∷◌, ℕ, Option, Some, None}
use Prim.Native.String.{String}
use Rattle.lists.specs.Lists.{lists}
use Rattle.grammar.specs.Bytes.{ascii}
use Rattle.grammar.specs.Document.{Element}
use Rattle.grammar.specs.Parser.{parse, computing}
use Rattle.grammar.specs.Look.{looks}
use Rattle.numbers.specs.Numbers as N
use Rattle.numbers.specs.Numbers.{whole}
use Rattle.schema.specs.Words.{number_in}
use Rattle.schema.specs.Schema.{schema, any_value, word, number, required, optional, any_text, at_most_once, any_times, at_least_once}
use Rattle.schema.specs.Schema.{needed_below}
use Rattle.schema.specs.Schema.{◌⇒◌, always, chosen_else, child, any_order, in_order, branch, leaf}
use Rattle.schema.specs.Letters.{lettering}
use Rattle.schema.specs.Table.{table_words, rows_of, form_at, words_at}
use Rattle.schema.specs.Faults.{fault, fault_of}

unfoldable table : List ℕ
table =
    8 ∷ 32 ∷ 47 ∷ 67 ∷ 71 ∷ 73 ∷ 83 ∷ 7  -- where each part begins; the watched word
    ∷ 0 ∷ 2 ∷ 0 ∷ 3 ∷ 0 ∷ 1  -- kind 0: a book, its children in order
    ∷ 0 ∷ 0 ∷ 0 ∷ 0 ∷ 1 ∷ 0  -- 1: text
    ∷ 2 ∷ 3 ∷ 3 ∷ 5 ∷ 0 ∷ 0  -- 2: a part in prose
    ∷ 3 ∷ 5 ∷ 5 ∷ 5 ∷ 0 ∷ 0  -- 3: a part that is a picture
    ∷ 0 ∷ 0 ∷ 0 ∷ 1 ∷ 1 ∷ 1 ∷ 2 ∷ 0 ∷ 1 ∷ 2 ∷ 0 ∷ 0 ∷ 3 ∷ 2 ∷ 0  -- attributes
    ∷ 4 ∷ 1 ∷ 0 ∷ 1 ∷ 5 ∷ 3 ∷ 1 ∷ 0 ∷ 6 ∷ 4 ∷ 0 ∷ 1 ∷ 7 ∷ 2 ∷ 0 ∷ 1 ∷ 5 ∷ 2 ∷ 0 ∷ 2  -- children
    ∷ 2 ∷ 0 ∷ 1 ∷ 3  -- a choice: a picture, or else prose
    ∷ 8 ∷ 3  -- its case
    ∷ 0 ∷ 5 ∷ 9 ∷ 13 ∷ 18 ∷ 25 ∷ 29 ∷ 34 ∷ 39 ∷ 46  -- words
    ∷ 0 ∷ 0 ∷ 0 ∷ 0 ∷ 3 ∷ 1 ∷ 9999 ∷ 0 ∷ 3 ∷ 1 ∷ 99 ∷ 0  -- forms
    ∷ 1 ∷ 6 ∷ 8 ∷ 6 ∷ 1 ∷ 6 ∷ 8 ∷ 0  -- words behind `part`, and the same without it
    ∷ []

unfoldable letters : List ℕ
letters = ascii "titleyearkindwidthprefacepartindexentrypicture"

unfoldable sampling : Unit {0}
unfolding computing lists looks N.numbers schema lettering table_words fault fault_of table letters
sampling = tt

-- ---- The rows.

book : rows_of table letters 0
    ≡ branch (required "title" any_value ∷ optional "year" (number (whole 1 9999)) ∷ []) in_order
    (child "preface" at_most_once (always 1)
    ∷ child "part" at_least_once (chosen_else "kind" ("picture" ⇒ 3 ∷ []) 2)
    ∷ child "index" (needed_below "entry") (always 1)
    ∷ [])
unfolding sampling
book = refl

text : rows_of table letters 1 ≡ leaf [] any_text
unfolding sampling
text = refl

prose : rows_of table letters 2
    ≡ branch (optional "kind" any_value ∷ []) any_order (child "entry" any_times (always 1) ∷ child "part" any_times (always 2) ∷ [])
unfolding sampling
prose = refl

picture : rows_of table letters 3 ≡ branch (required "kind" any_value ∷ required "width" (number (whole 1 99)) ∷ []) any_order []
unfolding sampling
picture = refl

-- ---- Words, with their front part and without.

fronted : form_at table letters 3 ≡ word ("partindex" ∷ "partentry" ∷ [])
unfolding sampling
fronted = refl

bare : form_at table letters 4 ≡ word ("index" ∷ "entry" ∷ [])
unfolding sampling
bare = refl

-- the number of a word; that of a rest alone, of the front part alone and of what goes on behind a word is their number
fronted_number : number_in (words_at table letters 3) (ascii "partentry") ≡ 1
unfolding sampling number_in
fronted_number = refl

rest_alone : number_in (words_at table letters 3) (ascii "entry") ≡ 2
unfolding sampling number_in
rest_alone = refl

front_alone : number_in (words_at table letters 3) (ascii "part") ≡ 2
unfolding sampling number_in
front_alone = refl

goes_on : number_in (words_at table letters 3) (ascii "partindexed") ≡ 2
unfolding sampling number_in
goes_on = refl

-- ---- Texts, and their faults; 3 where a text is no document.

unfoldable verdict_of : Option Element → ℕ
verdict_of None = 3
verdict_of (Some e) = fault_of table letters 0 e

unfoldable verdict : String → ℕ
verdict s = verdict_of (parse (ascii s))

-- an attribute may be left out, and is of its form where it stands; one that must be there must
left_out : verdict "<book title='a'><part/></book>" ≡ 0
unfolding sampling verdict_of verdict
left_out = refl

given : verdict "<book title='a' year='1999'><part/></book>" ≡ 0
unfolding sampling verdict_of verdict
given = refl

out_of_form : verdict "<book title='a' year='0'><part/></book>" ≡ 7
unfolding sampling verdict_of verdict
out_of_form = refl

missing : verdict "<book year='1999'><part/></book>" ≡ 6
unfolding sampling verdict_of verdict
missing = refl

-- children come in order, and in any order where the kind says so
in_order_lem : verdict "<book title='a'><preface>x</preface><part/><part/><index/></book>" ≡ 0
unfolding sampling verdict_of verdict
in_order_lem = refl

out_of_order : verdict "<book title='a'><part/><preface>x</preface></book>" ≡ 6
unfolding sampling verdict_of verdict
out_of_order = refl

any_order_lem : verdict "<book title='a'><part><part/><entry/><part/></part><index/></book>" ≡ 0
unfolding sampling verdict_of verdict
any_order_lem = refl

-- a word chooses the kind, or else it is another: also where there is no word
by_word : verdict "<book title='a'><part kind='picture' width='5'/></book>" ≡ 0
unfolding sampling verdict_of verdict
by_word = refl

by_word_alone : verdict "<book title='a'><part kind='picture'/></book>" ≡ 6
unfolding sampling verdict_of verdict
by_word_alone = refl

by_word_number : verdict "<book title='a'><part kind='picture' width='100'/></book>" ≡ 7
unfolding sampling verdict_of verdict
by_word_number = refl

or_else_lem : verdict "<book title='a'><part kind='song'/></book>" ≡ 0
unfolding sampling verdict_of verdict
or_else_lem = refl

or_else_only : verdict "<book title='a'><part width='5'/></book>" ≡ 6
unfolding sampling verdict_of verdict
or_else_only = refl

-- an index is needed where an entry stands below a part, at any depth
needed : verdict "<book title='a'><part><entry/></part></book>" ≡ 6
unfolding sampling verdict_of verdict
needed = refl

needed_deep : verdict "<book title='a'><part><part><entry/></part></part></book>" ≡ 6
unfolding sampling verdict_of verdict
needed_deep = refl

needed_there : verdict "<book title='a'><part><part><entry/></part></part><index/></book>" ≡ 0
unfolding sampling verdict_of verdict
needed_there = refl

needed_twice : verdict "<book title='a'><part/><index/><index/></book>" ≡ 6
unfolding sampling verdict_of verdict
needed_twice = refl
