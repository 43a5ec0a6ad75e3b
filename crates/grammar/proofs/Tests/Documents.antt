-- The grammar at work, each line computed: the paper's examples, and what stands round the root.
use Rattle.std.specs.Prelude.{◌≡◌, refl, List, [], ◌∷◌, ◌++◌, ℕ, zero, suc, Bool, true, false, not, Option, Some, None}
use Rattle.lists.specs.Lists.{all}
use Rattle.grammar.specs.Bytes.{ascii}
use Rattle.grammar.specs.Document.{Element}
use Rattle.grammar.specs.Erased.{node, none, characters, document_of, erasing}
use Rattle.grammar.specs.Parser.{parse, computing}

-- some document writes the text
unfoldable pub some_document : Option Element → Bool
some_document None = false
some_document (Some e) = true

unfoldable pub legal : List ℕ → Bool
legal s = some_document (parse s)

unfoldable pub illegal : List ℕ → Bool
illegal s = not (legal s)

-- a text again and again
abbrev pub times : ℕ → List ℕ → List ℕ
times zero w = []
times (suc n) w = w ++ times n w

-- `unfolding cases computing` lets a proof compute the examples
unfoldable pub cases : Unit {0}
unfolding some_document legal illegal all
cases = tt

-- P3: empty text
P3 : document_of [] ≡ None
unfolding erasing computing
P3 = refl

-- P4: no name twice in a tag
P4 : document_of (ascii "<a b=\"1\" b=\"2\"/>") ≡ None
unfolding erasing computing
P4 = refl

-- P5: a reference is decoded once
P5 : document_of (ascii "<a>&amp;lt;</a>") ≡ Some (node (ascii "a") [] (characters (ascii "&lt;") none))
unfolding erasing computing
P5 = refl

-- `<n/>` is the same as no contents
empty_tag : document_of (ascii "<a/>") ≡ document_of (ascii "<a></a>")
unfolding erasing computing
empty_tag = refl

-- the declaration: either quote, blanks round `=`, a blank at least before each part, the encoding or none, blanks before `?>`
declared : all legal (
    ascii "<?xml version=\"1.0\"?><a/>"
    ∷ ascii "<?xml version='1.0'?><a/>"
    ∷ ascii "<?xml version=\"1.0\" encoding='UTF-8'?><a/>"
    ∷ ascii "<?xml\tversion = '1.0'\r\nencoding\n=\"UTF-8\" ?><a/>"
    ∷ []
    ) ≡ true
unfolding cases computing
declared = refl

misdeclared : all illegal (
    ascii "<?xml?><a/>"
    ∷ ascii "<?xmlversion='1.0'?><a/>"
    ∷ ascii "<?xml version='1.1'?><a/>"
    ∷ ascii "<?xml version='1.0\"?><a/>"
    ∷ ascii "<?xml version='1.0'encoding='UTF-8'?><a/>"
    ∷ ascii "<?xml encoding='UTF-8'?><a/>"
    ∷ ascii "<?xml encoding='UTF-8' version='1.0'?><a/>"
    ∷ ascii "<?xml version='1.0' standalone='yes'?><a/>"
    ∷ []
    ) ≡ true
unfolding cases computing
misdeclared = refl

-- the encoding is `UTF-8` exactly
encodings : all illegal (ascii "<?xml version='1.0' encoding='utf-8'?><a/>" ∷ ascii "<?xml version='1.0' encoding='ASCII'?><a/>"
    ∷ ascii "<?xml version='1.0' encoding=''?><a/>" ∷ []) ≡ true
unfolding cases computing
encodings = refl

-- the declaration stands only first
declared_first : all illegal (ascii " <?xml version='1.0'?><a/>" ∷ ascii "<!----><?xml version='1.0'?><a/>"
    ∷ ascii "<a/><?xml version='1.0'?>" ∷ ascii "<?xml version='1.0'?><?xml version='1.0'?><a/>" ∷ []) ≡ true
unfolding cases computing
declared_first = refl

-- blanks and comments stand before and after the root, and nothing else does
round_the_root : legal (ascii " <!-- x -->\n<a/>\t<!---->\r") ≡ true
unfolding cases computing
round_the_root = refl

one_root : all illegal (ascii "<a/><a/>" ∷ ascii "x<a/>" ∷ ascii "<a/>x" ∷ ascii " " ∷ ascii "<!-- -->" ∷ ascii "<a/>&amp;" ∷ []) ≡ true
unfolding cases computing
one_root = refl

-- a byte-order mark first is no document; U+FEFF inside text is legal
byte_order_mark : illegal (239 ∷ 187 ∷ 191 ∷ ascii "<a/>") ≡ true
unfolding cases computing
byte_order_mark = refl

feff_inside : legal (ascii "<a>" ++ (239 ∷ 187 ∷ 191 ∷ ascii "</a>")) ≡ true
unfolding cases computing
feff_inside = refl

-- other `<?` and number references are not in the grammar
not_in_the_grammar : all illegal (
    ascii "<?b c?><a/>"
    ∷ ascii "<a><?b c?></a>"
    ∷ ascii "<a>&#65;</a>"
    ∷ ascii "<a>&#x41;</a>"
    ∷ ascii "<a b='&#65;'/>"
    ∷ []
    ) ≡ true
unfolding cases computing
not_in_the_grammar = refl
