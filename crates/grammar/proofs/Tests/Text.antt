-- Text, values and comments, each line computed.
use Rattle.std.specs.Prelude.{◌≡◌, refl, List, [], ◌∷◌, ◌++◌, ℕ, true, Some}
use Rattle.lists.specs.Lists.{all}
use Rattle.grammar.specs.Bytes.{ascii}
use Rattle.grammar.specs.Document.{attribute}
use Rattle.grammar.specs.Erased.{node, none, inner, characters, document_of, erasing}
use Rattle.grammar.specs.Parser.{computing}
use Rattle.grammar.proofs.Tests.Documents.{legal, illegal, cases}

-- the contents of an element are the one run `w`; the value of its attribute is `w`
abbrev pub holds : List ℕ → List ℕ → Type 0
holds s w = document_of (ascii "<a>" ++ (s ++ ascii "</a>")) ≡ Some (node (ascii "a") [] (characters w none))

abbrev has : List ℕ → List ℕ → Type 0
has s w = document_of (ascii "<a b=" ++ (s ++ ascii "/>")) ≡ Some (node (ascii "a") (attribute (ascii "b") w ∷ []) none)

-- five references, and no other `&`
references : holds (ascii "&amp;&lt;&gt;&quot;&apos;") (ascii "&<>\"'")
unfolding erasing computing
references = refl

no_references : all illegal (ascii "<a>&</a>" ∷ ascii "<a>&amp</a>" ∷ ascii "<a>&AMP;</a>" ∷ ascii "<a>&nbsp;</a>"
    ∷ ascii "<a>& amp;</a>" ∷ ascii "<a b='&'/>" ∷ []) ≡ true
unfolding cases computing
no_references = refl

-- `<` never stands in text or a value
no_less : all illegal (ascii "<a><</a>" ∷ ascii "<a>x<y</a>" ∷ ascii "<a b='<'/>" ∷ []) ≡ true
unfolding cases computing
no_less = refl

-- in text a carriage return reads as a line feed, one line feed where one stands behind it; the other blanks read as themselves
text_blanks : holds (ascii " \t\r\n\r\r\n\n\r") (ascii " \t\n\n\n\n\n")
unfolding erasing computing
text_blanks = refl

-- a comment writes nothing and parts no run
comment_joins : holds (ascii "x<!-- - -->y") (ascii "xy")
unfolding erasing computing
comment_joins = refl

comment_alone : document_of (ascii "<a><!-- x --></a>") ≡ document_of (ascii "<a/>")
unfolding erasing computing
comment_alone = refl

-- a child does part two runs
runs : document_of (ascii "<a>x<c/>y<!---->z</a>")
    ≡ Some (node (ascii "a") [] (characters (ascii "x") (inner (node (ascii "c") [] none) (characters (ascii "yz") none))))
unfolding erasing computing
runs = refl

-- the three bytes `]]>` never stand in text
brackets : all illegal (ascii "<a>]]></a>" ∷ ascii "<a>x]]>y</a>" ∷ ascii "<a>]]]></a>" ∷ ascii "<a><b/>]]></a>" ∷ []) ≡ true
unfolding cases computing
brackets = refl

brackets_referred : holds (ascii "]]&gt;") (ascii "]]>")
unfolding erasing computing
brackets_referred = refl

brackets_parted : holds (ascii "]]<!---->>") (ascii "]]>")
unfolding erasing computing
brackets_parted = refl

brackets_short : holds (ascii "]>]] >]]") (ascii "]>]] >]]")
unfolding erasing computing
brackets_short = refl

brackets_in_value : has (ascii "']]>'") (ascii "]]>")
unfolding erasing computing
brackets_in_value = refl

brackets_in_comment : legal (ascii "<a><!--]]>--></a>") ≡ true
unfolding cases computing
brackets_in_comment = refl

-- in a value, a literal tab, line feed or carriage return reads as a space; and so does a pair, which is one line feed before anything else
value_blanks : has (ascii "' \t\n\r'") (ascii "    ")
unfolding erasing computing
value_blanks = refl

value_crlf : has (ascii "'x\r\ny\r\r\n\n'") (ascii "x y   ")
unfolding erasing computing
value_crlf = refl

-- a value does not hold its own quote; the other it may, and either by a reference
value_quotes : has (ascii "\"'&quot;&apos;\"") (ascii "'\"'")
unfolding erasing computing
value_quotes = refl

value_cut : all illegal (ascii "<a b='''/>" ∷ ascii "<a b='x\"/>" ∷ ascii "<a b='x/>" ∷ []) ≡ true
unfolding cases computing
value_cut = refl

-- in a comment `<` and `&` are free, `--` is not, and `-` is not last
comments : all legal (ascii "<a><!--<b>&c;--></a>" ∷ ascii "<a><!----></a>" ∷ ascii "<a><!-- - -x --></a>" ∷ []) ≡ true
unfolding cases computing
comments = refl

no_comments : all illegal (ascii "<a><!-- -- --></a>" ∷ ascii "<a><!---></a>" ∷ ascii "<a><!-- ---></a>" ∷ ascii "<a><!-- ></a>"
    ∷ ascii "<a><!- --></a>" ∷ []) ≡ true
unfolding cases computing
no_comments = refl
