-- Ends of lines, each line computed.
use Rattle.std.specs.Prelude.{◌≡◌, refl, List, [], ◌∷◌, ◌++◌, true, ℕ, Some}
use Rattle.lists.specs.Lists.{all}
use Rattle.grammar.specs.Bytes.{ascii}
use Rattle.grammar.specs.Document.{attribute}
use Rattle.grammar.specs.Erased.{node, none, inner, characters, document_of, erasing}
use Rattle.grammar.specs.Parser.{computing}
use Rattle.grammar.proofs.Tests.Documents.{legal, cases}

-- what stands between the tags is the one run `w`, and what stands in the value is `v`
abbrev text_and_value : List ℕ → List ℕ → List ℕ → Type 0
text_and_value s w v =
    document_of (ascii "<a b='" ++ (s ++ (ascii "'>" ++ (s ++ ascii "</a>"))))
    ≡ Some (node (ascii "a") (attribute (ascii "b") v ∷ []) (characters w none))

pair : text_and_value (ascii "x\r\ny") (ascii "x\ny") (ascii "x y")
unfolding erasing computing
pair = refl

lone : text_and_value (ascii "x\ry") (ascii "x\ny") (ascii "x y")
unfolding erasing computing
lone = refl

lone_and_pair : text_and_value (ascii "\r\r\n") (ascii "\n\n") (ascii "  ")
unfolding erasing computing
lone_and_pair = refl

feed_and_lone : text_and_value (ascii "\n\r") (ascii "\n\n") (ascii "  ")
unfolding erasing computing
feed_and_lone = refl

pair_and_feed : text_and_value (ascii "\r\n\n") (ascii "\n\n") (ascii "  ")
unfolding erasing computing
pair_and_feed = refl

reference_between : text_and_value (ascii "\r&amp;\n") (ascii "\n&\n") (ascii " & ")
unfolding erasing computing
reference_between = refl

-- a comment between the two: nothing is removed from the text before its line ends are read
comment_between : document_of (ascii "<a>\r<!---->\n</a>") ≡ Some (node (ascii "a") [] (characters (ascii "\n\n") none))
unfolding erasing computing
comment_between = refl

child_between : document_of (ascii "<a>\r<c/>\n</a>")
    ≡ Some (node (ascii "a") [] (characters (ascii "\n") (inner (node (ascii "c") [] none) (characters (ascii "\n") none))))
unfolding erasing computing
child_between = refl

-- next line (U+0085) and line separator (U+2028) end no line
other_marks : text_and_value (194 ∷ 133 ∷ 226 ∷ 128 ∷ 168 ∷ []) (194 ∷ 133 ∷ 226 ∷ 128 ∷ 168 ∷ []) (194 ∷ 133 ∷ 226 ∷ 128 ∷ 168 ∷ [])
unfolding erasing computing
other_marks = refl

-- a carriage return is a blank still, in tags and round the root, and stands in comments
returns_anywhere : all legal (ascii "\r<!--\r\n-\r--><a\r\nb\r=\r\n'c'\r>\r</a\r\n>\r"
    ∷ ascii "<?xml\rversion='1.0'\r\n?>\r\n<a/>\r\n" ∷ []) ≡ true
unfolding cases computing
returns_anywhere = refl
