-- CDATA and DOCTYPE, each line computed.
use Rattle.std.specs.Prelude.{◌≡◌, refl, [], ◌∷◌, true, Some}
use Rattle.lists.specs.Lists.{all}
use Rattle.grammar.specs.Bytes.{ascii}
use Rattle.grammar.specs.Erased.{node, none, inner, document_of, erasing}
use Rattle.grammar.specs.Parser.{computing}
use Rattle.grammar.proofs.Tests.Documents.{legal, illegal, cases}
use Rattle.grammar.proofs.Tests.Text.{holds}

-- CDATA reads as its characters, `<`, `&` and hyphens among them, and parts no run
reads : holds (ascii "x<![CDATA[<b>--]] ]>]]>y") (ascii "x<b>--]] ]>y")
unfolding erasing computing
reads = refl

-- a reference in it is no reference
five : holds (ascii "<![CDATA[&amp;]]>") (ascii "&amp;")
unfolding erasing computing
five = refl

-- the first `]]>` ends it
first_ends : holds (ascii "<![CDATA[x]]>&gt;<![CDATA[y]]>") (ascii "x>y")
unfolding erasing computing
first_ends = refl

brackets_last : holds (ascii "<![CDATA[]]]]>") (ascii "]]")
unfolding erasing computing
brackets_last = refl

-- the three bytes stand nowhere in text: CDATA between them parts them
brackets_parted : holds (ascii "]]<![CDATA[>]]>") (ascii "]]>")
unfolding erasing computing
brackets_parted = refl

-- without any characters it writes nothing, and no empty run
empty : document_of (ascii "<a><![CDATA[]]><b/><![CDATA[]]></a>") ≡ Some (node (ascii "a") [] (inner (node (ascii "b") [] none) none))
unfolding erasing computing
empty = refl

-- ends of lines are as in text; at its end, CDATA parts a return from a line feed
lines : holds (ascii "<![CDATA[\r\n\r]]>") (ascii "\n\n")
unfolding erasing computing
lines = refl

return_last : holds (ascii "<![CDATA[\r]]>\n") (ascii "\n\n")
unfolding erasing computing
return_last = refl

feed_first : holds (ascii "\r<![CDATA[\n]]>\r<![CDATA[]]>\n") (ascii "\n\n\n\n")
unfolding erasing computing
feed_first = refl

no_data : all illegal (
    ascii "<a><![CDATA[x]]>]]></a>"
    ∷ ascii "<a><![CDATA[<![CDATA[]]>]]></a>"
    ∷ ascii "<a><![CDATA[x]></a>"
    ∷ ascii "<a><![CDATA[x</a>"
    ∷ ascii "<a><![cdata[x]]></a>"
    ∷ ascii "<a><![CDATA [x]]></a>"
    ∷ ascii "<a><![CDATA[\u{1}]]></a>"
    ∷ []
    ) ≡ true
unfolding cases computing
no_data = refl

-- it stands in contents alone
data_outside : all illegal (ascii "<![CDATA[]]><a/>" ∷ ascii "<a/><![CDATA[]]>" ∷ ascii "<a b='<![CDATA[]]>'/>" ∷ ascii "<a <![CDATA[]]>/>"
    ∷ []) ≡ true
unfolding cases computing
data_outside = refl

-- A DOCTYPE stands before the root, behind the declaration, up to its first `>`. Any characters but `[`, `]` and `<` stand in it, or none.
doctypes : all legal (
    ascii "<!DOCTYPE a><a/>"
    ∷ ascii "<!DOCTYPE><a/>"
    ∷ ascii "<!DOCTYPEb><a/>"
    ∷ ascii "<?xml version='1.0'?> <!-- --> <!DOCTYPE a PUBLIC \"-//x--y\" 'z' & -> <!-- --> <a/>"
    ∷ []
    ) ≡ true
unfolding cases computing
doctypes = refl

-- it writes nothing
doctype_silent : document_of (ascii "<!DOCTYPE b><a/>") ≡ document_of (ascii "<a/>")
unfolding erasing computing
doctype_silent = refl

no_doctypes : all illegal (
    ascii "<!DOCTYPE a><!DOCTYPE a><a/>"
    ∷ ascii "<a/><!DOCTYPE a>"
    ∷ ascii "<a><!DOCTYPE a></a>"
    ∷ ascii "<!DOCTYPE a><?xml version='1.0'?><a/>"
    ∷ ascii "<!DOCTYPE a []><a/>"
    ∷ ascii "<!DOCTYPE a <><a/>"
    ∷ ascii "<!DOCTYPE a '>'><a/>"
    ∷ ascii "<!doctype a><a/>"
    ∷ ascii "<!DOCTYPE a><!-- -->"
    ∷ ascii "<!DOCTYPE a\u{1}><a/>"
    ∷ []
    ) ≡ true
unfolding cases computing
no_doctypes = refl
