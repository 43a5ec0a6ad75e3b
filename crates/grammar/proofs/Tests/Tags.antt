-- Tags, each line computed: names, attributes, depth.
use Rattle.std.specs.Prelude.{◌≡◌, refl, List, [], ◌∷◌, ◌++◌, ℕ, true}
use Rattle.lists.specs.Lists.{all}
use Rattle.grammar.specs.Bytes.{ascii}
use Rattle.grammar.specs.Parser.{computing}
use Rattle.grammar.proofs.Tests.Documents.{legal, illegal, times, cases}

-- a name: a letter or `_`, then letters, digits, `_ - . :`
names : all legal (ascii "<a/>" ∷ ascii "<Z/>" ∷ ascii "<_/>" ∷ ascii "<aZ09_-.:/>" ∷ []) ≡ true
unfolding cases computing
names = refl

no_names : all illegal (ascii "</>" ∷ ascii "<1a/>" ∷ ascii "<-a/>" ∷ ascii "<.a/>" ∷ ascii "<:a/>" ∷ ascii "<a@/>" ∷ ascii "< a/>"
    ∷ (60 ∷ 195 ∷ 169 ∷ ascii "/>") ∷ []) ≡ true
unfolding cases computing
no_names = refl

-- at most 64 bytes, of an element and of an attribute
name_64 : all legal ((ascii "<" ++ (times 64 (ascii "n") ++ ascii "/>")) ∷ (ascii "<a " ++ (times 64 (ascii "n") ++ ascii "=''/>")) ∷ [])
    ≡ true
unfolding cases computing
name_64 = refl

name_65 : all illegal ((ascii "<" ++ (times 65 (ascii "n") ++ ascii "/>")) ∷ (ascii "<a " ++ (times 65 (ascii "n") ++ ascii "=''/>"))
    ∷ []) ≡ true
unfolding cases computing
name_65 = refl

-- the end tag has the start tag's name
end_tags : all illegal (ascii "<a></b>" ∷ ascii "<a></A>" ∷ ascii "<a></aa>" ∷ ascii "<aa></a>" ∷ ascii "<a><b></a></b>" ∷ ascii "<a>"
    ∷ ascii "</a>" ∷ []) ≡ true
unfolding cases computing
end_tags = refl

-- blanks before each attribute, one at least, and before `>` or `/>`, end tags too; round `=` there may be some
tag_blanks : all legal (ascii "<a >x</a >" ∷ ascii "<a\n/>" ∷ ascii "<a\tb\r=\n''\tc=''></a\r\n>" ∷ []) ≡ true
unfolding cases computing
tag_blanks = refl

tag_misblanks : all illegal (ascii "<a b=''c=''/>" ∷ ascii "<ab=''/>" ∷ ascii "<a / >" ∷ ascii "<a></ a>" ∷ ascii "<a>< /a>"
    ∷ ascii "<a b/>" ∷ ascii "<a b=c/>" ∷ []) ≡ true
unfolding cases computing
tag_misblanks = refl

-- no name twice in a tag; the same in another tag is fine
twice : all illegal (ascii "<a b='' c='' b=''/>" ∷ ascii "<a b='1' b='1'/>" ∷ []) ≡ true
unfolding cases computing
twice = refl

once_each : legal (ascii "<a b='' c='' B=''><a b=''/></a>") ≡ true
unfolding cases computing
once_each = refl

-- at most 16 attributes
attributes_16 : legal (ascii "<a a='' b='' c='' d='' e='' f='' g='' h='' i='' j='' k='' l='' m='' n='' o='' p=''/>") ≡ true
unfolding cases computing
attributes_16 = refl

attributes_17 : illegal (ascii "<a a='' b='' c='' d='' e='' f='' g='' h='' i='' j='' k='' l='' m='' n='' o='' p='' q=''/>") ≡ true
unfolding cases computing
attributes_17 = refl

-- at most 16 deep, the root counting 1
deep : ℕ → List ℕ
deep n = times n (ascii "<a>") ++ times n (ascii "</a>")

depth_16 : legal (deep 16) ≡ true
unfolding cases computing deep
depth_16 = refl

depth_17 : illegal (deep 17) ≡ true
unfolding cases computing deep
depth_17 = refl

depth_17_empty : illegal (times 16 (ascii "<a>") ++ (ascii "<a/>" ++ times 16 (ascii "</a>"))) ≡ true
unfolding cases computing
depth_17_empty = refl
