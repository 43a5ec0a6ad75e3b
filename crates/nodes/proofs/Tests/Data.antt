-- PLACES INSIDE CDATA, and CDATA between children, computed.
use Rattle.std.specs.Prelude.{◌≡◌, refl, List, true, false, ℕ, Some}
use Rattle.lists.specs.Lists.{all}
use Rattle.grammar.specs.Bytes.{ascii}
use Rattle.grammar.specs.Parser.{computing}
use Rattle.steps.specs.Leaves.{first_byte}
use Rattle.nodes.specs.Scan.{to_tag, past_tag, quoting, finishes, finish, tag_from, tag_at}
use Rattle.nodes.specs.Children.{kid_then, kid_by, kid_within, kid_at, first_child, first_by}
use Rattle.nodes.specs.TextBytes.{past, referring, bare_char, step_by, step_in, step, say, said_within, says_from}
use Rattle.nodes.specs.Texts.{rest_from_by, rest_from, place_of, says_at, as_text, text_step}
use Rattle.nodes.specs.Ahead.{after_gap, past_gap, gap_data, ending, ahead_then, ahead_by, ahead_within, ahead_at, first_ahead}
use Rattle.nodes.specs.Ahead as Ahead-of
use Rattle.nodes.specs.declared.Text.TheVariants.{Stop, Skip, Letter}
use Rattle.nodes.specs.declared.ahead.Ahead.TheVariants.{Child, Stray}

unfoldable steps : Unit {0}
unfolding computing first_byte past referring bare_char step_by step_in step say said_within says_from rest_from_by rest_from place_of says_at
    as_text text_step
steps = tt

-- 22 bytes: byte 13 is the 2 in CDATA, and its place there is 22 + 1 + 13
abbrev marked : List ℕ
marked = ascii "<a>1<![CDATA[2]]>3</a>"

into : text_step marked 4 ≡ Skip 36
unfolding steps
into = refl

there : text_step marked 36 ≡ Letter 50 37
unfolding steps
there = refl

out : text_step marked 37 ≡ Skip 17
unfolding steps
out = refl

last : text_step marked 18 ≡ Stop
unfolding steps
last = refl

-- what is said from the byte on is another thing outside and inside
outside : says_at marked 13 ≡ ascii "2]]>3"
unfolding steps
outside = refl

inside : says_at marked 36 ≡ ascii "23"
unfolding steps
inside = refl

-- inside, `<` and `&` are letters
free : says_at (ascii "<a><![CDATA[<b>&lt;]]></a>") 3 ≡ ascii "<b>&lt;"
unfolding steps
free = refl

-- an end of a line inside, and a return at the end of CDATA with a line feed behind it
lines : says_at (ascii "<a><![CDATA[\r\n\r]]>\n</a>") 3 ≡ ascii "\n\n\n"
unfolding steps
lines = refl

unfoldable walks : Unit {0}
unfolding computing to_tag past_tag quoting finishes finish tag_from tag_at kid_then kid_by kid_within kid_at first_child first_by after_gap
    past_gap gap_data ending ahead_then ahead_by ahead_within ahead_at first_ahead Ahead-of.first_ahead_by all
walks = tt

-- a tag in CDATA is no child
no_child : first_child (ascii "<a><![CDATA[<c/>]]><b/></a>") 0 ≡ Some 19
unfolding walks
no_child = refl

-- between children CDATA is blank, but where words may stand
blank_between : first_ahead false (ascii "<a> <![CDATA[ \r\n]]> <b/></a>") 0 ≡ Child 20
unfolding walks
blank_between = refl

words_between : first_ahead false (ascii "<a><![CDATA[x]]><b/></a>") 0 ≡ Stray
unfolding walks
words_between = refl

words_allowed : first_ahead true (ascii "<a><![CDATA[x]]><b/></a>") 0 ≡ Child 16
unfolding walks
words_allowed = refl
