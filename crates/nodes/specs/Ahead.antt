-- What stands ahead in contents: behind comments and blanks (or, where words may stand, any characters), some of them in CDATA, a child
-- or the end tag. Total on any bytes.
use Rattle.std.specs.Prelude.{List, [], ℕ, zero, suc, ◌-◌, Bool, true, false, ◌||◌, length, drop}
use Rattle.lists.specs.Lists.{all}
use Rattle.grammar.specs.Bytes.{blank}
use Rattle.grammar.specs.Read.{Read, fail, got, span}
use Rattle.grammar.specs.Parser.{Look, at_close, at_comment, at_data, at_element, at_text, look, comment_at, data_at_lem}
use Rattle.nodes.specs.Places.{pick}
use Rattle.nodes.specs.Scan.{to_tag, past_tag, tag_from, tag_at}
use Rattle.nodes.specs.declared.ahead.Ahead.{Ahead}
use Rattle.nodes.specs.declared.ahead.Ahead.TheVariants.{Child, End, Stray}

-- what a gap is followed by: blanks alone, or all up to a `<`
unfoldable pub after_gap : Read (List ℕ) → List ℕ
after_gap fail = []
after_gap (got w r) = r

unfoldable pub past_gap : Bool → List ℕ → List ℕ
past_gap true s = to_tag s
past_gap false s = after_gap (span blank s)

-- CDATA in a gap: any, where words may stand, and otherwise such that holds blanks alone
unfoldable pub gap_data : Bool → Read (List ℕ) → Read (Unit {0})
gap_data words fail = fail
gap_data words (got b r) = pick (words || all blank b) (got tt r) fail

unfoldable pub ending : ℕ → Read (Unit {0}) → Ahead
ending n fail = Stray
ending n (got u r) = End (n - length r)

-- what stands ahead, where an end tag is told by where it begins: it ends there
unfoldable pub tag_passed : List ℕ → Ahead → Ahead
tag_passed text (Child k) = Child k
tag_passed text (End t) = ending (length text) (past_tag (drop t text))
tag_passed text Stray = Stray

unfoldable pub ahead_then : Read (Unit {0}) → (List ℕ → Ahead) → Ahead
ahead_then fail more = Stray
ahead_then (got u r) more = more r

unfoldable pub ahead_by : Bool → Look → (List ℕ → Ahead) → ℕ → List ℕ → Ahead
ahead_by words at_close more n s = ending n (past_tag s)
ahead_by words at_comment more n s = ahead_then (comment_at s) more
ahead_by words at_data more n s = ahead_then (gap_data words (data_at_lem s)) more
ahead_by words at_element more n s = Child (n - length s)
ahead_by words at_text more n s = Stray

unfoldable pub ahead_within : ℕ → Bool → ℕ → List ℕ → Ahead
ahead_within zero words n s = Stray
ahead_within (suc m) words n s = ahead_by words (look (past_gap words s)) (ahead_within m words n) n (past_gap words s)

unfoldable pub ahead_at : Bool → ℕ → List ℕ → Ahead
ahead_at words n s = ahead_within (suc (length s)) words n s

-- from the start of the contents of the element at a position; an empty tag ends it
unfoldable pub first_ahead_by : Bool → ℕ → Read Bool → Ahead
first_ahead_by words n fail = Stray
first_ahead_by words n (got true r) = ahead_at words n r
first_ahead_by words n (got false r) = End (n - length r)

unfoldable pub first_ahead : Bool → List ℕ → ℕ → Ahead
first_ahead words text at = first_ahead_by words (length text) (tag_at (drop at text))

-- the same from a place in its start tag
unfoldable pub ahead_in_tag : Bool → List ℕ → ℕ → Ahead
ahead_in_tag words text i = first_ahead_by words (length text) (tag_from 0 (drop i text))
