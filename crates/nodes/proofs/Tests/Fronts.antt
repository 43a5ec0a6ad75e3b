-- FRONT PARTS of values, computed: any bytes and places, also where the value ends too soon or there is none.
use Rattle.std.specs.Prelude.{◌≡◌, refl, [], Option, Some, None, ℕ}
use Prim.Native.String.{String}
use Rattle.grammar.specs.Bytes.{ascii}
use Rattle.grammar.specs.Parser.{computing}
use Rattle.nodes.specs.Values.{next_byte, bare_byte, or_else_lem, tell, decoded_as, tells, value_there, as_char, decoded_at}
use Rattle.nodes.specs.Fronts.{begins_at_lem, fronts}
use Rattle.steps.specs.Leaves.{first_byte}

unfoldable decodes : Unit {0}
unfolding computing next_byte bare_byte or_else_lem tell decoded_as tells value_there as_char decoded_at first_byte fronts
decodes = tt

unfoldable asks : String → Option ℕ
asks text = begins_at_lem (ascii text) 0 (ascii "A&B_")

-- the front part and a rest
with_rest : asks "'A&amp;B_C'" ≡ Some 9
unfolding asks decodes
with_rest = refl

-- its letters written as references, between either quote
with_references : asks "\"A&amp;B_&lt;\"" ≡ Some 9
unfolding asks decodes
with_references = refl

-- the front part alone: nothing is behind it
alone : asks "'A&amp;B_'" ≡ Some 9
unfolding asks decodes
alone = refl

alone_told : tells 39 (ascii "'") ≡ []
unfolding decodes
alone_told = refl

-- a value that ends in the middle of the front part, by its quote or by the end of the text
half : asks "'A&amp;'B_" ≡ None
unfolding asks decodes
half = refl

half_text : asks "'A&amp;B" ≡ None
unfolding asks decodes
half_text = refl

-- another letter in it, and a reference in the place of a letter
other : asks "'A&amp;b_C'" ≡ None
unfolding asks decodes
other = refl

reference_for_letter : asks "'A&lt;B_C'" ≡ None
unfolding asks decodes
reference_for_letter = refl

-- no value, behind the end of the text
behind : begins_at_lem (ascii "''") 7 (ascii "A") ≡ None
unfolding decodes
behind = refl

behind_nothing : begins_at_lem (ascii "''") 7 [] ≡ Some 7
unfolding decodes
behind_nothing = refl
