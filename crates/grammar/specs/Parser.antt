-- A parser: a total function that finds the document that a text writes, if one does (`Theorems`). It falls with its fuel, the length of
-- the text.
use Rattle.std.specs.Prelude.{List, [], ◌∷◌, ℕ, zero, suc, Bool, true, false, ◌&&◌, ◌||◌, not, eqb, leb, length, Option, Some, None}
use Rattle.grammar.specs.Bytes.{ascii, blank, name_start, name_byte, quote, special, begins, letter, skipped}
unfoldable pub use Rattle.grammar.specs.Bytes.{same_bytes}
use Rattle.grammar.specs.Characters.{lead1, lead2, lead3, lead4, continues, noncharacter}
use Rattle.grammar.specs.Document.{Attribute, attribute, Element, element, Contents, nothing, child, merged, together}
use Rattle.grammar.specs.Read.{Read, fail, got, Reader, bind, ◌>>=◌, ◌>>◌, pure, test, mark, byte, span, seen, before, alt, all_of}
use Rattle.grammar.specs.Read.{stops, many, many_step}

unfoldable pub name_at : Reader (List ℕ)
name_at = do
  a ← byte name_start
  w ← span name_byte
  test (leb (length (a ∷ w)) 64)
  pure (a ∷ w)

unfoldable pub gap_at : Reader (List ℕ)
gap_at = do
  a ← byte blank
  w ← span blank
  pure (a ∷ w)

unfoldable pub equals_at : Reader (Unit {0})
equals_at = do
  span blank
  mark (ascii "=")
  span blank
  pure tt

-- how many bytes a character has, by its first
pub data CharacterWidth : Type 0 where
  one two three four : CharacterWidth

unfoldable pub width_by : Bool → Bool → Bool → CharacterWidth
width_by true t u = one
width_by false true u = two
width_by false false true = three
width_by false false false = four

unfoldable pub width : ℕ → CharacterWidth
width a = width_by (leb a 127) (leb a 223) (leb a 239)

-- the bytes of a character behind the first
unfoldable pub rest_by : CharacterWidth → ℕ → Reader (List ℕ)
rest_by one a = do
  test (lead1 a)
  pure []
rest_by two a = do
  test (lead2 a)
  b ← byte continues
  pure (b ∷ [])
rest_by three a = do
  b ← byte (lead3 a)
  c ← byte continues
  test (not (noncharacter a b c))
  pure (b ∷ c ∷ [])
rest_by four a = do
  b ← byte (lead4 a)
  c ← byte continues
  d ← byte continues
  pure (b ∷ c ∷ d ∷ [])

unfoldable pub rest_at : ℕ → Reader (List ℕ)
rest_at a = rest_by (width a) a

-- a character whose first byte passes
unfoldable pub literal_at : (ℕ → Bool) → Reader (List ℕ)
literal_at p = do
  a ← byte p
  w ← rest_at a
  pure (a ∷ w)

-- the bytes `k` for `v`
unfoldable pub stands_for : List ℕ → List ℕ → Reader (List ℕ)
stands_for k v = do
  mark k
  pure v

unfoldable pub reference_at : Reader (List ℕ)
reference_at s =
    alt (stands_for (ascii "&amp;") (ascii "&") s)
    (alt (stands_for (ascii "&lt;") (ascii "<") s)
    (alt (stands_for (ascii "&gt;") (ascii ">") s)
    (alt (stands_for (ascii "&quot;") (ascii "\"") s) (stands_for (ascii "&apos;") (ascii "'") s))))

-- a line feed, or nothing where none stands: `v` either way
unfoldable pub feed_if : Bool → List ℕ → Reader (List ℕ)
feed_if true v = stands_for (ascii "\n") v
feed_if false v = pure v

unfoldable pub feed_at : List ℕ → Reader (List ℕ)
feed_at v s = feed_if (begins (ascii "\n") s) v s

-- a carriage return, and the line feed right behind it if one stands there
unfoldable pub line_end_at : List ℕ → Reader (List ℕ)
line_end_at v = do
  mark (ascii "\r")
  feed_at v

unfoldable pub text_byte : ℕ → Bool
text_byte a = not (special a) && not (eqb a 13)

unfoldable pub text_at : Reader (List ℕ)
text_at s = alt (reference_at s) (alt (line_end_at (ascii "\n") s) (literal_at text_byte s))

unfoldable pub spacing : ℕ → Bool
spacing a = blank a && not (eqb a 13)

unfoldable pub space_at : Reader (List ℕ)
space_at = do
  byte spacing
  pure (ascii " ")

unfoldable pub value_byte : ℕ → ℕ → Bool
value_byte q a = not (special a) && (not (eqb a q) && not (blank a))

unfoldable pub value_character_at : ℕ → Reader (List ℕ)
value_character_at q s = alt (reference_at s) (alt (line_end_at (ascii " ") s) (alt (space_at s) (literal_at (value_byte q) s)))

unfoldable pub value_at : Reader (List ℕ)
value_at = do
  q ← byte quote
  bs ← all_of (begins (q ∷ [])) (value_character_at q)
  mark (q ∷ [])
  pure (together bs)

unfoldable pub attribute_at_lem : Reader Attribute
attribute_at_lem = do
  gap_at
  n ← name_at
  equals_at
  v ← value_at
  pure (attribute n v)

-- whether a byte that passes stands behind the blanks, if any
unfoldable pub ends : (ℕ → Bool) → List ℕ → Bool
ends p [] = false
ends p (a ∷ s) = elim (blank a) [ true ↦ ends p s | false ↦ p a ]

-- > or /
unfoldable pub closing : ℕ → Bool
closing a = eqb a 62 || eqb a 47

unfoldable pub absent : List ℕ → List Attribute → Bool
absent n [] = true
absent n (attribute m v ∷ l) = not (same_bytes n m) && absent n l

unfoldable pub distinct : List Attribute → Bool
distinct [] = true
distinct (attribute n v ∷ l) = absent n l && distinct l

unfoldable pub attributes_at : Reader (List Attribute)
attributes_at = do
  l ← all_of (ends closing) attribute_at_lem
  test (distinct l)
  test (leb (length l) 16)
  pure l

unfoldable pub no_dash : ℕ → Bool
no_dash a = not (eqb a 45)

unfoldable pub plain_at : Reader (List ℕ)
plain_at = do
  literal_at no_dash
  pure []

unfoldable pub dashed_at : Reader (List ℕ)
dashed_at = do
  mark (ascii "-")
  plain_at

unfoldable pub remark_at : Reader (List ℕ)
remark_at s = alt (plain_at s) (dashed_at s)

unfoldable pub comment_at : Reader (Unit {0})
comment_at = do
  mark (ascii "<!--")
  all_of (begins (ascii "--")) remark_at
  mark (ascii "-->")

unfoldable pub data_byte : ℕ → Bool
data_byte a = not (eqb a 13)

unfoldable pub data_character_at : Reader (List ℕ)
data_character_at s = alt (line_end_at (ascii "\n") s) (literal_at data_byte s)

unfoldable pub data_at_lem : Reader (List ℕ)
data_at_lem = do
  mark (ascii "<![CDATA[")
  bs ← all_of (begins (ascii "]]>")) data_character_at
  mark (ascii "]]>")
  pure (together bs)

-- what stands at the front of contents
pub data Look : Type 0 where
  at_close at_comment at_data at_element at_text : Look

-- behind `<!`
unfoldable pub look_third : Bool → Look
look_third true = at_data
look_third false = at_comment

unfoldable pub look₃ : List ℕ → Look
look₃ [] = at_comment
look₃ (b ∷ s) = look_third (eqb b 91)

unfoldable pub look_by : Bool → Bool → Look → Look
look_by true t l = at_close
look_by false true l = l
look_by false false l = at_element

unfoldable pub look₂ : List ℕ → Look
look₂ [] = at_element
look₂ (b ∷ s) = look_by (eqb b 47) (eqb b 33) (look₃ s)

unfoldable pub look_if : Bool → Look → Look
look_if true l = l
look_if false l = at_text

unfoldable pub look : List ℕ → Look
look [] = at_close
look (a ∷ s) = look_if (eqb a 60) (look₂ s)

-- the rest of an element, behind its attributes
unfoldable pub empty_at : List ℕ → List Attribute → Reader Element
empty_at n l = do
  mark (ascii "/>")
  pure (element n l nothing [])

unfoldable pub full_at : Reader Contents → List ℕ → List Attribute → Reader Element
full_at within n l = do
  mark (ascii ">")
  (c, k) ← seen within
  mark (ascii "</")
  mark n
  span blank
  mark (ascii ">")
  pure (element n l c k)

unfoldable pub element_at : (ℕ → Reader Contents) → ℕ → Reader Element
element_at within zero = λ s. fail
element_at within (suc d) = do
  mark (ascii "<")
  n ← name_at
  l ← attributes_at
  span blank
  λ s. alt (empty_at n l s) (full_at (within d) n l s)

unfoldable pub contents_by : (ℕ → Reader Contents) → ℕ → Look → Reader Contents
contents_by more d at_close = pure nothing
contents_by more d at_comment = do
  comment_at
  more d
contents_by more d at_data = do
  b ← data_at_lem
  c ← more d
  pure (merged b c)
contents_by more d at_element = do
  e ← element_at more d
  c ← more d
  pure (child e c)
contents_by more d at_text = λ s. (do
  test (not (begins (ascii "]]>") s))
  b ← text_at
  c ← more d
  pure (merged b c)) s

unfoldable pub contents_at : ℕ → ℕ → Reader Contents
contents_at zero d s = fail
contents_at (suc n) d s = contents_by (contents_at n) d (look s) s

unfoldable pub setting_at : List ℕ → List ℕ → Reader (Unit {0})
setting_at k v = do
  gap_at
  mark k
  equals_at
  q ← byte quote
  mark v
  mark (q ∷ [])

-- ?
unfoldable pub asking : ℕ → Bool
asking a = eqb a 63

unfoldable pub encoding_if_lem : Bool → Reader (Unit {0})
encoding_if_lem true = pure tt
encoding_if_lem false = setting_at (ascii "encoding") (ascii "UTF-8")

unfoldable pub declaration_if : Bool → Reader (Unit {0})
declaration_if false = pure tt
declaration_if true = do
  mark (ascii "<?xml")
  setting_at (ascii "version") (ascii "1.0")
  λ s. encoding_if_lem (ends asking s) s
  span blank
  mark (ascii "?>")

unfoldable pub declaration_at : Reader (Unit {0})
declaration_at s = declaration_if (begins (ascii "<?") s) s

unfoldable pub blank_at : Reader (List ℕ)
blank_at = do
  byte blank
  pure []

unfoldable pub remarked_at : Reader (List ℕ)
remarked_at = do
  comment_at
  pure []

unfoldable pub aside_at : Reader (List ℕ)
aside_at s = alt (blank_at s) (remarked_at s)

unfoldable pub no_aside : List ℕ → Bool
no_aside s = stops blank s && not (begins (ascii "<!-") s)

unfoldable pub skipped_at : Reader (List ℕ)
skipped_at = do
  literal_at skipped
  pure []

unfoldable pub doctype_at : Reader (Unit {0})
doctype_at = do
  mark (ascii "<!DOCTYPE")
  all_of (begins (ascii ">")) skipped_at
  mark (ascii ">")

unfoldable pub doctype_if : Bool → Reader (Unit {0})
doctype_if false = pure tt
doctype_if true = do
  doctype_at
  all_of no_aside aside_at
  pure tt

unfoldable pub prologue_at : Reader (Unit {0})
prologue_at = do
  all_of no_aside aside_at
  λ s. doctype_if (begins (ascii "<!D") s) s

unfoldable pub end_at : Reader (Unit {0})
end_at [] = got tt []
end_at (a ∷ s) = fail

unfoldable pub document_at : ℕ → Reader Element
document_at n = do
  declaration_at
  prologue_at
  e ← element_at (contents_at n) 16
  all_of no_aside aside_at
  end_at
  pure e

unfoldable pub answer : Read Element → Option Element
answer fail = None
answer (got e r) = Some e

unfoldable pub parse : List ℕ → Option Element
parse s = answer (document_at (length s) s)

-- the parser with all that it calls open: `unfolding computing` lets a proof compute `parse` at a text that is given
unfoldable pub computing : List ℕ → Option Element
unfolding name_at gap_at equals_at width_by width rest_by rest_at literal_at stands_for reference_at feed_if feed_at line_end_at text_byte
    text_at spacing space_at value_byte value_character_at value_at attribute_at_lem ends closing same_bytes absent distinct attributes_at
    no_dash plain_at dashed_at remark_at comment_at data_byte data_character_at data_at_lem look_third look₃ look_by look₂ look_if look empty_at
    full_at element_at contents_by contents_at setting_at asking encoding_if_lem declaration_if declaration_at blank_at remarked_at aside_at
    no_aside skipped_at doctype_at doctype_if prologue_at end_at document_at answer parse bind test mark byte span stops alt many_step many
    all_of seen before blank letter name_start name_byte quote special begins skipped lead1 continues lead2 lead3 lead4 noncharacter merged
computing s = parse s
