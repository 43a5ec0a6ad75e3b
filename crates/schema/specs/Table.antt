-- A TABLE of numbers and a text of letters, and the rows that they stand for: a total function, so that any table is one of a schema.
use Rattle.std.specs.Prelude.{List, [], ◌++◌, ◌&&◌, cond, ℕ, zero, suc, ◌+◌, ◌-◌, ◌*◌, eqb, leb, get_or, length, take, drop}
use Prim.Native.String.{String}
use Rattle.lists.specs.Lists.{count_up}
use Rattle.numbers.specs.Numbers.{whole, volume_dimensions, dimension_list, exponent, decimal, wholes, sixteen, key, key_list, colour}
use Rattle.base64_text.specs.Base64.{coded}
use Rattle.schema.specs.Schema.{Form, any_value, word, number, AttributeRow, required, optional, TextForm, any_text, numbers, Times}
use Rattle.schema.specs.Schema.{once}
use Rattle.schema.specs.Schema.{at_most_once, any_times, at_least_once, needed_below, Case, ◌⇒◌, Which, always, chosen, chosen_else}
use Rattle.schema.specs.Schema.{ChildRow}
use Rattle.schema.specs.Schema.{child, Order, any_order, in_order, Row, branch, leaf}
use Rattle.schema.specs.Letters.{lettered}

-- The first seven numbers are where each part begins; the eighth is the word that is watched. The parts, and how many numbers an entry has:
--   0 kinds (6): attributes from, up to; children from, up to; text (0: blanks only; or a form, and 1); 0 where children come in any order
--   1 attributes (3): word; form; 0 where it must be there
--   2 children (4): word; times; choice (0: none; or a choice, and 1); kind.
--     Times: 0 once, 1 at most, 2 any, 3 at least once, else needed where the watched word stands below
--   3 choices (4): word of the attribute; cases from, up to; else (0: none; or a kind, and 1)
--   4 cases (2): word; kind
--   5 words (1): where the word begins in the letters; it ends where the next one begins
--   6 forms (4): what it is; and its limits. Of words: from, up to, and their front part (0: none; or a word, and 1)
unfoldable pub entry : (t : List ℕ) (part size row column : ℕ) → ℕ
entry t p n r c = get_or t (get_or t p 0 + n * r + c) 0

abbrev pub kind_cell : List ℕ → ℕ → ℕ → ℕ
kind_cell t k c = entry t 0 6 k c

abbrev pub attribute_cell : List ℕ → ℕ → ℕ → ℕ
attribute_cell t a c = entry t 1 3 a c

abbrev pub line_cell : List ℕ → ℕ → ℕ → ℕ
line_cell t i c = entry t 2 4 i c

abbrev pub choice_cell : List ℕ → ℕ → ℕ → ℕ
choice_cell t i c = entry t 3 4 i c

abbrev pub case_cell : List ℕ → ℕ → ℕ → ℕ
case_cell t i c = entry t 4 2 i c

abbrev pub bound : List ℕ → ℕ → ℕ
bound t w = entry t 5 1 w 0

abbrev pub form_cell : List ℕ → ℕ → ℕ → ℕ
form_cell t f c = entry t 6 4 f c

unfoldable pub watched : List ℕ → ℕ
watched t = get_or t 7 0

-- of a kind
unfoldable pub attributes_from : List ℕ → ℕ → ℕ
attributes_from t k = kind_cell t k 0

unfoldable pub attributes_to : List ℕ → ℕ → ℕ
attributes_to t k = kind_cell t k 1

unfoldable pub lines_from : List ℕ → ℕ → ℕ
lines_from t k = kind_cell t k 2

unfoldable pub text_at : List ℕ → ℕ → ℕ
text_at t k = kind_cell t k 4

unfoldable pub order_at : List ℕ → ℕ → ℕ
order_at t k = kind_cell t k 5

-- eight lines of children at most, and none of a kind with text
unfoldable pub lines_to : List ℕ → ℕ → ℕ
lines_to t k =
    cond (eqb (text_at t k) 0) (cond (leb (kind_cell t k 3) (lines_from t k + 8)) (kind_cell t k 3) (lines_from t k + 8)) (lines_from t k)

-- WORDS: no letters where the bounds are not in the text of letters
unfoldable pub letters_of : (t l : List ℕ) → ℕ → List ℕ
letters_of t l w = cond (leb (bound t w) (bound t (w + 1)) && leb (bound t (w + 1)) (length l))
    (take (bound t (w + 1) - bound t w) (drop (bound t w) l)) []

unfoldable pub word_at : (t l : List ℕ) → ℕ → String
word_at t l w = lettered (letters_of t l w)

-- the front part that words have in common: it is written once, and the words of a form are their rests
unfoldable pub front_letters : (t l : List ℕ) → ℕ → List ℕ
front_letters t l zero = []
front_letters t l (suc w) = letters_of t l w

unfoldable pub front_at : (t l : List ℕ) → ℕ → String
front_at t l f = lettered (front_letters t l f)

unfoldable pub fronted_at : (t l : List ℕ) (front : ℕ) → ℕ → String
fronted_at t l f w = lettered (front_letters t l f ++ letters_of t l w)

-- the word of an entry, of a part whose entries have so many numbers
unfoldable pub entry_word : (t l : List ℕ) (part size row : ℕ) → String
entry_word t l p n i = word_at t l (entry t p n i 0)

-- TEXTS
unfoldable pub text_form_by : (form most : ℕ) → TextForm
text_form_by f a =
    cond (eqb f 1) (numbers sixteen)
    (cond (eqb f 2) (numbers (wholes a))
    (cond (eqb f 3) (numbers key_list)
    (cond (eqb f 4) (numbers coded)
    any_text)))

unfoldable pub text_form_at : List ℕ → ℕ → TextForm
text_form_at t f = text_form_by (form_cell t f 0) (form_cell t f 1)

unfoldable pub attribute_by : ℕ → String → Form → AttributeRow
attribute_by zero s f = required s f
attribute_by (suc n) s f = optional s f

unfoldable pub choice_by : (other : ℕ) → String → List (Case ℕ) → Which ℕ
choice_by zero a l = chosen a l
choice_by (suc k) a l = chosen_else a l k

unfoldable pub order_by : ℕ → Order
order_by zero = any_order
order_by (suc n) = in_order

module _ (t l : List ℕ) where
  -- FORMS
  unfoldable pub form_by : (form low high third : ℕ) → Form
  form_by f a b c =
      cond (eqb f 1) (word (count_up (fronted_at t l c) a (b - a)))
      (cond (eqb f 2) (number dimension_list)
      (cond (eqb f 3) (number (whole a b))
      (cond (eqb f 4) (number decimal)
      (cond (eqb f 5) (number (exponent a))
      (cond (eqb f 6) (number (volume_dimensions a b c))
      (cond (eqb f 7) (number key)
      (cond (eqb f 8) (number colour)
      any_value)))))))

  unfoldable pub form_at : ℕ → Form
  form_at f = form_by (form_cell t f 0) (form_cell t f 1) (form_cell t f 2) (form_cell t f 3)

  -- the words of a form that is one of words
  unfoldable pub words_at : ℕ → List String
  words_at f = count_up (fronted_at t l (form_cell t f 3)) (form_cell t f 1) (form_cell t f 2 - form_cell t f 1)

  -- the words from one up to another, each behind the front part; and their rests
  abbrev pub words_from : (front from to : ℕ) → List String
  words_from front from to = count_up (fronted_at t l front) from (to - from)

  abbrev pub rests_from : (from to : ℕ) → List String
  rests_from from to = count_up (word_at t l) from (to - from)

  -- ATTRIBUTES
  unfoldable pub attribute_at : ℕ → AttributeRow
  attribute_at a = attribute_by (attribute_cell t a 2) (word_at t l (attribute_cell t a 0)) (form_at (attribute_cell t a 1))

  abbrev pub attributes_between : (from to : ℕ) → List AttributeRow
  attributes_between from to = count_up attribute_at from (to - from)

  unfoldable pub attributes_of_kind : ℕ → List AttributeRow
  attributes_of_kind k = count_up attribute_at (attributes_from t k) (attributes_to t k - attributes_from t k)

  -- CHILDREN
  unfoldable pub watched_word : String
  watched_word = word_at t l (watched t)

  unfoldable pub times_at : ℕ → Times
  times_at n =
      cond (eqb n 0) once (cond (eqb n 1) at_most_once (cond (eqb n 2) any_times (cond (eqb n 3) at_least_once (needed_below watched_word))))

  unfoldable pub case_at : ℕ → Case ℕ
  case_at i = word_at t l (case_cell t i 0) ⇒ case_cell t i 1

  abbrev pub cases_from : (from to : ℕ) → List (Case ℕ)
  cases_from from to = count_up case_at from (to - from)

  unfoldable pub cases_of : ℕ → List (Case ℕ)
  cases_of c = count_up case_at (choice_cell t c 1) (choice_cell t c 2 - choice_cell t c 1)

  unfoldable pub which_by : (choice kind : ℕ) → Which ℕ
  which_by zero k = always k
  which_by (suc c) k = choice_by (choice_cell t c 3) (word_at t l (choice_cell t c 0)) (cases_of c)

  unfoldable pub which_at : ℕ → Which ℕ
  which_at i = which_by (line_cell t i 2) (line_cell t i 3)

  unfoldable pub line_at : ℕ → ChildRow ℕ
  line_at i = child (word_at t l (line_cell t i 0)) (times_at (line_cell t i 1)) (which_at i)

  unfoldable pub lines_of_kind : ℕ → List (ChildRow ℕ)
  lines_of_kind k = count_up line_at (lines_from t k) (lines_to t k - lines_from t k)

  -- ROWS
  unfoldable pub row_by : (text order : ℕ) → List AttributeRow → List (ChildRow ℕ) → Row ℕ
  row_by zero o a r = branch a (order_by o) r
  row_by (suc f) o a r = leaf a (text_form_at t f)

  unfoldable pub rows_of : ℕ → Row ℕ
  rows_of k = row_by (text_at t k) (order_at t k) (attributes_of_kind k) (lines_of_kind k)

unfoldable pub table_words : Unit {0}
unfolding entry watched attributes_from attributes_to lines_from lines_to text_at order_at letters_of word_at front_letters front_at fronted_at
    entry_word text_form_by text_form_at attribute_by choice_by order_by form_by form_at words_at attribute_at attributes_of_kind watched_word times_at
    case_at cases_of which_by which_at line_at lines_of_kind row_by rows_of
table_words = tt
