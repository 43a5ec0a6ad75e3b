-- THE BYTES OF THE CARD: each line is words with single spaces, and ends with a line feed.
use Rattle.std.specs.Prelude.{◌≡◌, List, [], ◌∷◌, ◌++◌, cond, ℕ, zero, suc, ◌+◌, ◌/◌, ◌%◌, ◌≤◌, ltb, leb, length, take}
use Rattle.lists.specs.Lists.{each_in}
use Rattle.grammar.specs.Bytes.{ascii}
use Rattle.grammar.specs.Look.{Word}
use Rattle.records.specs.Fill.{wrote}
use Rattle.cifti.specs.declared.answer.Answer.{Answer}
use Rattle.cifti.specs.Maps.{kind_word}
use Rattle.card.specs.Card.{card}
use Rattle.card.specs.declared.line.Line.{Line}
use Rattle.card.specs.declared.line.Line.TheVariants.{Accepted, Refused, Map, MapAt, Surface, Voxel, End}

-- a number of at most so many digits, without leading zeros
unfoldable pub in_tens_up_to : (most : ℕ) → ℕ → Word
in_tens_up_to zero n = []
in_tens_up_to (suc m) n = cond (ltb n 10) ((48 + n) ∷ []) (in_tens_up_to m (n / 10) ++ ((48 + n % 10) ∷ []))

-- twenty digits hold every number of 64 bits
unfoldable pub in_tens : ℕ → Word
in_tens n = in_tens_up_to 20 n

unfoldable pub spaced : List Word → List ℕ
spaced [] = []
spaced (w ∷ []) = w ++ (10 ∷ [])
spaced (w ∷ v ∷ l) = w ++ (32 ∷ spaced (v ∷ l))

unfoldable pub words_of : Line → List Word
words_of Accepted = ascii "ok" ∷ []
words_of (Refused number) = ascii "refused" ∷ in_tens number ∷ []
words_of (Map d kind length) = in_tens d ∷ kind_word kind ∷ in_tens length ∷ []
words_of (MapAt d kind length start) = in_tens d ∷ kind_word kind ∷ in_tens length ∷ in_tens start.0 ∷ []
words_of (Surface index structure vertex) = in_tens index.0 ∷ ascii "S" ∷ in_tens structure ∷ in_tens vertex.0 ∷ []
words_of (Voxel index structure i j k) = in_tens index.0 ∷ ascii "V" ∷ in_tens structure ∷ in_tens i ∷ in_tens j ∷ in_tens k ∷ []
words_of End = []

unfoldable pub line_bytes : Line → List ℕ
line_bytes l = spaced (words_of l)

-- the whole output
unfoldable pub card_bytes : Answer → (records : List ℕ) → List ℕ
card_bytes a records = each_in line_bytes (card a records)

-- ---- Written from the start of a lent slice, what lies past left as it was; nothing where the slice is too short.

pub record WritesOut (bytes out : List ℕ) (count : ℕ) (outAfter : List ℕ) : Type 0 where
  pub counted : count ≡ cond (leb (length bytes) (length out)) (length bytes) 0
  pub filled : outAfter ≡ cond (leb (length bytes) (length out)) (wrote 0 bytes out) out

-- so many bytes are there at the start
abbrev pub IsPrefixLen : (count : ℕ) → (bytes : List ℕ) → Type 0
IsPrefixLen n bytes = (n ≤ length bytes) × (n ≡ length (take n bytes))

-- one word with a byte behind it, at a place
pub record Puts (word : Word) (then at : ℕ) (out : List ℕ) (next : ℕ) (outAfter : List ℕ) : Type 0 where
  pub behind : next ≡ at + (length word + 1)
  pub short : length word ≤ 20
  pub filled : outAfter ≡ wrote at (word ++ (then ∷ [])) out

-- bytes from the start of a slice that is long enough
pub record Spells (bytes : List ℕ) (count : ℕ) (outAfter : List ℕ) : Type 0 where
  pub counted : count ≡ length bytes
  pub short : count ≤ 128
  pub are : take count outAfter ≡ bytes

unfoldable pub written_words : Unit {0}
unfolding in_tens_up_to in_tens spaced words_of line_bytes card_bytes
written_words = tt
