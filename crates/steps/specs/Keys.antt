-- The name of an attribute, and the head of a tag: parts of the grammar's readers, with their places.
use Rattle.std.specs.Prelude.{List, ℕ, ◌-◌, length, Option, Some, None}
use Rattle.grammar.specs.Bytes.{ascii, blank}
use Rattle.grammar.specs.Document.{Attribute}
use Rattle.grammar.specs.Read.{Read, fail, got, Reader, bind, ◌>>=◌, ◌>>◌, pure, mark, span}
use Rattle.grammar.specs.Parser.{name_at, gap_at, equals_at, value_at, attributes_at}
use Rattle.steps.specs.Step.{Went}
use Rattle.steps.specs.declared.attributes.Key.{Key}

-- how many bytes are left where a name begins, and where it ends
pub data Spots : Type 0 where
  spots : (from to : ℕ) → Spots

-- blanks, a name and `=`
unfoldable pub key_at : Reader Spots
key_at s = bind (gap_at s) (λ _ s₁. bind (name_at s₁) (λ _ s₂. bind (equals_at s₂) (λ _ s₃. got (spots (length s₁) (length s₂)) s₃)))

-- an attribute
unfoldable pub named_at : Reader Spots
named_at s = bind (key_at s) (λ k r. bind (value_at r) (λ _ r₁. got k r₁))

-- what the program answers, in a text of `n` bytes
unfoldable pub keyed : ℕ → Read Spots → Option Key
keyed n fail = None
keyed n (got (spots a b) r) = Some (record { from = (n - a); to = (n - b); end = (n - length r) })

-- a tag up to its end: `<`, name, attributes, blanks
pub data Head : Type 0 where
  head : (name : List ℕ) (attributes : List Attribute) → Head

unfoldable pub head_at : Reader Head
head_at = do
  mark (ascii "<")
  n ← name_at
  l ← attributes_at
  span blank
  pure (head n l)

-- the places of a key
pub record Keyed (text : List ℕ) (at from to end : ℕ) : Type 0 where
  pub gap : Went gap_at text at from
  pub name : Went name_at text from to
  pub equals : Went equals_at text to end

-- the places of an attribute
pub record Named (text : List ℕ) (at from to end : ℕ) : Type 0 where
  pub middle : ℕ
  pub key : Keyed text at from to middle
  pub value : Went value_at text middle end
