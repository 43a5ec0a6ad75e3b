-- THE KEYS OF AN ARRAY, in whatever encoding: those that are ahead of a place. Where the text is in form, all keys are ahead of its
-- start (Laws.Ahead); where it is not, those before the first word, or the first four letters, out of form.
use Rattle.std.specs.Prelude.{◌≡◌, List, [], ◌∷◌, ◌++◌, Bool, true, false, cond, ℕ, ◌%◌, ◌<◌, ltb, ℤ, length, Option, Some, None}
use Rattle.grammar.specs.Look.{Word}
use Rattle.nodes.specs.Texts.{says_at, left, inside}
use Rattle.numbers.specs.Numbers.{words, key, key_value}
use Rattle.base64_text.specs.Fours.{Endian, big, little, keys_in}
use Rattle.base64_reader.specs.Groups.{letters_at, low_bytes, bytes_ahead}
use Rattle.array_keys.specs.declared.Encoding.{Encoding}
use Rattle.array_keys.specs.declared.Encoding.TheVariants.{Plain, Big, Little}
use Rattle.array_keys.specs.declared.KeyPlace.{KeyPlace}
use Rattle.array_keys.specs.declared.NextKey.{NextKey}
use Rattle.array_keys.specs.declared.NextKey.TheVariants.{Key, End}

-- the keys that words write, up to the first that is none
unfoldable pub keys_before : List Word → List ℤ
keys_before [] = []
keys_before (w ∷ l) = cond (key w) (key_value w ∷ keys_before l) []

-- the bytes that are read and not yet given: three at most
unfoldable pub held_bytes : KeyPlace → List ℕ
held_bytes p = cond (ltb p.bytes 4) (low_bytes p.bytes p.held) []

-- the bytes from a place on: those held, and those ahead
unfoldable pub bytes_from : List ℕ → KeyPlace → List ℕ
bytes_from text p = held_bytes p ++ bytes_ahead (letters_at text p.at)

unfoldable pub coded_ahead : Endian → List ℕ → KeyPlace → List ℤ
coded_ahead e text p = keys_in e (bytes_from text p)

-- THE KEYS AHEAD of a place
unfoldable pub keys_ahead : Encoding → List ℕ → KeyPlace → List ℤ
keys_ahead Plain text p = keys_before (words (says_at text p.at))
keys_ahead Big text p = coded_ahead big text p
keys_ahead Little text p = coded_ahead little text p

-- how many bytes are left over behind the last key: fewer than four, and none behind words
unfoldable pub spare_bytes : Encoding → List ℕ → KeyPlace → ℕ
spare_bytes Plain text p = 0
spare_bytes Big text p = length (bytes_from text p) % 4
spare_bytes Little text p = length (bytes_from text p) % 4

-- the order of bytes that a program keeps as a test, and the encoding with it
unfoldable pub endian_if : Bool → Endian
endian_if true = little
endian_if false = big

unfoldable pub encoding_if : Bool → Encoding
encoding_if true = Little
encoding_if false = Big

-- how much is left: falls from each key to the next
unfoldable pub keys_left : List ℕ → KeyPlace → ℕ
keys_left text p = left text p.at

-- where the keys of the element at a place begin: an empty tag has none
unfoldable pub key_start_in : List ℕ → Option ℕ → KeyPlace
key_start_in text None = record { at = length text; held = 0; bytes = 0 }
key_start_in text (Some i) = record { at = i; held = 0; bytes = 0 }

unfoldable pub keys_start : List ℕ → ℕ → KeyPlace
keys_start text at = key_start_in text (inside text at)

-- What `key_next` promises: the next key, the others being ahead of the place behind it, or that there is none, and how many bytes are
-- left over.
pub data KeyTold (encoding : Encoding) (text : List ℕ) (p : KeyPlace) : NextKey → Type 0 where
  told_key : {z : ℤ} {q : KeyPlace} → keys_ahead encoding text p ≡ z ∷ keys_ahead encoding text q
      → spare_bytes encoding text p ≡ spare_bytes encoding text q → keys_left text q < keys_left text p → KeyTold encoding text p (Key z q)
  told_end : {n : ℕ} → keys_ahead encoding text p ≡ [] → n ≡ spare_bytes encoding text p → KeyTold encoding text p (End n)
