-- THE KEYS OF ONE ARRAY, written from the start of the list lent; what lies past stays, and a refused call writes nothing.
use Rattle.std.specs.Prelude.{List, [], ℕ, zero, suc, ℤ, length, Option, Some, None}
use Rattle.grammar.specs.Document.{Element}
use Rattle.cifti.specs.Labels.{overwritten}
use Rattle.cifti.specs.Text.{Answers}
use Rattle.gifti.specs.Conditions.{keys_at, gifti_refusal}

-- what comes of a number of refusal (0: none): the keys, and none where the text is refused
unfoldable pub keys_by : (number array : ℕ) → Option Element → List ℤ
keys_by (suc n) i d = []
keys_by zero i None = []
keys_by zero i (Some e) = keys_at i e

unfoldable pub keys_given : (size array room : ℕ) → Option Element → List ℤ
keys_given size i room d = keys_by (gifti_refusal size i room d) i d

unfoldable pub keys_count : (size array room : ℕ) → Option Element → ℕ
keys_count size i room d = length (keys_given size i room d)

unfoldable pub keys_afterwards : (array : ℕ) (keys : List ℤ) (size : ℕ) → Option Element → List ℤ
keys_afterwards i keys size d = overwritten (keys_given size i (length keys) d) keys

-- THE PROMISE: number, count, and the list lent, after the call.
pub record KeysOf (text : List ℕ) (array : ℕ) (keys : List ℤ) (number count : ℕ) (keysAfter : List ℤ) : Type 0 where
  pub numbered : Answers text (gifti_refusal (length text) array (length keys)) number
  pub counted : Answers text (keys_count (length text) array (length keys)) count
  pub filled : Answers text (keys_afterwards array keys (length text)) keysAfter

unfoldable pub key_words : Unit {0}
unfolding overwritten keys_by keys_given keys_count keys_afterwards
key_words = tt
