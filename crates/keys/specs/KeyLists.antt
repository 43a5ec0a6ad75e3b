-- THE NEXT KEY of a list in a text: what each answer says of the words that are ahead.
use Rattle.std.specs.Prelude.{◌≡◌, List, [], ◌∷◌, Bool, true, false, ℕ, ◌<◌, ℤ}
use Rattle.grammar.specs.Bytes.{blank}
use Rattle.grammar.specs.Look.{Word}
use Rattle.nodes.specs.Texts.{says_at, left}
use Rattle.numbers.specs.Numbers.{words, key, key_value}
use Rattle.keys.specs.declared.key_lists.ListedKey.{ListedKey}
use Rattle.keys.specs.declared.key_lists.ListedKey.TheVariants.{Key, End, Bad}

-- The first of the words writes the key z; the others are ahead of the place j, and fewer bytes than `most` are.
pub record FirstKey (text : List ℕ) (ahead : List Word) (most : ℕ) (z : ℤ) (j : ℕ) : Type 0 where
  pub word : Word
  pub in_form_lem : key word ≡ true
  pub valued : z ≡ key_value word
  pub splits : ahead ≡ word ∷ words (says_at text j)
  pub less : left text j < most

-- The first of the words is no key.
pub record NoKey (ahead : List Word) : Type 0 where
  pub word : Word
  pub others : List Word
  pub out_of_form : key word ≡ false
  pub splits : ahead ≡ word ∷ others

pub record KeyRead (text : List ℕ) (ahead : List Word) (most : ℕ) (r : ListedKey) : Type 0 where
  pub on_key : {z : ℤ} {j : ℕ} → r ≡ Key z j → FirstKey text ahead most z j
  pub on_end : r ≡ End → ahead ≡ []
  pub on_bad : r ≡ Bad → NoKey ahead

-- what `next_key` promises: the first of the words from a place on
abbrev pub ListedKeyTold : List ℕ → ℕ → ListedKey → Type 0
ListedKeyTold text i r = KeyRead text (words (says_at text i)) (left text i) r

-- a word with the sign that was read
unfoldable pub spelled : Bool → Word → Word
spelled true w = 45 ∷ w
spelled false w = w

-- The sign was read before a place: a minus, or none, and what stands there is neither a blank nor a minus.
pub data SignRead (text : List ℕ) (at : ℕ) : Bool → Type 0 where
  minus_read : SignRead text at true
  none_read : {b : ℕ} {x : Word} → says_at text at ≡ b ∷ x → blank b ≡ false → (b ≡ 45 → ⊥) → SignRead text at false
