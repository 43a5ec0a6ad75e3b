-- BASE64 FOUR LETTERS AT A TIME: what the reader answers, by what is ahead of a place.
use Rattle.std.specs.Prelude.{◌≡◌, List, [], ◌∷◌, ◌++◌, Bool, cond, ℕ, zero, suc, ◌+◌, ◌/◌, ◌%◌, ◌^◌, ◌<◌, ◌≤◌, eqb, length, get_or, Option, Some, None}
use Rattle.lists.specs.Lists.{tabulated, all_below}
use Rattle.grammar.specs.Look.{Word}
use Rattle.nodes.specs.Texts.{says_at, left}
use Rattle.base64_text.specs.Base64.{unblanked, worth, is_value, sixes, three_bytes, three_more, four_ending, four_values, decode}
use Rattle.base64_text.specs.Fours.{bytes_or}
use Rattle.base64_reader.specs.declared.Group.{Group}
use Rattle.base64_reader.specs.declared.Group.TheVariants.{Bytes, End, Bad}

-- the value of each byte, as it is lent
unfoldable pub values_lent : List ℕ
values_lent = tabulated 256 worth

-- what is ahead of a place, without its blanks
unfoldable pub letters_at : List ℕ → ℕ → Word
letters_at text i = unblanked (says_at text i)

pub record Letter (text : List ℕ) (i b j : ℕ) : Type 0 where
  pub splits : letters_at text i ≡ b ∷ letters_at text j
  pub less : left text j < left text i

pub record LetterTold (text : List ℕ) (i : ℕ) (r : Option (ℕ × ℕ)) : Type 0 where
  pub on_letter : {b j : ℕ} → r ≡ Some (b, j) → Letter text i b j
  pub on_end : r ≡ None → letters_at text i ≡ []

-- n bytes of a number, the greatest first
unfoldable pub low_bytes : ℕ → ℕ → List ℕ
low_bytes zero v = []
low_bytes (suc n) v = (v / 256 ^ n % 256) ∷ low_bytes n v

-- bytes before those of a text, if it holds some
unfoldable pub prefixed : List ℕ → Option (List ℕ) → Option (List ℕ)
prefixed l None = None
prefixed l (Some k) = Some (l ++ k)

-- the 24 bits of four values; 16777216 where one of the four is no value
unfoldable pub bits_of : (p q r s : ℕ) → ℕ
bits_of p q r s = cond (four_values p q r s) (sixes p q r s) 16777216

-- four letters by their values, the word behind them, and what it holds
unfoldable pub four_read : (p q r s : ℕ) → Word → Option (List ℕ) → Option (List ℕ)
four_read p q r s w m = cond (eqb s 65) (four_ending p q r w) (cond (four_values p q r s) (three_more (sixes p q r s) m) None)

-- The bytes of a word up to the first four letters that hold none: all its bytes where it is Base64.
unfoldable pub four_ahead : (p q r s : ℕ) → Word → List ℕ → List ℕ
four_ahead p q r s w l = cond (eqb s 65) (bytes_or (four_ending p q r w)) (cond (four_values p q r s) (three_bytes (sixes p q r s) l) [])

unfoldable pub bytes_ahead : Word → List ℕ
bytes_ahead [] = []
bytes_ahead (a ∷ []) = []
bytes_ahead (a ∷ b ∷ []) = []
bytes_ahead (a ∷ b ∷ c ∷ []) = []
bytes_ahead (a ∷ b ∷ c ∷ d ∷ w) = four_ahead (worth a) (worth b) (worth c) (worth d) w (bytes_ahead w)

-- n bytes are read, of the number v; the others are ahead of the place j, and those and n are fewer than `most`
pub record BytesTaken (text : List ℕ) (whole : Option (List ℕ)) (ahead : List ℕ) (most v n j : ℕ) : Type 0 where
  pub some_read : 1 ≤ n
  pub few : n ≤ 3
  pub small : v < 256 ^ n
  pub spelled : whole ≡ prefixed (low_bytes n v) (decode (letters_at text j))
  pub bytes : ahead ≡ low_bytes n v ++ bytes_ahead (letters_at text j)
  pub less : left text j + n < most

-- a group, where a text holds `whole` and reading finds the bytes `ahead`
pub record GroupRead (text : List ℕ) (whole : Option (List ℕ)) (ahead : List ℕ) (most : ℕ) (r : Group) : Type 0 where
  pub on_bytes : {v n j : ℕ} → r ≡ Bytes v n j → BytesTaken text whole ahead most v n j
  pub on_end : r ≡ End → (whole ≡ Some []) × (ahead ≡ [])
  pub on_bad : r ≡ Bad → (whole ≡ None) × (ahead ≡ [])

abbrev pub GroupTold : List ℕ → ℕ → Group → Type 0
GroupTold text i r = GroupRead text (decode (letters_at text i)) (bytes_ahead (letters_at text i)) (left text i) r

abbrev pub FourTold : List ℕ → (p q r s i : ℕ) → Group → Type 0
FourTold text p q r s i g =
    GroupRead text (four_read p q r s (letters_at text i) (decode (letters_at text i)))
    (four_ahead p q r s (letters_at text i) (bytes_ahead (letters_at text i))) (left text i + 4) g

-- the last bytes, with nothing behind them
pub record Lasts (whole : Option (List ℕ)) (at v n j : ℕ) : Type 0 where
  pub some_read : 1 ≤ n
  pub few : n ≤ 3
  pub small : v < 256 ^ n
  pub spelled : whole ≡ Some (low_bytes n v)
  pub stays : j ≡ at

pub record LastTold (whole : Option (List ℕ)) (at : ℕ) (r : Group) : Type 0 where
  pub on_bytes : {v n j : ℕ} → r ≡ Bytes v n j → Lasts whole at v n j
  pub on_end : r ≡ End → ⊥
  pub on_bad : r ≡ Bad → whole ≡ None

-- the 24 bits of four plain letters; 16777216 says nothing
pub record QuickGroup (text : List ℕ) (at n : ℕ) : Type 0 where
  pub told : n < 16777216 → GroupTold text at (Bytes n 3 (at + 4))
  pub inside : n < 16777216 → at + 4 ≤ length text

-- whether a letter stands k behind a place, as it is; where the text is over, none does
unfoldable pub letter_behind : List ℕ → ℕ → ℕ → Bool
letter_behind text at k = is_value (worth (get_or text (at + k) 0))

unfoldable pub sixteen_at : List ℕ → ℕ → Bool
sixteen_at text at = all_below 16 (letter_behind text at)
