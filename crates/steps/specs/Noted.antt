-- Names that were met before, kept by their places in the text.

use Rattle.std.specs.Prelude.{List, [], ◌∷◌, ◌++◌, ℕ, zero, suc, ◌-◌, ◌≤◌, ◌<◌, Bool, false, ◌||◌, length, get_or, take, drop}
use Rattle.grammar.specs.Parser.{same_bytes}

-- the bytes from a place up to another
abbrev pub part : ℕ → ℕ → List ℕ → List ℕ
part a b text = take (b - a) (drop a text)

-- a word is among others
unfoldable pub among : List ℕ → List (List ℕ) → Bool
among w [] = false
among w (m ∷ l) = same_bytes m w || among w l

-- the words at the first n places
unfoldable pub noted : List ℕ → List ℕ → List ℕ → ℕ → List (List ℕ)
noted text starts ends zero = []
noted text starts ends (suc k) = noted text starts ends k ++ (part (get_or starts k 0) (get_or ends k 0) text ∷ [])

-- places are in the text
pub record Spans (text starts ends : List ℕ) (n : ℕ) : Type 0 where
  pub few : n ≤ 16
  pub ahead : (k : ℕ) → k < n → get_or starts k 0 ≤ get_or ends k 0
  pub inside : (k : ℕ) → k < n → get_or ends k 0 ≤ length text

pub record Within (text starts ends : List ℕ) (n from to : ℕ) : Type 0 where
  pub spans : Spans text starts ends n
  pub ahead : from ≤ to
  pub inside : to ≤ length text
