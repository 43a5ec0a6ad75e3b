-- Decoded bytes, one after another, from a value or from a text: what stands at a place, all that is ahead, the place behind some of it.
use Rattle.std.specs.Prelude.{◌≡◌, List, [], ◌∷◌, Bool, true, cond, ℕ, zero, suc, ◌+◌, ◌*◌, ◌-◌, ◌^◌, ◌≤◌, ◌<◌, length, drop, Option, Some, None}
use Rattle.grammar.specs.Bytes.{blank}
use Rattle.grammar.specs.Look.{Word}
use Rattle.nodes.specs.Values.{tells, decoded_at}
use Rattle.nodes.specs.Texts.{says_at, left, text_step}
use Rattle.nodes.specs.declared.Text.{Text}
use Rattle.nodes.specs.declared.Text.TheVariants.{Stop, Skip, Letter}
use Rattle.numbers.specs.Numbers.{digit}
use Rattle.numbers.specs.declared.Source.{Source}
use Rattle.numbers.specs.declared.Source.TheVariants.{Value, Contents}
use Rattle.numbers.specs.declared.Run.{Run}

-- the next decoded byte of a text: what writes no byte is passed over, at most n times
unfoldable pub letter_by : Text → (ℕ → Option (ℕ × ℕ)) → Option (ℕ × ℕ)
letter_by Stop f = None
letter_by (Skip j) f = f j
letter_by (Letter b j) f = Some (b, j)

unfoldable pub letter_within : ℕ → List ℕ → ℕ → Option (ℕ × ℕ)
letter_within zero text i = None
letter_within (suc n) text i = letter_by (text_step text i) (letter_within n text)

unfoldable pub letter_at : List ℕ → ℕ → Option (ℕ × ℕ)
letter_at text i = letter_within (suc (left text i)) text i

unfoldable pub char_at : Source → List ℕ → ℕ → Option (ℕ × ℕ)
char_at (Value q) text i = decoded_at text i q
char_at Contents text i = letter_at text i

-- all the decoded bytes from a place on
unfoldable pub stream : Source → List ℕ → ℕ → Word
stream (Value q) text i = tells q (drop i text)
stream Contents text i = says_at text i

-- the bytes ahead of a place
unfoldable pub left_in : Source → List ℕ → ℕ → ℕ
left_in (Value q) text i = length text - i
left_in Contents text i = left text i

-- the place behind the next n decoded bytes
unfoldable pub behind_by : Option (ℕ × ℕ) → ℕ → (ℕ → ℕ) → ℕ
behind_by None i f = i
behind_by (Some (b, j)) i f = f j

unfoldable pub behind : Source → List ℕ → ℕ → ℕ → ℕ
behind source text zero i = i
behind source text (suc n) i = behind_by (char_at source text i) i (behind source text n)

-- how many of the bytes at the front pass
unfoldable pub leading : (ℕ → Bool) → Word → ℕ
leading p [] = 0
leading p (a ∷ w) = cond (p a) (suc (leading p w)) 0

-- a word ends where nothing or a blank is ahead
unfoldable pub word_ends : Word → Bool
word_ends [] = true
word_ends (a ∷ w) = blank a

-- THE MODEL of a reader of digits: n is written by the k digits before
unfoldable pub digits_by : Option (ℕ × ℕ) → Run → (ℕ → ℕ → Run) → Run
digits_by None r f = r
digits_by (Some (b, j)) r f = cond (digit b) (f b j) r

unfoldable pub digits_at : Source → List ℕ → (most n k i : ℕ) → Run
digits_at source text zero n k i = record { value = n; count = k; next = i }
digits_at source text (suc m) n k i =
    digits_by (char_at source text i) (record { value = n; count = k; next = i }) λ b j. digits_at source text m (n * 10 + (b - 48)) (k + 1) j

-- a place up to which seven bytes, or those to the end of the text, are looked at
pub record Stops (text : List ℕ) (at stop : ℕ) : Type 0 where
  pub near : stop ≤ at + 7
  pub inside : at < stop → stop ≤ length text

-- a place up to which eight bytes and more stand ahead
pub record EightLeft (text : List ℕ) (last : ℕ) : Type 0 where
  pub inside : last ≤ length text
  pub ahead : 0 < last → last + 8 ≤ length text
  pub fits : last + 8 < 2 ^ 64

-- digits from one place to another
abbrev pub run_of : (n at next : ℕ) → Run
run_of n at next = record { value = n; count = next - at; next = next }

-- at most seven digits
pub record Few (run : Run) : Type 0 where
  pub few : run.count ≤ 7
  pub bound : run.value < 10 ^ run.count

-- digits that were read from a place of a text, up to another: reading goes on behind them
pub record Plain (text : List ℕ) (at stop : ℕ) (run : Run) : Type 0 where
  pub seven : Few run
  pub ahead : at ≤ run.next
  pub spans : run.count ≡ run.next - at
  pub within : at ≤ stop → run.next ≤ stop
  pub same : digits_at Contents text 7 0 0 at ≡ digits_at Contents text (7 - run.count) run.value run.count run.next

-- no blank stands there; what was read up to `next` are plain digits, if any
pub record DigitsBegun (text : List ℕ) (at value next : ℕ) : Type 0 where
  pub plain : Plain text at next (run_of value at next)
  pub starts : leading blank (stream Contents text at) ≡ 0
