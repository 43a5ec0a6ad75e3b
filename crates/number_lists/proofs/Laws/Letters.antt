-- A byte of a text that is not odd reads as itself.
use Rattle.std.specs.Prelude.{◌≡◌, List, Bool, false, ◌||◌, ℕ, ◌+◌, ◌<◌, eqb, length, get_or, Some}
use Rattle.std.proofs.Common.{sym, ◌∙◌, rules}
use Rattle.lists.proofs.Laws.Booleans.{or_left, or_right}
use Rattle.grammar.specs.Bytes.{special}
use Rattle.nodes.proofs.Laws.Letters.{plain_letter}
use Rattle.numbers.specs.Stream.{letter_at}
use Rattle.numbers.proofs.Laws.Stream.{letter_byte}
use Rattle.number_lists.specs.Letters.{odd}

pub itself : (text : List ℕ) (i : ℕ) → i < length text → {b : ℕ} → b ≡ get_or text i 0 → {t : Bool} → t ≡ odd b → t ≡ false
    → Some (b, (i + 1)) ≡ letter_at text i
unfolding odd
itself text i h {b} eb {t} e f =
    let a : ℕ = get_or text i 0 in
    let o : (special a || eqb a 13) ≡ false = rw (← eb) (sym e ∙ f) in
    rw eb (sym (letter_byte text i (plain_letter text i h (or_left (special a) (eqb a 13) o) (or_right (special a) (eqb a 13) o))))

pub ruleset reading_itself = (itself, rules)
