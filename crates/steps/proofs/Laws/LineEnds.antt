-- The standard's sentence, as equations: a pair, a return alone, any other byte. And no carriage return is left.
use Rattle.std.specs.Prelude.{◌≡◌, refl, List, [], ◌∷◌, Bool, true, false, ℕ, eqb}
use Rattle.std.proofs.Common.{eqb-true}
use Rattle.lists.proofs.Laws.Booleans.{not_so}
use Rattle.grammar.specs.Bytes.{ascii, begins, Each, no_byte, a_byte}
use Rattle.grammar.proofs.Laws.Others.{other}
use Rattle.steps.proofs.Laws.Feeds.{left_by, fed}
use Rattle.steps.specs.LineEnds.{translated, line_ends}

pub none_ends : line_ends [] ≡ []
unfolding line_ends
none_ends = refl

pub pair_ends : (s : List ℕ) → begins (ascii "\n") s ≡ true → line_ends (13 ∷ s) ≡ line_ends s
unfolding line_ends translated
pair_ends s e = rw e

pub lone_ends : (s : List ℕ) → begins (ascii "\n") s ≡ false → line_ends (13 ∷ s) ≡ 10 ∷ line_ends s
unfolding line_ends translated
lone_ends s e = rw e

pub other_ends : (a : ℕ) (s : List ℕ) → eqb a 13 ≡ false → line_ends (a ∷ s) ≡ a ∷ line_ends s
unfolding line_ends translated
other_ends a s e = rw e

pub two_ends : (s : List ℕ) → line_ends (13 ∷ 10 ∷ s) ≡ 10 ∷ line_ends s
unfolding line_ends translated begins
two_ends s = refl

pub feed_ends : (s : List ℕ) → line_ends (10 ∷ s) ≡ 10 ∷ line_ends s
feed_ends s = other_ends 10 s refl

-- either way a line feed stands there, and then what the end of the line leaves
pub return_ends : (s : List ℕ) → line_ends (13 ∷ s) ≡ 10 ∷ line_ends (fed s)
unfolding fed left_by begins
return_ends [] = lone_ends [] refl
return_ends (b ∷ s) = go (eqb b 10) refl
  where
    go : (t : Bool) → eqb b 10 ≡ t → line_ends (13 ∷ b ∷ s) ≡ 10 ∷ line_ends (fed (b ∷ s))
    go true e = let same = eqb-true b 10 e in rw same (two_ends s)
    go false e = rw e (lone_ends (b ∷ s) (rw e))

-- a text, by its first byte
pub data View : List ℕ → Type 0 where
  at_end : View []
  at_return : (s : List ℕ) → View (13 ∷ s)
  at_other : (a : ℕ) (s : List ℕ) → eqb a 13 ≡ false → View (a ∷ s)

pub view : (s : List ℕ) → View s
view [] = at_end
view (a ∷ s) = go (eqb a 13) refl
  where
    go : (t : Bool) → eqb a 13 ≡ t → View (a ∷ s)
    go true e = let same = eqb-true a 13 e in rw same (at_return s)
    go false e = at_other a s e

-- NO RETURN IS LEFT
pub no_return_left : (s : List ℕ) → Each (other 13) (line_ends s)
unfolding line_ends translated other
no_return_left [] = no_byte
no_return_left (a ∷ s) = go (eqb a 13) (begins (ascii "\n") s) refl (no_return_left s)
  where
    go : (t u : Bool) → eqb a 13 ≡ t → Each (other 13) (line_ends s) → Each (other 13) (translated t u a (line_ends s))
    go true true e h = h
    go true false e h = a_byte refl h
    go false u e h = a_byte (not_so e) h
