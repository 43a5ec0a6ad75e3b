-- The end of a line behind its carriage return: a line feed, or nothing. It is read the same, whatever it stands for.
use Rattle.std.specs.Prelude.{◌≡◌, refl, List, [], ◌∷◌, ◌++◌, ℕ, ◌+◌, ◌≤◌, ◌<◌, Bool, true, false, ◌&&◌, eqb, length, get_or, Some}
use Rattle.std.proofs.Common.{◌∙◌, arith, rules}
use Rattle.lists.proofs.Laws.Booleans.{clash}
use borrow.Author.Tests.{eq-eqb, ne_eqb, eqb-true}
use Rattle.std.proofs.Math.ListN.{drop}
use Rattle.grammar.specs.Bytes.{ascii, begins, parted}
use Rattle.grammar.specs.Grammar
use Rattle.grammar.specs.Grammar.{LineEnd}
use Rattle.grammar.specs.Read.{got, bind, mark, test}
use Rattle.grammar.specs.Parser.{stands_for, feed_if, feed_at, line_end_at}
use Rattle.steps.specs.Step.{stepped}
use Rattle.steps.proofs.Laws.Step.{at_byte, at_end, arrives}

-- what is left behind it
unfoldable pub left_by : Bool → ℕ → List ℕ → List ℕ
left_by true b s = s
left_by false b s = b ∷ s

unfoldable pub fed : List ℕ → List ℕ
fed [] = []
fed (b ∷ s) = left_by (eqb b 10) b s

pub feed_got : (v s : List ℕ) → feed_at v s ≡ got v (fed s)
unfolding feed_at feed_if stands_for begins fed left_by mark test bind
feed_got v [] = refl
feed_got v (b ∷ s) = go (eqb b 10) refl
  where
    go : (t : Bool) → eqb b 10 ≡ t → feed_at v (b ∷ s) ≡ got v (fed (b ∷ s))
    go true e = let same = eqb-true b 10 e in rw same
    go false e = rw e

pub feed_steps : (n : ℕ) (v w s : List ℕ) → stepped n (feed_at v s) ≡ stepped n (feed_at w s)
unfolding stepped
feed_steps n v w s = rw (feed_got v s, feed_got w s)

pub return_read : (v s : List ℕ) → line_end_at v (13 ∷ s) ≡ feed_at v s
unfolding line_end_at mark test bind
return_read v s = refl

-- an end of a line is a return, and what stands behind it is left
fed_alone : (s : List ℕ) → begins (ascii "\n") s ≡ false → fed s ≡ s
unfolding begins fed left_by
fed_alone [] e = refl
fed_alone (b ∷ s) e = go (eqb b 10) e
  where
    go : (t : Bool) → (t && true) ≡ false → left_by t b s ≡ b ∷ s
    go true e = clash (cc)
    go false e = refl

pub record Returns (w s : List ℕ) : Type 0 where
  pub behind : List ℕ
  pub whole : w ++ s ≡ 13 ∷ behind
  pub leaves : fed behind ≡ s

pub line_end_returns : {w : List ℕ} → LineEnd w → (s : List ℕ) → parted w s ≡ false → Returns w s
unfolding parted fed left_by
line_end_returns Grammar.pair s e = record { behind = 10 ∷ s; whole = refl; leaves = refl }
line_end_returns Grammar.lone s e = record { behind = s; whole = refl; leaves = fed_alone s e }

-- in a program
module _ (text : List ℕ) (at : ℕ) where
  abbrev Feed : ℕ → Type 0
  Feed r = Some r ≡ stepped (length text) (feed_at (ascii "\n") (drop at text))

  pub feed_none : length text ≤ at → Feed (length text)
  unfolding fed
  feed_none h =
      let e : feed_at (ascii "\n") (drop at text) ≡ got (ascii "\n") (drop (length text) text) =
      rw (at_end text at h, at_end text (length text) (omega arith)) (feed_got (ascii "\n") []) in
      arrives text (feed_at (ascii "\n") (drop at text)) (length text) (omega arith) e

  module _ (h : at < length text) where
    pub feed_there : get_or text at 0 ≡ 10 → Feed (at + 1)
    unfolding fed left_by
    feed_there e =
        let k : feed_at (ascii "\n") (drop at text) ≡ got (ascii "\n") (drop (at + 1) text) =
        feed_got (ascii "\n") (drop at text) ∙ rw (at_byte text at h, eq-eqb _ _ e) in
        arrives text (feed_at (ascii "\n") (drop at text)) (at + 1) (omega arith) k

    pub feed_not : (get_or text at 0 ≡ 10 → ⊥) → Feed at
    unfolding fed left_by
    feed_not f =
        let k : feed_at (ascii "\n") (drop at text) ≡ got (ascii "\n") (drop at text) =
        rw (at_byte text at h) (feed_got (ascii "\n") (get_or text at 0 ∷ drop (at + 1) text) ∙ rw (ne_eqb _ _ f)) in
        arrives text (feed_at (ascii "\n") (drop at text)) at (omega arith) k

pub ruleset feeding = (feed_none, feed_there, feed_not, rules)
