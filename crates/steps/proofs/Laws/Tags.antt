-- The readers of tags, step by step.
use Rattle.std.specs.Prelude.{◌≡◌, List, ◌++◌, ℕ, ◌+◌, ◌-◌, ◌≤◌, ◌<◌, drop, take, Option, Some, None}
use Rattle.std.proofs.Math.Path.{refl, ap, sym}
use Rattle.std.proofs.Common.{◌∙◌, subst, rules, length-append, length-drop}
use native.Mathlib.Omega.{arith}
use Rattle.std.proofs.Math.ListN.{length}
use Rattle.std.proofs.Math.Seq.{take-append_seam}
use Rattle.grammar.specs.Bytes.{ascii, blank}
use Rattle.grammar.specs.Read.{Read, bind, mark, span, byte}
use Rattle.grammar.proofs.Laws.Read.{Ok, ok_got}
use Rattle.grammar.specs.Grammar.{Name}
use Rattle.grammar.specs.Parser.{name_at}
use Rattle.grammar.proofs.Laws.Sound.{name_sound}
use Rattle.steps.specs.Step.{stepped, Went}
use Rattle.steps.proofs.Laws.Step.{went, refuses, fell, at_end}
use Rattle.steps.proofs.Laws.Leaves.{span_tails, mark_tails, name_tails}
use Rattle.steps.specs.Keys.{head_at}
use Rattle.steps.proofs.Laws.Keys.{head_tails}
use Rattle.steps.specs.Tags.{ended, opened, close_at, closing_at}
use Rattle.steps.specs.declared.tags.Opened.TheVariants.{Full, Empty, Bad}
use Rattle.steps.proofs.Laws.Parsing.{stuck, follows}

module _ (text : List ℕ) (at : ℕ) where
  -- a start tag
  module _ {r : Option ℕ} (q : r ≡ stepped (length text) (head_at (drop at text))) where
    pub open_none : r ≡ None → Bad ≡ opened (length text) (head_at (drop at text))
    unfolding opened
    open_none e = rw (fell (length text) (head_at (drop at text)) (sym e ∙ q))

    module _ {i : ℕ} (e : r ≡ Some i) {r₂ : Option ℕ} (q₂ : r₂ ≡ stepped (length text) (mark (ascii ">") (drop i text))) where
      open_at : opened (length text) (head_at (drop at text))
          ≡ ended (stepped (length text) (mark (ascii ">") (drop i text))) (stepped (length text) (mark (ascii "/>") (drop i text)))
      unfolding opened
      open_at = let w = went head_at text at i (head_tails (drop at text)) (sym e ∙ q) in rw w.reads

      pub open_full : {j : ℕ} → r₂ ≡ Some j → Full j ≡ opened (length text) (head_at (drop at text))
      unfolding ended
      open_full k = sym (open_at ∙ rw (← q₂, k))

      module _ (k : r₂ ≡ None) {r₃ : Option ℕ} (q₃ : r₃ ≡ stepped (length text) (mark (ascii "/>") (drop i text))) where
        pub open_empty : {j : ℕ} → r₃ ≡ Some j → Empty j ≡ opened (length text) (head_at (drop at text))
        unfolding ended
        open_empty l = sym (open_at ∙ rw (← q₂, k, ← q₃, l))

        pub open_bad : r₃ ≡ None → Bad ≡ opened (length text) (head_at (drop at text))
        unfolding ended
        open_bad l = sym (open_at ∙ rw (← q₂, k, ← q₃, l))

-- an end tag
module _ (text : List ℕ) (at : ℕ) (name : List ℕ) {r : Option ℕ} (q : r ≡ stepped (length text) (mark (ascii "</") (drop at text))) where
  pub close_none : r ≡ None → None ≡ stepped (length text) (close_at name (drop at text))
  unfolding close_at
  close_none e = stuck (length text) (mark (ascii "</") (drop at text)) _ q e

  module _ {i : ℕ} (e : r ≡ Some i) {r₂ : Option ℕ} (q₂ : r₂ ≡ stepped (length text) (mark name (drop i text))) where
    pub close_other : r₂ ≡ None → None ≡ stepped (length text) (close_at name (drop at text))
    unfolding close_at
    close_other k = follows (mark (ascii "</")) (mark_tails (ascii "</")) text at _ q i e λ _ _. stuck (length text)
        (mark name (drop i text)) _ q₂ k

    pub close_whole : {j : ℕ} → r₂ ≡ Some j → {b : ℕ} → Some b ≡ stepped (length text) (span blank (drop j text)) → {x : Option ℕ}
        → x ≡ stepped (length text) (mark (ascii ">") (drop b text)) → x ≡ stepped (length text) (close_at name (drop at text))
    unfolding close_at
    close_whole {j} k {b} q₃ q₄ =
        follows (mark (ascii "</")) (mark_tails (ascii "</")) text at _ q i e λ _ _.
        follows (mark name) (mark_tails name) text i _ q₂ j k λ _ _.
        follows (span blank) (span_tails blank) text j _ q₃ b refl λ _ _. q₄

-- the end tag that a start tag asks for
module _ (text : List ℕ) (from at : ℕ) where
  pub closing_none : length text ≤ from → None ≡ stepped (length text) (closing_at (drop (from + 1) text) (drop at text))
  unfolding closing_at name_at byte bind
  closing_none h = let k : length text ≤ from + 1 = omega arith in
      refuses (length text) (closing_at (drop (from + 1) text) (drop at text)) (rw (at_end text (from + 1) k))

  module _ {r : Option ℕ} (q : r ≡ stepped (length text) (name_at (drop (from + 1) text))) where
    pub closing_unnamed : r ≡ None → None ≡ stepped (length text) (closing_at (drop (from + 1) text) (drop at text))
    unfolding closing_at
    closing_unnamed e = stuck (length text) (name_at (drop (from + 1) text)) _ q e

    module _ {end : ℕ} (e : r ≡ Some end) where
      pub name_went : Went name_at text (from + 1) end
      name_went = went name_at text (from + 1) end (name_tails (drop (from + 1) text)) (sym e ∙ q)

      pub name_span : from < length text → (from + 1 ≤ end) × (end ≤ length text)
      name_span h = let k : from + 1 ≤ length text = omega arith in (name_went.ahead k, name_went.inside)

      name_is : (n : List ℕ) → drop (from + 1) text ≡ n ++ drop end text → end ≤ length text
          → take (end - (from + 1)) (drop (from + 1) text) ≡ n
      name_is n h k =
          let size : end - (from + 1) ≡ length n =
          omega (arith, length-append n (drop end text), ap length h, length-drop end text, length-drop (from + 1) text) in
          rw (size, h, take-append_seam)

      pub closing_whole : {x : Option ℕ} → x
          ≡ stepped (length text) (close_at (take (end - (from + 1)) (drop (from + 1) text)) (drop at text))
          → x ≡ stepped (length text) (closing_at (drop (from + 1) text) (drop at text))
      unfolding closing_at
      closing_whole q₂ =
          follows name_at name_tails text (from + 1) (λ n _. close_at n (drop at text)) q end e λ n k.
          let sound = ok_got (subst (λ (m : Read (List ℕ)). Ok (λ n r. (drop (from + 1) text ≡ n ++ r) × Name n) m) k
          (name_sound (drop (from + 1) text))) in
          q₂ ∙ ap (λ w. stepped (length text) (close_at w (drop at text))) (name_is n sound.0 name_went.inside)

pub ruleset opening = (open_none, open_full, open_empty, open_bad, rules)

pub ruleset ending = (close_none, close_other, close_whole, rules)

pub ruleset closing = (closing_none, closing_unnamed, closing_whole, rules)
