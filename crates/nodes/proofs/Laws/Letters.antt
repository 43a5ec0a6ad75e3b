-- Plain bytes of a text: one that is neither `<` nor `&` nor a carriage return reads as itself; a return and its line feed read as one.
use Rattle.std.specs.Prelude.{◌≡◌, List, ◌∷◌, false, ℕ, suc, ◌+◌, ◌-◌, ◌<◌, eqb}
use Rattle.std.proofs.Math.Path.{refl}
use Rattle.std.proofs.Common.{arith, add-one}
use Rattle.std.proofs.Math.ListN.{length, drop, get_or, length-drop}
use Rattle.std.proofs.Math.Seq.{drop-cons}
use Rattle.lists.proofs.Laws.Booleans.{or_left, or_right}
use Rattle.grammar.specs.Bytes.{ascii, special}
use Rattle.grammar.specs.Parser.{look, look_if}
use Rattle.grammar.proofs.Laws.Tokens.{reference_other, line_end_other}
use Rattle.steps.specs.Leaves.{first_byte}
use Rattle.steps.proofs.Laws.Feeds.{fed, feed_got, return_read}
use Rattle.nodes.specs.TextBytes.{outside, step, step_by, bare_char, referring, char}
use Rattle.nodes.specs.Texts.{place_of, text_step, as_text}
use Rattle.nodes.proofs.Laws.TextSteps.{rest_outside}
use Rattle.nodes.specs.declared.Text.TheVariants.{Letter}

plain_step : (a : ℕ) (s : List ℕ) → special a ≡ false → eqb a 13 ≡ false → step (outside (a ∷ s)) ≡ char a (outside s)
unfolding step step_by bare_char look look_if referring special
plain_step a s e f =
    rw (or_left (eqb a 60) (eqb a 38) e, reference_other a (or_right (eqb a 60) (eqb a 38) e) s, line_end_other (ascii "\n") a f s) refl

return_step : (s : List ℕ) → step (outside (13 ∷ s)) ≡ char 10 (outside (fed s))
unfolding step step_by bare_char look look_if referring first_byte
return_step s = rw (reference_other 13 refl s, return_read (ascii "\n") s, feed_got (ascii "\n") s) refl

module _ (text : List ℕ) (i : ℕ) (h : i < length text) where
  pub plain_letter : special (get_or text i 0) ≡ false → eqb (get_or text i 0) 13 ≡ false
      → text_step text i ≡ Letter (get_or text i 0) (i + 1)
  unfolding text_step as_text place_of
  plain_letter e f =
      let d : drop i text ≡ get_or text i 0 ∷ drop (suc i) text = drop-cons text i 0 h in
      let n : length text - length (drop (suc i) text) ≡ i + 1 = omega (arith, length-drop (suc i) text) in
      rw (rest_outside text i (omega arith), d, plain_step (get_or text i 0) (drop (suc i) text) e f, n) refl

  pub return_letter : get_or text i 0 ≡ 13 → text_step text i ≡ Letter 10 (length text - length (fed (drop (i + 1) text)))
  unfolding text_step as_text place_of
  return_letter e =
      let d : drop i text ≡ get_or text i 0 ∷ drop (suc i) text = drop-cons text i 0 h in
      rw (rest_outside text i (omega arith), d, e, return_step (drop (suc i) text), add-one) refl
