-- Comments are read alike: what stands in one is passed over, and so is an end of a line, as one or as two.
use Rattle.std.specs.Prelude.{◌≡◌, List, [], ◌∷◌, Bool, true, false, ◌&&◌, ℕ, zero, suc, ◌<◌, eqb, length}
use Rattle.std.proofs.Math.Path.{refl}
use Rattle.std.proofs.Common.{sym, ◌∙◌, arith, eqb-true}
use Rattle.lists.specs.Lists.{all}
use Rattle.grammar.specs.Bytes.{ascii, blank, begins}
use Rattle.grammar.specs.Characters.{lead1}
use Rattle.grammar.specs.Read.{fail, bind, byte, mark, test, alt}
use Rattle.grammar.proofs.Laws.Read.{mark_other, alt_fail, Ok}
use Rattle.grammar.specs.Parser.{width, width_by, rest_by, rest_at, literal_at, no_dash, plain_at, dashed_at, remark_at, comment_at}
use Rattle.steps.specs.Leaves.{comment_rest_at}
use Rattle.steps.proofs.Laws.Leaves.{remark_eats}
use Rattle.steps.proofs.Laws.Until.{until_stop, until_go}
use Rattle.steps.specs.Until.{until}
use Rattle.steps.proofs.Laws.Feeds.{fed}
use Rattle.steps.specs.LineEnds.{line_ends}
use Rattle.steps.proofs.Laws.LineEnds.{none_ends, pair_ends, lone_ends, other_ends, return_ends, View, at_end, at_return, at_other}
use Rattle.steps.proofs.Laws.LineEnds.{view}
use Rattle.steps.proofs.Laws.Alike.{Alike, both_fail, Same, Ended, ended, same_reads, then_same, then_so}
use Rattle.steps.proofs.Laws.BytesAlike.{sign, mark_alike, begins_alike}
use Rattle.steps.proofs.Laws.CharactersAlike.{literal_alike}

dashes_two : (b : ℕ) (s : List ℕ) → begins (ascii "--") (45 ∷ b ∷ s) ≡ (eqb b 45 && true)
unfolding begins
dashes_two b s = refl

-- what follows `<!--`, step by step
dashes_here : (s : List ℕ) → begins (ascii "--") s ≡ true → comment_rest_at s ≡ mark (ascii "-->") s
unfolding comment_rest_at
dashes_here s e = until_stop (begins (ascii "--")) remark_at (mark (ascii "-->")) remark_eats s e

goes_on : (s : List ℕ) → begins (ascii "--") s ≡ false → comment_rest_at s ≡ bind (remark_at s) (λ _ r. comment_rest_at r)
unfolding comment_rest_at
goes_on s e = until_go (begins (ascii "--")) remark_at (mark (ascii "-->")) remark_eats s e

-- a byte that is no dash
plain_remark : (a : ℕ) (s : List ℕ) → eqb a 45 ≡ false → remark_at (a ∷ s) ≡ plain_at (a ∷ s)
unfolding remark_at dashed_at bind
plain_remark a s e = rw (mark_other 45 a [] s e) (alt_fail (plain_at (a ∷ s)) refl)

plain_on : (a : ℕ) (s : List ℕ) → eqb a 45 ≡ false → comment_rest_at (a ∷ s) ≡ bind (plain_at (a ∷ s)) (λ _ r. comment_rest_at r)
unfolding begins
plain_on a s e = goes_on (a ∷ s) (rw e) ∙ rw (plain_remark a s e)

-- a dash before one says nothing
dashed_remark : (b : ℕ) (s : List ℕ) → remark_at (45 ∷ b ∷ s) ≡ plain_at (b ∷ s)
unfolding remark_at plain_at dashed_at literal_at no_dash byte mark test bind alt
dashed_remark b s = refl

dash_drop : (b : ℕ) (s : List ℕ) → eqb b 45 ≡ false → comment_rest_at (45 ∷ b ∷ s) ≡ comment_rest_at (b ∷ s)
unfolding begins
dash_drop b s e = goes_on (45 ∷ b ∷ s) (rw e) ∙ rw (dashed_remark b s) (sym (plain_on b s e))

dash_last : comment_rest_at (45 ∷ []) ≡ fail
unfolding begins remark_at plain_at dashed_at literal_at no_dash byte mark test bind alt
dash_last = goes_on (45 ∷ []) refl

none_left : comment_rest_at [] ≡ fail
unfolding begins remark_at plain_at dashed_at literal_at no_dash byte mark test bind alt
none_left = goes_on [] refl

-- the bytes of an end of a line are passed over
return_passed : (s : List ℕ) → comment_rest_at (13 ∷ s) ≡ comment_rest_at s
unfolding plain_at literal_at no_dash rest_at width width_by rest_by lead1 blank byte test bind
return_passed s = plain_on 13 s refl

feed_passed : (s : List ℕ) → comment_rest_at (10 ∷ s) ≡ comment_rest_at s
unfolding plain_at literal_at no_dash rest_at width width_by rest_by lead1 blank byte test bind
feed_passed s = plain_on 10 s refl

plain_alike : (a : ℕ) {s t : List ℕ} → Ended s t → Alike Same (plain_at (a ∷ s)) (plain_at (a ∷ t))
unfolding plain_at
plain_alike a e = then_same (literal_alike no_dash a e) λ _ r₁ t₁ e₁. same_reads e₁

plain_eats : (a : ℕ) (s : List ℕ) → eqb a 45 ≡ false → Ok (λ _ r. length r < length (a ∷ s)) (plain_at (a ∷ s))
plain_eats a s e = rw (plain_remark a s e) at (remark_eats (a ∷ s))

module _ (n : ℕ) (ih : (r t : List ℕ) → length r < n → Ended r t → Alike Same (comment_rest_at r) (comment_rest_at t)) where
  abbrev Rest : List ℕ → List ℕ → Type 0
  Rest s t = Alike Same (comment_rest_at s) (comment_rest_at t)

  at_return_rest : (s : List ℕ) → length s < n → (b : Bool) → begins (ascii "\n") s ≡ b → Rest (13 ∷ s) (line_ends (13 ∷ s))
  at_return_rest s h true e = rw (pair_ends s e, return_passed s) (ih s (line_ends s) h ended)
  at_return_rest s h false e = rw (lone_ends s e, return_passed s, feed_passed (line_ends s)) (ih s (line_ends s) h ended)

  plain_rest : (a : ℕ) (s : List ℕ) → length s < n → eqb a 45 ≡ false → Rest (a ∷ s) (a ∷ line_ends s)
  plain_rest a s h e = rw (plain_on a s e, plain_on a (line_ends s) e)
      (then_so (plain_eats a s e) (plain_alike a ended) λ _ r₁ t₁ l e₁. ih r₁ t₁ (omega arith) e₁)

  two_dashes : (s : List ℕ) → begins (ascii "--") s ≡ true → Rest s (line_ends s)
  unfolding sign all
  two_dashes s e = rw (dashes_here s e, dashes_here (line_ends s) (begins_alike (ascii "--") refl s ∙ e))
      (mark_alike (ascii "-->") refl ended)

  dash_rest : {s : List ℕ} → View s → length s < n → Rest (45 ∷ s) (45 ∷ line_ends s)
  dash_rest at_end h = rw (none_ends, dash_last) both_fail
  dash_rest (at_return s) h = rw (return_ends s, dash_drop 13 s refl, dash_drop 10 (line_ends (fed s)) refl)
      (rw (return_ends s) at (ih (13 ∷ s) (line_ends (13 ∷ s)) h ended))
  dash_rest (at_other b s e) h = by (eqb b 45) refl
    where
      unchanged : line_ends (45 ∷ b ∷ s) ≡ 45 ∷ line_ends (b ∷ s)
      unchanged = other_ends 45 (b ∷ s) refl

      both : begins (ascii "--") (45 ∷ b ∷ s) ≡ (eqb b 45 && true)
      both = dashes_two b s

      by : (t : Bool) → eqb b 45 ≡ t → Rest (45 ∷ b ∷ s) (45 ∷ line_ends (b ∷ s))
      by true k = rw unchanged at (two_dashes (45 ∷ b ∷ s) (both ∙ rw k))
      by false k = rw (other_ends b s e, dash_drop b s k, dash_drop b (line_ends s) k)
          (rw (other_ends b s e) at (ih (b ∷ s) (line_ends (b ∷ s)) h ended))

  rest_by_view : {s : List ℕ} → View s → length s < suc n → Rest s (line_ends s)
  rest_by_view at_end h = rw (none_ends, none_left) both_fail
  rest_by_view (at_return s) h = at_return_rest s (omega arith) (begins (ascii "\n") s) refl
  rest_by_view (at_other a s e) h = rw (other_ends a s e) (by (eqb a 45) refl)
    where
      by : (t : Bool) → eqb a 45 ≡ t → Rest (a ∷ s) (a ∷ line_ends s)
      by true k = let same = eqb-true a 45 k in rw same (dash_rest (view s) (omega arith))
      by false k = plain_rest a s (omega arith) k

rest_within : (n : ℕ) (s t : List ℕ) → length s < n → Ended s t → Alike Same (comment_rest_at s) (comment_rest_at t)
rest_within zero s t h e = absurd (omega arith)
rest_within (suc n) s _ h ended = rest_by_view n (λ r t l e. rest_within n r t l e) (view s) h

pub comment_alike : {s t : List ℕ} → Ended s t → Alike Same (comment_at s) (comment_at t)
unfolding comment_at comment_rest_at until sign all
comment_alike e = then_same (mark_alike (ascii "<!--") refl e) λ _ r₁ t₁ e₁. rest_within (suc (length r₁)) r₁ t₁ (omega arith) e₁
