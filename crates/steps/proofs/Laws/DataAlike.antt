-- CDATA is read alike, an end of a line in it as in text. In a DOCTYPE an end of a line is passed over, as one or as two.
use Rattle.std.specs.Prelude.{◌≡◌, List, [], ◌∷◌, Bool, ℕ, zero, suc, ◌<◌, eqb, length}
use Rattle.std.proofs.Math.Path.{refl}
use Rattle.std.proofs.Common.{◌∙◌, arith}
use Rattle.std.proofs.Math.Bool.{true, false}
use Rattle.lists.specs.Lists.{all}
use Rattle.grammar.specs.Bytes.{ascii, blank, begins, skipped}
use Rattle.grammar.specs.Characters.{lead1}
use Rattle.grammar.specs.Read.{fail, got, bind, byte, mark, test, alt}
use Rattle.grammar.specs.Parser.{width, width_by, rest_by, rest_at, literal_at, line_end_at, data_byte, data_character_at, data_at_lem}
use Rattle.grammar.specs.Parser.{skipped_at, doctype_at}
use Rattle.grammar.proofs.Laws.Tokens.{line_end_other}
use Rattle.steps.specs.Leaves.{doctype_rest_at}
use Rattle.steps.proofs.Laws.Leaves.{data_character_eats, skipped_eats}
use Rattle.steps.proofs.Laws.Until.{until_stop, until_go}
use Rattle.steps.specs.Until.{until}
use Rattle.steps.proofs.Laws.Feeds.{fed, feed_got, return_read}
use Rattle.steps.specs.LineEnds.{line_ends}
use Rattle.steps.proofs.Laws.LineEnds.{none_ends, pair_ends, lone_ends, other_ends, return_ends, View, at_end, at_return, at_other}
use Rattle.steps.proofs.Laws.LineEnds.{view}
use Rattle.steps.proofs.Laws.Alike.{Alike, both_fail, both_got, Same, same_value, Ended, ended, same_reads, then_same, then_so}
use Rattle.steps.proofs.Laws.Alike.{either, rows_alike}
use Rattle.steps.proofs.Laws.BytesAlike.{sign, mark_alike, begins_alike}
use Rattle.steps.proofs.Laws.CharactersAlike.{literal_alike}

-- CDATA
no_data : data_character_at [] ≡ fail
unfolding data_character_at line_end_at literal_at alt bind mark byte
no_data = refl

return_data : (s : List ℕ) → data_character_at (13 ∷ s) ≡ got (ascii "\n") (fed s)
unfolding data_character_at alt
return_data s = rw (return_read (ascii "\n") s, feed_got (ascii "\n") s)

feed_data : (s : List ℕ) → data_character_at (10 ∷ s) ≡ got (ascii "\n") s
unfolding data_character_at alt data_byte literal_at rest_at width width_by rest_by lead1 blank byte test bind
feed_data s = rw (line_end_other (ascii "\n") 10 refl s)

data_by : {s : List ℕ} → View s → Alike Same (data_character_at s) (data_character_at (line_ends s))
unfolding data_character_at
data_by at_end = rw none_ends (rw no_data both_fail)
data_by (at_return s) = rw (return_ends s) (rw (return_data s, feed_data (line_ends (fed s))) (both_got same_value))
data_by (at_other a s e) =
    rw (other_ends a s e) (rw (line_end_other (ascii "\n") a e s, line_end_other (ascii "\n") a e (line_ends s))
    (either both_fail (literal_alike data_byte a ended)))

data_character_alike : (s t : List ℕ) → Ended s t → Alike Same (data_character_at s) (data_character_at t)
data_character_alike s _ ended = data_by (view s)

pub data_alike : {s t : List ℕ} → Ended s t → Alike Same (data_at_lem s) (data_at_lem t)
unfolding data_at_lem sign all
data_alike e =
    then_same (mark_alike (ascii "<![CDATA[") refl e) λ _ r₁ t₁ e₁.
    then_same (rows_alike (begins (ascii "]]>")) data_character_at data_character_eats (begins_alike (ascii "]]>") refl)
    data_character_alike e₁) λ bs r₂ t₂ e₂.
    then_same (mark_alike (ascii "]]>") refl e₂) λ _ r₃ t₃ e₃. same_reads e₃

-- what follows `<!DOCTYPE`, step by step
closes_here : (s : List ℕ) → begins (ascii ">") s ≡ true → doctype_rest_at s ≡ mark (ascii ">") s
unfolding doctype_rest_at
closes_here s e = until_stop (begins (ascii ">")) skipped_at (mark (ascii ">")) skipped_eats s e

goes_on : (s : List ℕ) → begins (ascii ">") s ≡ false → doctype_rest_at s ≡ bind (skipped_at s) (λ _ r. doctype_rest_at r)
unfolding doctype_rest_at
goes_on s e = until_go (begins (ascii ">")) skipped_at (mark (ascii ">")) skipped_eats s e

none_left : doctype_rest_at [] ≡ fail
unfolding begins skipped_at literal_at byte bind
none_left = goes_on [] refl

return_passed : (s : List ℕ) → doctype_rest_at (13 ∷ s) ≡ doctype_rest_at s
unfolding begins skipped_at skipped literal_at rest_at width width_by rest_by lead1 blank byte test bind
return_passed s = goes_on (13 ∷ s) refl

feed_passed : (s : List ℕ) → doctype_rest_at (10 ∷ s) ≡ doctype_rest_at s
unfolding begins skipped_at skipped literal_at rest_at width width_by rest_by lead1 blank byte test bind
feed_passed s = goes_on (10 ∷ s) refl

skipped_alike : (a : ℕ) {s t : List ℕ} → Ended s t → Alike Same (skipped_at (a ∷ s)) (skipped_at (a ∷ t))
unfolding skipped_at
skipped_alike a e = then_same (literal_alike skipped a e) λ _ r₁ t₁ e₁. same_reads e₁

module _ (n : ℕ) (ih : (r t : List ℕ) → length r < n → Ended r t → Alike Same (doctype_rest_at r) (doctype_rest_at t)) where
  abbrev Rest : List ℕ → List ℕ → Type 0
  Rest s t = Alike Same (doctype_rest_at s) (doctype_rest_at t)

  return_rest : (s : List ℕ) → length s < n → (b : Bool) → begins (ascii "\n") s ≡ b → Rest (13 ∷ s) (line_ends (13 ∷ s))
  return_rest s h true e = rw (pair_ends s e, return_passed s) (ih s (line_ends s) h ended)
  return_rest s h false e = rw (lone_ends s e, return_passed s, feed_passed (line_ends s)) (ih s (line_ends s) h ended)

  other_rest : (a : ℕ) (s : List ℕ) → length s < n → eqb a 13 ≡ false → (b : Bool) → begins (ascii ">") (a ∷ s) ≡ b
      → Rest (a ∷ s) (a ∷ line_ends s)
  unfolding sign all
  other_rest a s h f b e =
      let there : begins (ascii ">") (a ∷ line_ends s) ≡ b = (rw (other_ends a s f) at (begins_alike (ascii ">") refl (a ∷ s))) ∙ e in
      go b e there
    where
      go : (b : Bool) → begins (ascii ">") (a ∷ s) ≡ b → begins (ascii ">") (a ∷ line_ends s) ≡ b → Rest (a ∷ s) (a ∷ line_ends s)
      go true e k = rw (closes_here (a ∷ s) e, closes_here (a ∷ line_ends s) k)
          (rw (other_ends a s f) at (mark_alike (ascii ">") refl {s = a ∷ s} ended))
      go false e k = rw (goes_on (a ∷ s) e, goes_on (a ∷ line_ends s) k)
          (then_so (skipped_eats (a ∷ s)) (skipped_alike a ended) λ _ r₁ t₁ l e₁. ih r₁ t₁ (omega arith) e₁)

  rest_by_view : {s : List ℕ} → View s → length s < suc n → Rest s (line_ends s)
  rest_by_view at_end h = rw (none_ends, none_left) both_fail
  rest_by_view (at_return s) h = return_rest s (omega arith) (begins (ascii "\n") s) refl
  rest_by_view (at_other a s e) h = rw (other_ends a s e) (other_rest a s (omega arith) e (begins (ascii ">") (a ∷ s)) refl)

rest_within : (n : ℕ) (s t : List ℕ) → length s < n → Ended s t → Alike Same (doctype_rest_at s) (doctype_rest_at t)
rest_within zero s t h e = absurd (omega arith)
rest_within (suc n) s _ h ended = rest_by_view n (λ r t l e. rest_within n r t l e) (view s) h

pub doctype_alike : {s t : List ℕ} → Ended s t → Alike Same (doctype_at s) (doctype_at t)
unfolding doctype_at doctype_rest_at until sign all
doctype_alike e = then_same (mark_alike (ascii "<!DOCTYPE") refl e) λ _ r₁ t₁ e₁. rest_within (suc (length r₁)) r₁ t₁ (omega arith) e₁
