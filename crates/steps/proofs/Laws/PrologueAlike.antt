-- What stands round the root is read alike: the declaration, blanks and comments, the end.
use Rattle.std.specs.Prelude.{◌≡◌, Bool, not, ℕ, zero, suc, ◌<◌, eqb, length}
use Rattle.std.proofs.Math.Path.{refl}
use Rattle.std.proofs.Common.{◌∙◌, arith}
use mathlib.Core.List.{List, [], ◌∷◌}
use Rattle.std.proofs.Math.Bool.{true, false}
use Rattle.lists.specs.Lists.{all}
use Rattle.grammar.specs.Bytes.{ascii, blank, quote, begins}
use Rattle.grammar.specs.Read.{Read, got, bind, alt, all_of, many_step, stops}
use Rattle.grammar.proofs.Laws.Read.{byte_sound, byte_complete, byte_other, Ok}
use Rattle.grammar.specs.Parser.{setting_at, asking, ends, encoding_if_lem, declaration_if, declaration_at, blank_at, remarked_at, aside_at}
use Rattle.grammar.specs.Parser.{no_aside, doctype_if, prologue_at, end_at}
use Rattle.grammar.proofs.Laws.Sound.{aside_sound}
use Rattle.grammar.proofs.Laws.Complete.{aside_long}
use Rattle.grammar.proofs.Laws.Unfuelled.{less, all_of_step}
use Rattle.steps.specs.LineEnds.{line_ends}
use Rattle.steps.proofs.Laws.LineEnds.{none_ends, pair_ends, lone_ends, other_ends, return_ends, View, at_end, at_return, at_other}
use Rattle.steps.proofs.Laws.LineEnds.{view}
use Rattle.steps.proofs.Laws.Alike.{Alike, both_fail, both_got, Same, Any, any_value, Ended, ended, reads, reads_any}
use Rattle.steps.proofs.Laws.Alike.{same_reads, any_reads, then_any, then_same, then_so, left_more}
use Rattle.steps.proofs.Laws.BytesAlike.{sign, quote_sign, mark_alike, begins_alike, byte_alike, blanks_alike, gap_alike, equals_alike}
use Rattle.steps.proofs.Laws.BytesAlike.{ends_alike}
use Rattle.steps.proofs.Laws.CommentsAlike.{comment_alike}
use Rattle.steps.proofs.Laws.DataAlike.{doctype_alike}

-- the declaration
setting_alike : (k v : List ℕ) → all sign k ≡ true → all sign v ≡ true → {s t : List ℕ} → Ended s t
    → Alike Same (setting_at k v s) (setting_at k v t)
unfolding setting_at quote
setting_alike k v hk hv e =
    then_any (gap_alike e) λ u w r₁ t₁ e₁.
    then_same (mark_alike k hk e₁) λ _ r₂ t₂ e₂.
    then_same (equals_alike e₂) λ _ r₃ t₃ e₃.
    then_so (byte_sound quote r₃) (byte_alike quote refl refl e₃) λ q r₄ t₄ h e₄.
    then_same (mark_alike v hv e₄) λ _ r₅ t₅ e₅. mark_alike (q ∷ []) (quote_sign q h.1) e₅

encoding_alike : (b : Bool) {s t : List ℕ} → Ended s t → Alike Same (encoding_if_lem b s) (encoding_if_lem b t)
unfolding encoding_if_lem sign all
encoding_alike true e = same_reads e
encoding_alike false e = setting_alike (ascii "encoding") (ascii "UTF-8") refl refl e

encoded_alike : {s t : List ℕ} → Ended s t → Alike Same (encoding_if_lem (ends asking s) s) (encoding_if_lem (ends asking t) t)
encoded_alike {s} ended = rw (ends_alike asking s) (encoding_alike (ends asking s) ended)

declared_alike : (b : Bool) {s t : List ℕ} → Ended s t → Alike Same (declaration_if b s) (declaration_if b t)
unfolding declaration_if sign all
declared_alike false e = same_reads e
declared_alike true e =
    then_same (mark_alike (ascii "<?xml") refl e) λ _ r₁ t₁ e₁.
    then_same (setting_alike (ascii "version") (ascii "1.0") refl refl e₁) λ _ r₂ t₂ e₂.
    then_same (encoded_alike e₂) λ _ r₃ t₃ e₃.
    then_any (blanks_alike e₃) λ u w r₄ t₄ e₄. mark_alike (ascii "?>") refl e₄

pub declaration_alike : {s t : List ℕ} → Ended s t → Alike Same (declaration_at s) (declaration_at t)
unfolding declaration_at sign all
declaration_alike {s} ended = rw (begins_alike (ascii "<?") refl s) (declared_alike (begins (ascii "<?") s) ended)

-- blanks and comments
asides : List ℕ → Read (List (List ℕ))
asides s = all_of no_aside aside_at s

aside_eats : (s : List ℕ) → Ok (λ _ r. length r < length s) (aside_at s)
aside_eats s = less (λ _ w h. aside_long h) (aside_sound s)

asides_step : (s : List ℕ) → asides s ≡ many_step (no_aside s) aside_at asides s
unfolding asides
asides_step s = all_of_step aside_at no_aside aside_eats s

asides_none : asides [] ≡ got [] []
unfolding no_aside stops begins many_step
asides_none = asides_step []

blank_passed : (a : ℕ) (s : List ℕ) → blank a ≡ true → asides (a ∷ s) ≡ bind (asides s) (λ l r. got ([] ∷ l) r)
unfolding no_aside stops aside_at blank_at many_step bind alt
blank_passed a s e = asides_step (a ∷ s) ∙ rw (e, byte_complete blank a e s)

other_step : (a : ℕ) (s : List ℕ) → blank a ≡ false
    → asides (a ∷ s) ≡ many_step (not (begins (ascii "<!-") (a ∷ s))) remarked_at asides (a ∷ s)
unfolding no_aside stops aside_at blank_at many_step bind alt
other_step a s e = asides_step (a ∷ s) ∙ rw e (go (not (begins (ascii "<!-") (a ∷ s))))
  where
    go : (t : Bool) → many_step t aside_at asides (a ∷ s) ≡ many_step t remarked_at asides (a ∷ s)
    go true = refl
    go false = rw (byte_other blank a e s)

remarked_alike : {s t : List ℕ} → Ended s t → Alike Same (remarked_at s) (remarked_at t)
unfolding remarked_at
remarked_alike e = then_same (comment_alike e) λ _ r₁ t₁ e₁. same_reads e₁

remarked_eats : (a : ℕ) (s : List ℕ) → blank a ≡ false → Ok (λ _ r. length r < length (a ∷ s)) (remarked_at (a ∷ s))
unfolding aside_at blank_at bind alt
remarked_eats a s e = rw (byte_other blank a e s) at (aside_eats (a ∷ s))

module _ (n : ℕ) (ih : (r t : List ℕ) → length r < n → Ended r t → Alike Any (asides r) (asides t)) where
  return_asides : (s : List ℕ) → length s < n → (b : Bool) → begins (ascii "\n") s ≡ b
      → Alike Any (asides (13 ∷ s)) (asides (line_ends (13 ∷ s)))
  unfolding blank
  return_asides s h true e = rw (pair_ends s e, blank_passed 13 s refl) (left_more (λ l. [] ∷ l) (ih s (line_ends s) h ended))
  return_asides s h false e = rw (lone_ends s e, blank_passed 13 s refl, blank_passed 10 (line_ends s) refl)
      (then_any (ih s (line_ends s) h ended) λ l k r t e. any_reads e)

  remark_asides : (a : ℕ) (s : List ℕ) → length s < n → eqb a 13 ≡ false → blank a ≡ false → (b : Bool)
      → Alike Any (many_step b remarked_at asides (a ∷ s)) (many_step b remarked_at asides (line_ends (a ∷ s)))
  unfolding many_step
  remark_asides a s h f e true = both_got any_value
  remark_asides a s h f e false = then_so (remarked_eats a s e) (remarked_alike ended) λ x r t l e₁.
      then_any (ih r t (omega arith) e₁) λ k m r₁ t₁ e₂. any_reads e₂

  other_asides : (a : ℕ) (s : List ℕ) → length s < n → eqb a 13 ≡ false → (b : Bool) → blank a ≡ b
      → Alike Any (asides (a ∷ s)) (asides (a ∷ line_ends s))
  unfolding sign all
  other_asides a s h f true e = rw (blank_passed a s e, blank_passed a (line_ends s) e)
      (then_any (ih s (line_ends s) h ended) λ l k r t e. any_reads e)
  other_asides a s h f false e =
      let here : begins (ascii "<!-") (a ∷ line_ends s) ≡ begins (ascii "<!-") (a ∷ s) =
      rw (other_ends a s f) at (begins_alike (ascii "<!-") refl (a ∷ s)) in
      rw (other_step a s e, other_step a (line_ends s) e, here)
      (rw (other_ends a s f) at (remark_asides a s h f e (not (begins (ascii "<!-") (a ∷ s)))))

  asides_by : {s : List ℕ} → View s → length s < suc n → Alike Any (asides s) (asides (line_ends s))
  asides_by at_end h = rw (none_ends, asides_none) (reads_any none_ends)
  asides_by (at_return s) h = return_asides s (omega arith) (begins (ascii "\n") s) refl
  asides_by (at_other a s e) h = rw (other_ends a s e) (other_asides a s (omega arith) e (blank a) refl)

asides_within : (n : ℕ) (s t : List ℕ) → length s < n → Ended s t → Alike Any (asides s) (asides t)
asides_within zero s t h e = absurd (omega arith)
asides_within (suc n) s _ h ended = asides_by n (λ r t l e. asides_within n r t l e) (view s) h

pub asides_alike : {s t : List ℕ} → Ended s t → Alike Any (all_of no_aside aside_at s) (all_of no_aside aside_at t)
unfolding asides
asides_alike {s} {t} e = asides_within (suc (length s)) s t (omega arith) e

-- with at most one DOCTYPE
typed_alike : (b : Bool) {s t : List ℕ} → Ended s t → Alike Same (doctype_if b s) (doctype_if b t)
unfolding doctype_if
typed_alike false e = same_reads e
typed_alike true e =
    then_same (doctype_alike e) λ _ r₁ t₁ e₁.
    then_any (asides_alike e₁) λ u v r₂ t₂ e₂. same_reads e₂

doctype_there : {s t : List ℕ} → Ended s t
    → Alike Same (doctype_if (begins (ascii "<!D") s) s) (doctype_if (begins (ascii "<!D") t) t)
unfolding sign all
doctype_there {s} ended = rw (begins_alike (ascii "<!D") refl s) (typed_alike (begins (ascii "<!D") s) ended)

pub prologue_alike : {s t : List ℕ} → Ended s t → Alike Same (prologue_at s) (prologue_at t)
unfolding prologue_at
prologue_alike e = then_any (asides_alike e) λ u v r₁ t₁ e₁. doctype_there e₁

-- the end
end_by : {s : List ℕ} → View s → Alike Same (end_at s) (end_at (line_ends s))
unfolding end_at
end_by at_end = rw none_ends (reads none_ends)
end_by (at_return s) = rw (return_ends s) both_fail
end_by (at_other a s e) = rw (other_ends a s e) both_fail

pub end_alike : {s t : List ℕ} → Ended s t → Alike Same (end_at s) (end_at t)
end_alike {s} ended = end_by (view s)
