-- Values, behind their quote and before it.
use Rattle.std.specs.Prelude.{◌≡◌, ℕ, Bool, ◌||◌}
use Rattle.std.proofs.Math.Path.{refl, ap, sym}
use Rattle.std.proofs.Common.{◌∙◌}
use mathlib.Core.List.{List, [], ◌∷◌}
use Rattle.std.proofs.Math.Bool.{true, false}
use Rattle.std.proofs.Math.Dec.{eqb}
use borrow.Author.Tests.{eqb-true}
use Rattle.grammar.specs.Bytes.{ascii, blank, special, quote, begins}
use Rattle.grammar.specs.Document.{together}
use Rattle.grammar.specs.Read.{fail, got, bind, mark, byte, alt}
use Rattle.grammar.proofs.Laws.Read.{byte_complete, byte_other}
use Rattle.grammar.proofs.Laws.Facts.{no_return}
use Rattle.grammar.proofs.Laws.Tokens.{reference_other, line_end_other}
use Rattle.grammar.specs.Parser.{reference_at, spacing, space_at, value_byte, value_character_at, value_at, literal_at}
use Rattle.steps.specs.Until.{until}
use Rattle.steps.proofs.Laws.Until.{until_stop, until_go}
use Rattle.steps.proofs.Laws.Feeds.{left_by, fed, feed_got, return_read}
use Rattle.steps.specs.Leaves.{value_rest_at}
use Rattle.steps.proofs.Laws.Leaves.{literal_not, value_character_eats}
use Rattle.stream.specs.Jobs.{ampersand, quoted, valuing, lead, quote_of, change_quoted, change_valuing}
use Rattle.stream.proofs.Laws.Meets.{Passing, leads, meets, meets_all, changed, leads_bind, leads_same, leads_value, leads_fail}
use Rattle.stream.proofs.Laws.Meets.{leads_got, leads_first, alt_second, by_test}
use Rattle.stream.proofs.Laws.Leaves.{mark_by, literal_law, lead_blank}
use Rattle.stream.proofs.Laws.Remarks.{begins_one}

-- the characters of a value by their first byte
space_other : (a : ℕ) (s : List ℕ) → spacing a ≡ false → space_at (a ∷ s) ≡ fail
unfolding space_at bind
space_other a s e = rw (byte_other spacing a e s)

module _ (q : ℕ) where
  special_out : (a : ℕ) → special a ≡ true → value_byte q a ≡ false
  unfolding value_byte
  special_out a e = rw e

  value_return : (s : List ℕ) → value_character_at q (13 ∷ s) ≡ got (ascii " ") (fed s)
  unfolding value_character_at alt
  value_return s = let known = return_read (ascii " ") s in let read = feed_got (ascii " ") s in rw (reference_other 13 refl s, known, read)

  value_space : (a : ℕ) (s : List ℕ) → eqb a 38 ≡ false → eqb a 13 ≡ false → blank a ≡ true
      → value_character_at q (a ∷ s) ≡ got (ascii " ") s
  unfolding value_character_at alt space_at bind spacing
  value_space a s e h b =
      let spaces : spacing a ≡ true = rw (b, h) in
      rw (reference_other a e s, line_end_other (ascii " ") a h s, byte_complete spacing a spaces s)

  -- no blank, and no reference
  value_other : (a : ℕ) (s : List ℕ) → eqb a 38 ≡ false → blank a ≡ false → value_character_at q (a ∷ s) ≡ literal_at (value_byte q) (a ∷ s)
  unfolding value_character_at spacing
  value_other a s e b =
      let spaces : spacing a ≡ false = rw b in
      alt_second _ _ (reference_other a e s) ∙ alt_second _ _ (line_end_other (ascii " ") a (no_return a b) s)
      ∙ alt_second _ _ (space_other a s spaces)

quote_no_feed : (b : Bool) → eqb 10 (quote_of b) ≡ false
unfolding quote_of
quote_no_feed true = refl
quote_no_feed false = refl

module _ (b : Bool) (k : Passing) where
  abbrev stop : List ℕ → Bool
  stop = begins (quote_of b ∷ [])

  value_stops : (a : ℕ) (s : List ℕ) → eqb a (quote_of b) ≡ true → meets (valuing b) k (a ∷ s) ≡ k s
  unfolding meets value_rest_at mark
  value_stops a s e =
      leads_got _ _
      (until_stop stop (value_character_at (quote_of b)) (mark (quote_of b ∷ [])) (value_character_eats (quote_of b)) (a ∷ s)
      (begins_one (quote_of b) a s ∙ e)
      ∙ mark_by (quote_of b) a [] s e)

  value_goes : (a : ℕ) (s : List ℕ) → eqb a (quote_of b) ≡ false
      → meets (valuing b) k (a ∷ s) ≡ leads (value_character_at (quote_of b) (a ∷ s)) (λ _ r. meets (valuing b) k r)
  unfolding meets value_rest_at
  value_goes a s e =
      ap (λ m. leads m (λ _ r. k r))
      (until_go stop (value_character_at (quote_of b)) (mark (quote_of b ∷ [])) (value_character_eats (quote_of b)) (a ∷ s)
      (begins_one (quote_of b) a s ∙ e))
      ∙ leads_bind (value_character_at (quote_of b) (a ∷ s)) _ _

  -- a line feed right behind a carriage return is a blank too
  value_feed : (s : List ℕ) → meets (valuing b) k (fed s) ≡ meets (valuing b) k s
  unfolding fed left_by blank
  value_feed [] = refl
  value_feed (c ∷ s) = go (eqb c 10) refl
    where
      fed_ten : meets (valuing b) k (10 ∷ s) ≡ meets (valuing b) k s
      fed_ten = value_goes 10 s (quote_no_feed b) ∙ leads_got _ _ (value_space (quote_of b) 10 s refl refl refl)

      go : (t : Bool) → eqb c 10 ≡ t → meets (valuing b) k (left_by t c s) ≡ meets (valuing b) k (c ∷ s)
      go true e = let q = eqb-true c 10 e in rw q (sym fed_ten)
      go false e = refl

  abbrev reads_value : List ℕ → Bool
  reads_value s = leads (value_character_at (quote_of b) s) (λ _ r. meets (valuing b) k r)

  value_refers : (s : List ℕ) → reads_value (38 ∷ s) ≡ meets ampersand (meets (valuing b) k) s
  unfolding value_character_at spacing blank special meets
  value_refers s =
      leads_first (reference_at (38 ∷ s)) _ _
      (alt_second _ _ (line_end_other (ascii " ") 38 refl s) ∙ alt_second _ _ (space_other 38 s refl)
      ∙ literal_not (value_byte (quote_of b)) 38 s (special_out (quote_of b) 38 refl))

  value_less : (s : List ℕ) → reads_value (60 ∷ s) ≡ false
  unfolding blank special
  value_less s =
      leads_fail _ _ (value_other (quote_of b) 60 s refl refl ∙ literal_not (value_byte (quote_of b)) 60 s (special_out (quote_of b) 60 refl))

  value_blank : (a : ℕ) (s : List ℕ) → eqb a 38 ≡ false → blank a ≡ true → reads_value (a ∷ s) ≡ changed (lead a (valuing b ∷ [])) k a s
  unfolding changed meets_all
  value_blank a s e h = go (eqb a 13) refl ∙ sym (ap (λ c. changed c k a s) (lead_blank a (valuing b ∷ []) h))
    where
      go : (t : Bool) → eqb a 13 ≡ t → reads_value (a ∷ s) ≡ meets (valuing b) k s
      go true r = let q = eqb-true a 13 r in rw q (leads_got _ _ (value_return (quote_of b) s) ∙ value_feed s)
      go false r = leads_got _ _ (value_space (quote_of b) a s e r h)

  value_literal : (a : ℕ) (s : List ℕ) → eqb a (quote_of b) ≡ false → eqb a 38 ≡ false → eqb a 60 ≡ false → blank a ≡ false
      → reads_value (a ∷ s) ≡ changed (lead a (valuing b ∷ [])) k a s
  unfolding meets_all value_byte special
  value_literal a s e₁ e₂ e₃ e₄ =
      let free : value_byte (quote_of b) a ≡ true = rw (e₁, e₂, e₃, e₄) in
      ap (λ m. leads m (λ _ r. meets (valuing b) k r)) (value_other (quote_of b) a s e₂ e₄)
      ∙ literal_law (value_byte (quote_of b)) (valuing b ∷ []) k a s free

  pub valuing_law : (a : ℕ) (s : List ℕ) → meets (valuing b) k (a ∷ s) ≡ changed (change_valuing b a) k a s
  unfolding meets_all changed change_valuing
  valuing_law a s =
      by_test (eqb a (quote_of b)) _ _ k a s (value_stops a s) λ e₁.
      value_goes a s e₁
      ∙ by_test (eqb a 38) _ _ k a s (λ e. let z = eqb-true a 38 e in rw z (value_refers s)) λ e₂.
      by_test (eqb a 60) _ _ k a s (λ e. let z = eqb-true a 60 e in rw z (value_less s)) λ e₃. go (blank a) refl e₁ e₂ e₃
    where
      go : (t : Bool) → blank a ≡ t → eqb a (quote_of b) ≡ false → eqb a 38 ≡ false → eqb a 60 ≡ false
          → reads_value (a ∷ s) ≡ changed (lead a (valuing b ∷ [])) k a s
      go true h e₁ e₂ e₃ = value_blank a s e₂ h
      go false h e₁ e₂ e₃ = value_literal a s e₁ e₂ e₃ h

-- behind a quote
value_behind : (k : Passing) (q : ℕ) (s : List ℕ) → quote q ≡ true
    → leads (value_at (q ∷ s)) (λ _ r. k r) ≡ leads (value_rest_at q s) (λ _ r. k r)
unfolding value_at value_rest_at until
value_behind k q s e =
    leads_bind (byte quote (q ∷ s)) _ _ ∙ leads_got _ _ (byte_complete quote q e s)
    ∙ leads_bind _ _ _ ∙ leads_same _ _ _ (λ bs r. leads_value (mark (q ∷ []) r) (λ _. together bs) k) ∙ sym (leads_bind _ _ _)

no_value : (k : Passing) (a : ℕ) (s : List ℕ) → eqb a 34 ≡ false → eqb a 39 ≡ false → leads (value_at (a ∷ s)) (λ _ r. k r) ≡ false
unfolding value_at quote
no_value k a s e₁ e₂ =
    leads_bind (byte quote (a ∷ s)) _ _
    ∙ leads_fail _ _ (byte_other quote a (ap (λ t. t || eqb a 39) e₁ ∙ e₂) s)

pub quoted_law : (k : Passing) (a : ℕ) (s : List ℕ) → meets quoted k (a ∷ s) ≡ changed (change_quoted a) k a s
unfolding meets meets_all changed change_quoted quote_of quote
quoted_law k a s =
    by_test (eqb a 34) _ _ k a s (λ e. let z = eqb-true a 34 e in rw z (value_behind k 34 s refl)) λ e₁.
    by_test (eqb a 39) _ _ k a s (λ e. let z = eqb-true a 39 e in rw z (value_behind k 39 s refl)) λ e₂. no_value k a s e₁ e₂
