-- Characters, values and attributes are read alike: an end of a line as the line feed that it is translated to.
use Rattle.std.specs.Prelude.{◌≡◌, List, [], ◌∷◌, Bool, true, false, not, ℕ, ◌<◌, eqb, leb, length}
use Rattle.std.proofs.Math.Path.{refl}
use Rattle.std.proofs.Common.{arith}
use Rattle.lists.specs.Lists.{all}
use Rattle.lists.proofs.Laws.Booleans.{refute}
use Rattle.grammar.specs.Bytes.{ascii, blank, quote, special, begins, parted}
use Rattle.grammar.specs.Characters.{utf8_1, lead1, lead2, lead3, lead4, continues, noncharacter}
use Rattle.grammar.specs.Grammar.{TextCharacter}
use Rattle.grammar.specs.Read.{fail, got, bind, byte, mark, alt}
use Rattle.grammar.proofs.Laws.Read.{byte_sound, byte_complete, Ok}
use Rattle.grammar.specs.Parser.{CharacterWidth, one, two, three, four, width, rest_by, rest_at, literal_at, stands_for, reference_at}
use Rattle.grammar.specs.Parser.{line_end_at, text_byte, text_at, spacing, space_at, value_byte, value_character_at, value_at}
use Rattle.grammar.specs.Parser.{attribute_at_lem, ends, closing, distinct, attributes_at}
use Rattle.grammar.proofs.Laws.Others.{lead3_high, lead4_high}
use Rattle.grammar.proofs.Laws.Sound.{attribute_sound}
use Rattle.grammar.proofs.Laws.Tokens.{text_complete, reference_other, line_end_other, attribute_long}
use Rattle.grammar.proofs.Laws.Unfuelled.{less}
use Rattle.steps.proofs.Laws.Leaves.{value_character_eats}
use Rattle.steps.proofs.Laws.Feeds.{fed, feed_got, return_read}
use Rattle.steps.proofs.Laws.Pieces.{return_text}
use Rattle.steps.specs.LineEnds.{line_ends}
use Rattle.steps.proofs.Laws.LineEnds.{none_ends, other_ends, return_ends, View, at_end, at_return, at_other, view}
use Rattle.steps.proofs.Laws.Alike.{Alike, both_fail, both_got, Same, same_value, Ended, ended, same_reads, then_any, then_same}
use Rattle.steps.proofs.Laws.Alike.{then_so, either, test_alike, rows_alike}
use Rattle.steps.proofs.Laws.BytesAlike.{sign, quote_sign, mark_alike, begins_alike, front_alike, byte_alike, name_alike, gap_alike}
use Rattle.steps.proofs.Laws.BytesAlike.{equals_alike, ends_alike}

low_three : (a b : ℕ) → b < 128 → lead3 a b ≡ false
low_three a b h = refute (lead3 a b) λ e. let x = lead3_high a b e in omega arith

low_four : (a b : ℕ) → b < 128 → lead4 a b ≡ false
low_four a b h = refute (lead4 a b) λ e. let x = lead4_high a b e in omega arith

behind_alike : (k : CharacterWidth) (a : ℕ) {s t : List ℕ} → Ended s t → Alike Same (rest_by k a s) (rest_by k a t)
unfolding rest_by continues
behind_alike one a e = then_same (test_alike (lead1 a) e) λ _ r₁ t₁ e₁. same_reads e₁
behind_alike two a e =
    then_same (test_alike (lead2 a) e) λ _ r₁ t₁ e₁.
    then_same (byte_alike continues refl refl e₁) λ b r₂ t₂ e₂. same_reads e₂
behind_alike three a e =
    then_same (byte_alike (lead3 a) (low_three a 10 (omega arith)) (low_three a 13 (omega arith)) e) λ b r₁ t₁ e₁.
    then_same (byte_alike continues refl refl e₁) λ c r₂ t₂ e₂.
    then_same (test_alike (not (noncharacter a b c)) e₂) λ _ r₃ t₃ e₃. same_reads e₃
behind_alike four a e =
    then_same (byte_alike (lead4 a) (low_four a 10 (omega arith)) (low_four a 13 (omega arith)) e) λ b r₁ t₁ e₁.
    then_same (byte_alike continues refl refl e₁) λ c r₂ t₂ e₂.
    then_same (byte_alike continues refl refl e₂) λ d r₃ t₃ e₃. same_reads e₃

pub literal_alike : (p : ℕ → Bool) (a : ℕ) {s t : List ℕ} → Ended s t → Alike Same (literal_at p (a ∷ s)) (literal_at p (a ∷ t))
unfolding literal_at rest_at
literal_alike p a e =
    then_same (front_alike p a e) λ b r₁ t₁ e₁.
    then_same (behind_alike (width b) b e₁) λ w r₂ t₂ e₂. same_reads e₂

stands_alike : (k v : List ℕ) → all sign k ≡ true → {s t : List ℕ} → Ended s t → Alike Same (stands_for k v s) (stands_for k v t)
unfolding stands_for
stands_alike k v h e = then_same (mark_alike k h e) λ _ r₁ t₁ e₁. same_reads e₁

reference_alike : {s t : List ℕ} → Ended s t → Alike Same (reference_at s) (reference_at t)
unfolding reference_at all sign
reference_alike e =
    either (stands_alike (ascii "&amp;") (ascii "&") refl e)
    (either (stands_alike (ascii "&lt;") (ascii "<") refl e)
    (either (stands_alike (ascii "&gt;") (ascii ">") refl e)
    (either (stands_alike (ascii "&quot;") (ascii "\"") refl e) (stands_alike (ascii "&apos;") (ascii "'") refl e))))

reference_front : (a : ℕ) (s : List ℕ) → eqb a 13 ≡ false → Alike Same (reference_at (a ∷ s)) (reference_at (a ∷ line_ends s))
reference_front a s e = rw (other_ends a s e) at (reference_alike {s = a ∷ s} ended)

-- text
no_text : text_at [] ≡ fail
unfolding text_at reference_at stands_for line_end_at literal_at alt bind mark byte
no_text = refl

feed_text : (s : List ℕ) → text_at (10 ∷ s) ≡ got (ascii "\n") s
unfolding lead1 blank special parted
feed_text s = text_complete (TextCharacter.literal (utf8_1 {a = 10} refl) refl refl) s refl

text_by : {s : List ℕ} → View s → Alike Same (text_at s) (text_at (line_ends s))
unfolding text_at
text_by at_end = rw none_ends (rw no_text both_fail)
text_by (at_return s) =
    rw (return_ends s) (rw (return_text s, feed_got (ascii "\n") s, feed_text (line_ends (fed s))) (both_got same_value))
text_by (at_other a s e) =
    rw (other_ends a s e) (rw (line_end_other (ascii "\n") a e s, line_end_other (ascii "\n") a e (line_ends s))
    (either (reference_front a s e) (either both_fail (literal_alike text_byte a ended))))

pub text_alike : {s t : List ℕ} → Ended s t → Alike Same (text_at s) (text_at t)
text_alike {s} ended = text_by (view s)

-- values
module _ (q : ℕ) where
  no_value : value_character_at q [] ≡ fail
  unfolding value_character_at reference_at stands_for line_end_at space_at literal_at alt bind mark byte
  no_value = refl

  return_value : (s : List ℕ) → value_character_at q (13 ∷ s) ≡ got (ascii " ") (fed s)
  unfolding value_character_at alt
  return_value s = rw (reference_other 13 refl s, return_read (ascii " ") s, feed_got (ascii " ") s)

  feed_value : (s : List ℕ) → value_character_at q (10 ∷ s) ≡ got (ascii " ") s
  unfolding value_character_at alt space_at bind spacing blank
  feed_value s = rw (reference_other 10 refl s, line_end_other (ascii " ") 10 refl s, byte_complete spacing 10 refl s)

  space_alike : (a : ℕ) (s : List ℕ) → Alike Same (space_at (a ∷ s)) (space_at (a ∷ line_ends s))
  unfolding space_at
  space_alike a s = then_same (front_alike spacing a ended) λ _ r₁ t₁ e₁. same_reads e₁

  value_by : {s : List ℕ} → View s → Alike Same (value_character_at q s) (value_character_at q (line_ends s))
  unfolding value_character_at
  value_by at_end = rw none_ends (rw no_value both_fail)
  value_by (at_return s) = rw (return_ends s) (rw (return_value s, feed_value (line_ends (fed s))) (both_got same_value))
  value_by (at_other a s e) =
      rw (other_ends a s e) (rw (line_end_other (ascii " ") a e s, line_end_other (ascii " ") a e (line_ends s))
      (either (reference_front a s e) (either both_fail (either (space_alike a s) (literal_alike (value_byte q) a ended)))))

  value_character_alike : (s t : List ℕ) → Ended s t → Alike Same (value_character_at q s) (value_character_at q t)
  value_character_alike s _ ended = value_by (view s)

pub value_alike : {s t : List ℕ} → Ended s t → Alike Same (value_at s) (value_at t)
unfolding value_at quote
value_alike {s} e =
    then_so (byte_sound quote s) (byte_alike quote refl refl e) λ q r₁ t₁ h₁ e₁.
    then_same (rows_alike (begins (q ∷ [])) (value_character_at q) (value_character_eats q) (begins_alike (q ∷ []) (quote_sign q h₁.1))
    (value_character_alike q) e₁) λ bs r₂ t₂ e₂.
    then_same (mark_alike (q ∷ []) (quote_sign q h₁.1) e₂) λ _ r₃ t₃ e₃. same_reads e₃

-- attributes
attribute_alike : (s t : List ℕ) → Ended s t → Alike Same (attribute_at_lem s) (attribute_at_lem t)
unfolding attribute_at_lem
attribute_alike s t e =
    then_any (gap_alike e) λ u v r₁ t₁ e₁.
    then_same (name_alike e₁) λ n r₂ t₂ e₂.
    then_same (equals_alike e₂) λ _ r₃ t₃ e₃.
    then_same (value_alike e₃) λ v r₄ t₄ e₄. same_reads e₄

attribute_eats : (s : List ℕ) → Ok (λ _ r. length r < length s) (attribute_at_lem s)
attribute_eats s = less (λ _ w h. attribute_long h) (attribute_sound s)

pub attributes_alike : {s t : List ℕ} → Ended s t → Alike Same (attributes_at s) (attributes_at t)
unfolding attributes_at
attributes_alike e =
    then_same (rows_alike (ends closing) attribute_at_lem attribute_eats (ends_alike closing) attribute_alike e) λ l r₁ t₁ e₁.
    then_same (test_alike (distinct l) e₁) λ _ r₂ t₂ e₂.
    then_same (test_alike (leb (length l) 16) e₂) λ _ r₃ t₃ e₃. same_reads e₃
