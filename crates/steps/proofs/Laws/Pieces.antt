-- The readers between tags, step by step.
use Rattle.std.specs.Prelude.{◌≡◌, refl, List, [], ◌∷◌, ℕ, ◌+◌, ◌≤◌, ◌<◌, Bool, eqb, drop, get_or, Option, Some, None}
use Rattle.std.proofs.Math.Path.{ap, sym}
use Rattle.std.proofs.Common.{◌∙◌, rules}
use native.Mathlib.Omega.{arith}
use Rattle.std.proofs.Math.Bool.{true, false}
use Rattle.std.proofs.Math.ListN.{length}
use borrow.Author.Tests.{eq-eqb, ne_eqb}
use Rattle.lists.proofs.Laws.Booleans.{clash}
use Rattle.grammar.specs.Bytes.{ascii, blank, begins, parted, special}
use Rattle.grammar.specs.Characters.{utf8_1, lead1}
use Rattle.grammar.specs.Grammar.{TextCharacter}
use Rattle.grammar.specs.Read.{fail, got, bind, alt, byte, test, mark}
use Rattle.grammar.specs.Parser.{Look, at_close, at_comment, at_data, at_element, at_text, look, look_if, look₂, look₃, look_third}
use Rattle.grammar.specs.Parser.{look_by, text_at}
use Rattle.grammar.specs.Parser.{reference_at, stands_for, feed_at, line_end_at, text_byte, literal_at, comment_at, data_at_lem}
use Rattle.grammar.proofs.Laws.Read.{alt_fail}
use Rattle.grammar.proofs.Laws.Tokens.{text_complete, reference_other, line_end_other}
use Rattle.steps.specs.Step.{stepped}
use Rattle.steps.proofs.Laws.Step.{arrives, refuses, at_byte, at_end}
use Rattle.steps.specs.Leaves.{character_at}
use Rattle.steps.proofs.Laws.Leaves.{literal_is, literal_not}
use Rattle.steps.proofs.Laws.Until.{stepped_value}
use Rattle.steps.proofs.Laws.Feeds.{feed_got, return_read}
use Rattle.steps.specs.Row.{character, remark, text_piece_at, piece_by, piece_at}
use Rattle.steps.specs.Pieces.{front, halted}
use Rattle.steps.specs.declared.pieces.Front.{Front}
use Rattle.steps.specs.declared.pieces.Between.{Between}

-- the front
module _ (s : List ℕ) (at : ℕ) where
  pub front_end : length s ≤ at → Front.Close ≡ front (look (drop at s))
  unfolding look front
  front_end h = rw (at_end s at h)

  module _ (h : at < length s) where
    pub front_text : (get_or s at 0 ≡ 60 → ⊥) → Front.Text ≡ front (look (drop at s))
    unfolding look look_if front
    front_text f = rw (at_byte s at h, ne_eqb (get_or s at 0) 60 f)

    module _ (e : get_or s at 0 ≡ 60) where
      pub front_last : length s ≤ at + 1 → Front.Start ≡ front (look (drop at s))
      unfolding look look_if look₂ front
      front_last k = rw (at_byte s at h, e, at_end s (at + 1) k)

      module _ (k : at + 1 < length s) where
        twice : look (drop at s) ≡ look_by (eqb (get_or s (at + 1) 0) 47) (eqb (get_or s (at + 1) 0) 33) (look₃ (drop (at + 2) s))
        unfolding look look_if look₂
        twice = rw (at_byte s at h, e, at_byte s (at + 1) k)
            (ap (λ n. look_by (eqb (get_or s (at + 1) 0) 47) (eqb (get_or s (at + 1) 0) 33) (look₃ (drop n s))) two)
          where
            two : (at + 1) + 1 ≡ at + 2
            two = omega arith

        pub front_close : get_or s (at + 1) 0 ≡ 47 → Front.Close ≡ front (look (drop at s))
        unfolding look_by front
        front_close q = rw (twice, eq-eqb _ _ q)

        module _ (f : get_or s (at + 1) 0 ≡ 47 → ⊥) where
          pub front_marked : get_or s (at + 1) 0 ≡ 33 → {x : Front} → x ≡ front (look₃ (drop (at + 2) s)) → x ≡ front (look (drop at s))
          unfolding look_by
          front_marked q k = k ∙ sym (ap front (rw (twice, ne_eqb _ _ f, eq-eqb _ _ q)))

          pub front_start : (get_or s (at + 1) 0 ≡ 33 → ⊥) → Front.Start ≡ front (look (drop at s))
          unfolding look_by front
          front_start g = rw (twice, ne_eqb _ _ f, ne_eqb _ _ g)

-- the front behind `<!`
module _ (s : List ℕ) (at : ℕ) where
  pub marked_cut : length s ≤ at → Front.Comment ≡ front (look₃ (drop at s))
  unfolding look₃ front
  marked_cut h = rw (at_end s at h)

  module _ (h : at < length s) where
    pub marked_data : get_or s at 0 ≡ 91 → Front.Data ≡ front (look₃ (drop at s))
    unfolding look₃ look_third front
    marked_data e = rw (at_byte s at h, eq-eqb _ _ e)

    pub marked_other : (get_or s at 0 ≡ 91 → ⊥) → Front.Comment ≡ front (look₃ (drop at s))
    unfolding look₃ look_third front
    marked_other f = rw (at_byte s at h, ne_eqb _ _ f)

-- a look, from the front that it shows
unfoldable shown : Front → Look
shown Front.Close = at_close
shown Front.Comment = at_comment
shown Front.Data = at_data
shown Front.Start = at_element
shown Front.Text = at_text

shown_front : (l : Look) → shown (front l) ≡ l
unfolding shown front
shown_front at_close = refl
shown_front at_comment = refl
shown_front at_data = refl
shown_front at_element = refl
shown_front at_text = refl

pub front_is : (l k : Look) → front l ≡ front k → l ≡ k
front_is l k e = sym (shown_front l) ∙ ap shown e ∙ shown_front k

-- a character, or a reference
reference_none : text_at [] ≡ fail
unfolding text_at reference_at stands_for line_end_at mark alt bind literal_at byte
reference_none = refl

amp_text : (s : List ℕ) → text_at (38 ∷ s) ≡ reference_at (38 ∷ s)
unfolding text_at text_byte special alt
amp_text s = rw (line_end_other (ascii "\n") 38 refl s, literal_not text_byte 38 s refl) (alt_fail (reference_at (38 ∷ s)) refl)

pub return_text : (s : List ℕ) → text_at (13 ∷ s) ≡ feed_at (ascii "\n") s
unfolding text_at alt
return_text s =
    let known = return_read (ascii "\n") s in
    let read = feed_got (ascii "\n") s in
    rw (reference_other 13 refl s, known, read)

module _ (text : List ℕ) (at : ℕ) where
  pub text_none : length text ≤ at → None ≡ stepped (length text) (text_at (drop at text))
  text_none h = refuses (length text) (text_at (drop at text)) (rw (at_end text at h) reference_none)

  module _ (h : at < length text) where
    pub text_reference : get_or text at 0 ≡ 38 → {x : Option ℕ} → x ≡ stepped (length text) (reference_at (drop at text))
        → x ≡ stepped (length text) (text_at (drop at text))
    text_reference e k =
        let here : drop at text ≡ 38 ∷ drop (at + 1) text = rw (at_byte text at h, e) in
        k ∙ ap (stepped (length text)) (ap reference_at here ∙ sym (amp_text (drop (at + 1) text)) ∙ ap text_at (sym here))

    pub text_return : get_or text at 0 ≡ 13 → {j : ℕ} → Some j ≡ stepped (length text) (feed_at (ascii "\n") (drop (at + 1) text))
        → Some j ≡ stepped (length text) (text_at (drop at text))
    text_return e k =
        let here : drop at text ≡ 13 ∷ drop (at + 1) text = rw (at_byte text at h, e) in
        k ∙ ap (stepped (length text)) (sym (return_text (drop (at + 1) text)) ∙ ap text_at (sym here))

    module _ (f : get_or text at 0 ≡ 38 → ⊥) (f₁ : get_or text at 0 ≡ 13 → ⊥) where
      text_literal : text_at (drop at text) ≡ literal_at text_byte (drop at text)
      unfolding text_at alt
      text_literal = rw (
        at_byte text at h,
        reference_other (get_or text at 0) (ne_eqb (get_or text at 0) 38 f) (drop (at + 1) text),
        line_end_other (ascii "\n") (get_or text at 0) (ne_eqb (get_or text at 0) 13 f₁) (drop (at + 1) text),
      )

      pub text_open : get_or text at 0 ≡ 60 → None ≡ stepped (length text) (text_at (drop at text))
      unfolding special text_byte
      text_open e =
          let marked : text_byte (get_or text at 0) ≡ false = rw e in
          refuses (length text) (text_at (drop at text))
          (text_literal ∙ rw (at_byte text at h) (literal_not text_byte (get_or text at 0) (drop (at + 1) text) marked))

      pub text_plain : (get_or text at 0 ≡ 60 → ⊥) → {x : Option ℕ} → x ≡ stepped (length text) (character_at (drop at text))
          → x ≡ stepped (length text) (text_at (drop at text))
      unfolding special text_byte
      text_plain g k =
          let free : text_byte (get_or text at 0) ≡ true = rw (ne_eqb _ 60 g, ne_eqb _ 38 f, ne_eqb _ 13 f₁) in
          k ∙ ap (stepped (length text))
          (sym (text_literal ∙ rw (at_byte text at h) (literal_is text_byte (get_or text at 0) (drop (at + 1) text) free)))

clear_piece : (s : List ℕ) → begins (ascii "]]>") s ≡ false → text_piece_at s ≡ text_at s
unfolding text_piece_at bind test
clear_piece s e = rw e

other_clear : (text : List ℕ) (at : ℕ) → at < length text → (get_or text at 0 ≡ 93 → ⊥) → begins (ascii "]]>") (drop at text) ≡ false
unfolding begins
other_clear text at h g = rw (at_byte text at h, ne_eqb (get_or text at 0) 93 g)

bracket_text : (s : List ℕ) → text_at (93 ∷ s) ≡ got (93 ∷ []) s
unfolding lead1 blank special parted
bracket_text s = text_complete (TextCharacter.literal (utf8_1 {a = 93} refl) refl refl) s refl

-- a piece, by its first byte
module _ (text : List ℕ) (at : ℕ) where
  pub piece_none : length text ≤ at → None ≡ stepped (length text) (piece_at (drop at text))
  unfolding piece_at piece_by look
  piece_none h = refuses (length text) (piece_at (drop at text)) (rw (at_end text at h))

  module _ (h : at < length text) where
    module _ (f : get_or text at 0 ≡ 60 → ⊥) where
      byte_look : look (drop at text) ≡ at_text
      unfolding look look_if
      byte_look = rw (at_byte text at h, ne_eqb (get_or text at 0) 60 f)

      byte_piece : piece_at (drop at text) ≡ bind (text_piece_at (drop at text)) (λ b r. got (character b) r)
      unfolding piece_at piece_by
      byte_piece = rw byte_look

      pub piece_byte : (get_or text at 0 ≡ 93 → ⊥) → {x : Option ℕ} → x ≡ stepped (length text) (text_at (drop at text))
          → x ≡ stepped (length text) (piece_at (drop at text))
      piece_byte g k = k ∙ sym (ap (stepped (length text)) byte_piece
          ∙ stepped_value (length text) (text_piece_at (drop at text)) character
          ∙ ap (stepped (length text)) (clear_piece (drop at text) clear))
        where
          clear : begins (ascii "]]>") (drop at text) ≡ false
          clear = other_clear text at h g

    module _ (e : get_or text at 0 ≡ 93) {t : Bool} (q : t ≡ begins (ascii "]]>") (drop at text)) where
      bracket_look : look (drop at text) ≡ at_text
      unfolding look look_if
      bracket_look = rw (at_byte text at h, e)

      bracket_piece : piece_at (drop at text) ≡ bind (text_piece_at (drop at text)) (λ b r. got (character b) r)
      unfolding piece_at piece_by
      bracket_piece = rw bracket_look

      pub bracket_cut : t ≡ true → None ≡ stepped (length text) (piece_at (drop at text))
      unfolding text_piece_at bind test
      bracket_cut k = refuses (length text) (piece_at (drop at text)) (bracket_piece ∙ rw (sym q ∙ k))

      pub bracket_clear : t ≡ false → Some (at + 1) ≡ stepped (length text) (piece_at (drop at text))
      unfolding bind
      bracket_clear k =
          let inside : at + 1 ≤ length text = omega arith in
          arrives text (piece_at (drop at text)) {a = character (93 ∷ [])} (at + 1) inside
          (bracket_piece ∙ rw (clear_piece (drop at text) (sym q ∙ k)) (rw (at_byte text at h, e, bracket_text (drop (at + 1) text))))

-- no text stands at `<`
data Marked : Look → Type 0 where
  closes : Marked at_close
  remarks : Marked at_comment
  holds_data : Marked at_data
  starts : Marked at_element

third_marked : (s : List ℕ) → Marked (look₃ s)
unfolding look₃ look_third
third_marked [] = remarks
third_marked (b ∷ s) = by (eqb b 91)
  where
    by : (t : Bool) → Marked (look_third t)
    by true = holds_data
    by false = remarks

marked_by : (t u : Bool) (s : List ℕ) → Marked (look_by t u (look₃ s))
unfolding look_by
marked_by true u s = closes
marked_by false true s = third_marked s
marked_by false false s = starts

look_open : (s : List ℕ) → Marked (look (60 ∷ s))
unfolding look look_if look₂
look_open [] = starts
look_open (b ∷ s) = marked_by (eqb b 47) (eqb b 33) s

no_text : {l : Look} → Marked l → l ≡ at_text → ⊥
no_text closes e = clash (cc)
no_text remarks e = clash (cc)
no_text holds_data e = clash (cc)
no_text starts e = clash (cc)

-- a piece behind `<`
module _ (text : List ℕ) (at : ℕ) {f : Front} (q : f ≡ front (look (drop at text))) where
  looks : (k : Look) → f ≡ front k → look (drop at text) ≡ k
  looks k e = front_is (look (drop at text)) k (sym q ∙ e)

  piece_is : (k : Look) → f ≡ front k → piece_at (drop at text) ≡ piece_by k (drop at text)
  unfolding piece_at
  piece_is k e = rw (looks k e)

  pub piece_close : f ≡ Front.Close → None ≡ stepped (length text) (piece_at (drop at text))
  unfolding front piece_by
  piece_close e = refuses (length text) (piece_at (drop at text)) (piece_is at_close e)

  pub piece_start : f ≡ Front.Start → None ≡ stepped (length text) (piece_at (drop at text))
  unfolding front piece_by
  piece_start e = refuses (length text) (piece_at (drop at text)) (piece_is at_element e)

  pub piece_comment : f ≡ Front.Comment → {x : Option ℕ} → x ≡ stepped (length text) (comment_at (drop at text))
      → x ≡ stepped (length text) (piece_at (drop at text))
  unfolding front piece_by
  piece_comment e k = k ∙ sym (stepped_value (length text) (comment_at (drop at text)) (λ _. remark))
      ∙ ap (stepped (length text)) (sym (piece_is at_comment e))

  pub piece_data : f ≡ Front.Data → {x : Option ℕ} → x ≡ stepped (length text) (data_at_lem (drop at text))
      → x ≡ stepped (length text) (piece_at (drop at text))
  unfolding front piece_by
  piece_data e k = k ∙ sym (stepped_value (length text) (data_at_lem (drop at text)) character)
      ∙ ap (stepped (length text)) (sym (piece_is at_data e))

  look_is : at < length text → get_or text at 0 ≡ 60 → look (drop at text) ≡ look (60 ∷ drop (at + 1) text)
  look_is h e = rw (at_byte text at h, e)

  pub piece_text : at < length text → get_or text at 0 ≡ 60 → f ≡ Front.Text → None ≡ stepped (length text) (piece_at (drop at text))
  unfolding front look look_if
  piece_text h e k = absurd (no_text (look_open (drop (at + 1) text)) (sym (look_is h e) ∙ looks at_text k))

  -- what stops the pieces
  halts_as : (k : Look) → f ≡ front k → halted k at ≡ halted (look (drop at text)) at
  halts_as k e = rw (looks k e)

  pub halt_close : f ≡ Front.Close → Between.Close at ≡ halted (look (drop at text)) at
  unfolding front halted
  halt_close e = halts_as at_close e

  pub halt_start : f ≡ Front.Start → Between.Start at ≡ halted (look (drop at text)) at
  unfolding front halted
  halt_start e = halts_as at_element e

  pub halt_comment : f ≡ Front.Comment → Between.Bad ≡ halted (look (drop at text)) at
  unfolding front halted
  halt_comment e = halts_as at_comment e

  pub halt_data : f ≡ Front.Data → Between.Bad ≡ halted (look (drop at text)) at
  unfolding front halted
  halt_data e = halts_as at_data e

  pub halt_text : f ≡ Front.Text → Between.Bad ≡ halted (look (drop at text)) at
  unfolding front halted
  halt_text e = halts_as at_text e

pub ruleset fronts = (front_end, front_text, front_last, front_close, front_marked, front_start, rules)

pub ruleset marked_fronts = (marked_cut, marked_data, marked_other, rules)

pub ruleset texts = (text_none, text_reference, text_return, text_open, text_plain, rules)

pub ruleset brackets = (bracket_cut, bracket_clear, rules)

pub ruleset tagged = (piece_close, piece_start, piece_comment, piece_data, piece_text, rules)

pub ruleset pieces = (piece_none, piece_byte, rules)

pub ruleset halting_at = (halt_close, halt_start, halt_comment, halt_data, halt_text, rules)
