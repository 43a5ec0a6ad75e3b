-- Characters, comments and CDATA between tags, as far as they go: one piece further, and over plain bytes at once.
use Rattle.std.specs.Prelude.{◌≡◌, refl, List, [], ◌∷◌, ◌++◌, ℕ, ◌-◌, ◌<◌, Bool, not, eqb, drop, Option, Some, None}
use Rattle.std.proofs.Common.{ap, sym, ◌∙◌, subst, arith, rules, length-append, length-drop, eqb-true}
use Rattle.std.proofs.Math.Bool.{true, false}
use Rattle.std.proofs.Math.ListN.{length}
use Rattle.std.proofs.lemmas.Bool.{not-true}
use Rattle.lists.proofs.Laws.Booleans.{and_left, and_right, or_left, clash}
use Rattle.grammar.specs.Bytes.{ascii, blank, begins, parted, special, Each, no_byte, a_byte}
use Rattle.grammar.specs.Characters.{utf8_1, lead1}
use Rattle.grammar.specs.Grammar.{TextCharacter}
use Rattle.grammar.specs.Read.{Read, fail, got, bind, test, span}
use Rattle.grammar.proofs.Laws.Read.{span_sound, Ok, ok_got}
use Rattle.grammar.specs.Parser.{Look, at_close, at_comment, at_data, at_element, at_text, look, look_if, text_at}
use Rattle.grammar.proofs.Laws.Tokens.{text_complete}
use Rattle.steps.specs.Step.{stepped, Went}
use Rattle.steps.proofs.Laws.Step.{went, went_on, fell}
use Rattle.steps.proofs.Laws.Leaves.{span_tails}
use Rattle.steps.proofs.Laws.Feeds.{left_by, fed, feed_got}
use Rattle.steps.proofs.Laws.Pieces.{return_text}
use Rattle.steps.specs.Row.{Piece, character, text_piece_at, piece_by, piece_at, pieces_at, pause, halts}
use Rattle.steps.proofs.Laws.Row.{pieces_halt, pieces_go}
use Rattle.steps.proofs.Laws.Row.{piece_tails, piece_eats}
use Rattle.steps.specs.Pieces.{plain, halted, stopped_by}
use Rattle.steps.specs.declared.pieces.Between.{Between}

-- one piece further
between_bind : (n : ℕ) (p : Piece) (m : Read (List Piece)) → stopped_by n (bind m (λ l r. got (p ∷ l) r)) ≡ stopped_by n m
unfolding stopped_by bind
between_bind n p fail = refl
between_bind n p (got l r) = refl

halts_piece : (l : Look) (s : List ℕ) → halts l ≡ true → piece_by l s ≡ fail
unfolding halts piece_by
halts_piece at_close s e = refl
halts_piece at_comment s e = clash (cc)
halts_piece at_data s e = clash (cc)
halts_piece at_element s e = refl
halts_piece at_text s e = clash (cc)

halted_on : (l : Look) (i : ℕ) → halts l ≡ false → Between.Bad ≡ halted l i
unfolding halts halted
halted_on at_close i e = clash (cc)
halted_on at_comment i e = refl
halted_on at_data i e = refl
halted_on at_element i e = clash (cc)
halted_on at_text i e = refl

module _ (n : ℕ) (s : List ℕ) where
  halting : pause s ≡ true → piece_at s ≡ fail
  unfolding pause piece_at
  halting h = halts_piece (look s) s h

  between_piece : {p : Piece} {r : List ℕ} → piece_at s ≡ got p r → (t : Bool) → pause s ≡ t
      → stopped_by n (pieces_at s) ≡ stopped_by n (pieces_at r)
  unfolding bind
  between_piece {p} {r} e true h = let f = halting h in clash (cc)
  between_piece {p} {r} e false h = rw (pieces_go s h, e) (between_bind n p (pieces_at r))

  between_fail : piece_at s ≡ fail → (t : Bool) → pause s ≡ t → halted (look s) (n - length s) ≡ stopped_by n (pieces_at s)
  unfolding bind stopped_by pause
  between_fail e true h = rw (pieces_halt s h)
  between_fail e false h = rw (pieces_go s h, e) (sym (halted_on (look s) (n - length s) h))

-- plain bytes are pieces
plain_text : (a : ℕ) (s : List ℕ) → plain a ≡ true → eqb a 13 ≡ false → text_at (a ∷ s) ≡ got (a ∷ []) s
unfolding plain parted
plain_text a s e f = text_complete (TextCharacter.literal (utf8_1 (and_left (lead1 a) _ e))
    (not-true (special a) (and_left (not (special a)) _ (and_right (lead1 a) _ e))) f) s (rw f)

plain_look : (a : ℕ) (s : List ℕ) → plain a ≡ true → look (a ∷ s) ≡ at_text
unfolding plain look look_if special
plain_look a s e = rw (or_left (eqb a 60) (eqb a 38) (not-true (special a) (and_left (not (special a)) _ (and_right (lead1 a) _ e))))

plain_clear : (a : ℕ) (s : List ℕ) → plain a ≡ true → begins (ascii "]]>") (a ∷ s) ≡ false
unfolding plain begins
plain_clear a s e = rw (not-true (eqb a 93) (and_right (not (special a)) _ (and_right (lead1 a) _ e)))

plain_piece : (a : ℕ) (s : List ℕ) → plain a ≡ true → eqb a 13 ≡ false → piece_at (a ∷ s) ≡ got (character (a ∷ [])) s
unfolding piece_at piece_by text_piece_at bind test
plain_piece a s e f = rw (plain_look a s e, plain_clear a s e, plain_text a s e f)

return_piece : (s : List ℕ) → piece_at (13 ∷ s) ≡ got (character (ascii "\n")) (fed s)
unfolding piece_at piece_by text_piece_at bind test plain lead1 blank special
return_piece s = rw (plain_look 13 s refl, plain_clear 13 s refl, return_text s, feed_got (ascii "\n") s)

-- a return is passed over with its line feed, or both are, one by one: to the same end
between_fed : (n : ℕ) (s : List ℕ) → stopped_by n (pieces_at (fed s)) ≡ stopped_by n (pieces_at s)
unfolding fed left_by plain lead1 blank special
between_fed n [] = refl
between_fed n (b ∷ s) = go (eqb b 10) refl
  where
    feed : stopped_by n (pieces_at (10 ∷ s)) ≡ stopped_by n (pieces_at s)
    feed = between_piece n (10 ∷ s) (plain_piece 10 s refl refl) (pause (10 ∷ s)) refl

    go : (t : Bool) → eqb b 10 ≡ t → stopped_by n (pieces_at (left_by t b s)) ≡ stopped_by n (pieces_at (b ∷ s))
    go true e = let same = eqb-true b 10 e in rw same (sym feed)
    go false e = refl

between_byte : (n a : ℕ) (s : List ℕ) → plain a ≡ true → stopped_by n (pieces_at (a ∷ s)) ≡ stopped_by n (pieces_at s)
between_byte n a s h = go (eqb a 13) refl
  where
    go : (t : Bool) → eqb a 13 ≡ t → stopped_by n (pieces_at (a ∷ s)) ≡ stopped_by n (pieces_at s)
    go true e = let same = eqb-true a 13 e in
        rw same (between_piece n (13 ∷ s) (return_piece s) (pause (13 ∷ s)) refl ∙ between_fed n s)
    go false e = between_piece n (a ∷ s) (plain_piece a s h e) (pause (a ∷ s)) refl

between_plain : (n : ℕ) {w : List ℕ} → Each plain w → (r : List ℕ) → stopped_by n (pieces_at (w ++ r)) ≡ stopped_by n (pieces_at r)
between_plain n no_byte r = refl
between_plain n (a_byte {a} {w} e h) r = between_byte n a (w ++ r) e ∙ between_plain n h r

abbrev pub Passing : List ℕ → ℕ → ℕ → Type 0
Passing text at i = stopped_by (length text) (pieces_at (drop at text)) ≡ stopped_by (length text) (pieces_at (drop i text))

module _ (text : List ℕ) (at i : ℕ) (inv : Passing text at i) {j : ℕ}
    (q : Some j ≡ stepped (length text) (span plain (drop i text))) {r : Option ℕ} (q₂ : r ≡ stepped (length text) (piece_at (drop j text))) where
  skipped : Went (span plain) text i j
  skipped = went (span plain) text i j (span_tails plain (drop i text)) q

  taken : (drop i text ≡ skipped.value ++ drop j text) × Each plain skipped.value
  taken = ok_got (subst (λ (m : Read (List ℕ)). Ok (λ w r. (drop i text ≡ w ++ r) × Each plain w) m) skipped.reads
      (span_sound plain (drop i text)))

  skips : Passing text i j
  skips = ap (λ s. stopped_by (length text) (pieces_at s)) taken.0 ∙ between_plain (length text) taken.1 (drop j text)

  module _ {k : ℕ} (e : r ≡ Some k) where
    read : Went piece_at text j k
    read = went piece_at text j k (piece_tails (drop j text)) (sym e ∙ q₂)

    pub between_on : Passing text at k
    between_on = inv ∙ skips ∙ between_piece (length text) (drop j text) read.reads (pause (drop j text)) refl

    pub between_less : length (drop k text) < length (drop i text)
    between_less = omega (
      arith,
      length-drop k text,
      length-drop j text,
      went_on read (piece_eats (drop j text)),
      read.inside,
      ap length taken.0,
      length-append skipped.value (drop j text),
    )

  pub between_halt : r ≡ None → {x : Between} → x ≡ halted (look (drop j text)) j → x ≡ stopped_by (length text) (pieces_at (drop at text))
  between_halt e k =
      let here : length text - length (drop j text) ≡ j = omega (arith, length-drop j text, skipped.inside) in
      k ∙ ap (halted (look (drop j text))) (sym here)
      ∙ between_fail (length text) (drop j text) (fell (length text) (piece_at (drop j text)) (sym e ∙ q₂))
      (pause (drop j text)) refl ∙ sym (inv ∙ skips)

pub ruleset passing = (between_on, between_less, between_halt, rules)
