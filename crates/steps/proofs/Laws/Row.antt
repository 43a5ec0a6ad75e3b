-- What is proved of Row.
use Rattle.std.specs.Prelude.{◌≡◌, List, [], ◌∷◌, ℕ, zero, suc, ◌≤◌, ◌<◌, true, false, not, length}
use Rattle.std.proofs.Math.Path.{refl, sym}
use Rattle.std.proofs.Common.{ap, ◌∙◌, arith, length-append}
use Rattle.grammar.specs.Bytes.{ascii, blank, begins}
use Rattle.grammar.specs.Document.{Element, Contents, nothing, child, merged}
use Rattle.grammar.specs.Grammar.{TextCharacter}
use Rattle.grammar.specs.Read.{Read, fail, got, Reader, bind, ◌>>=◌, pure, test, mark, span, alt, many_step}
use Rattle.grammar.proofs.Laws.Read.{Ok, failed}
use Rattle.grammar.proofs.Laws.Read.{good, bind_ok, ok_map, Takes, test_sound, all_of_sound}
use Rattle.grammar.specs.Parser.{Look, at_close, at_comment, at_data, at_element, at_text, look, comment_at, data_at_lem, text_at, name_at}
use Rattle.grammar.specs.Parser.{attributes_at, empty_at, full_at, element_at, contents_by}
use Rattle.grammar.proofs.Laws.Sound.{comment_sound, data_sound, text_sound}
use Rattle.grammar.proofs.Laws.SoundElements.{element_sound, contents_sound}
use Rattle.grammar.proofs.Laws.Tokens.{text_long}
use Rattle.grammar.proofs.Laws.Complete.{comment_long, data_long, element_long}
use Rattle.steps.proofs.Laws.Step.{Tails, tails}
use Rattle.steps.specs.Keys.{Head, head, head_at}
use Rattle.steps.proofs.Laws.Until.{bind_assoc, bind_each}
use Rattle.grammar.specs.Unfuelled.{contents}
use Rattle.grammar.proofs.Laws.Unfuelled.{bind_same, less, all_of_step, contents_step}
use Rattle.steps.specs.Row.{Piece, remark, character, text_piece_at, piece_by, piece_at, halts, pause, pieces_at}

unfoldable pub joins : List Piece → Contents → Contents
joins [] c = c
joins (remark ∷ l) c = joins l c
joins (character b ∷ l) c = merged b (joins l c)

-- contents that begin with a child, or end
unfoldable pub children_by : ℕ → Look → Reader Contents
children_by d at_close = pure nothing
children_by d at_comment = λ s. fail
children_by d at_data = λ s. fail
children_by d at_element = do
  e ← element_at contents d
  c ← contents d
  pure (child e c)
children_by d at_text = λ s. fail

pub text_piece_sound : (s : List ℕ) → Ok (Takes TextCharacter s) (text_piece_at s)
unfolding text_piece_at
text_piece_sound s =
    bind_ok (test_sound (not (begins (ascii "]]>") s)) s) λ _ r₀ h₀.
    ok_map (text_sound r₀) λ b r h. (h.0, h₀.1 ∙ h.1, h.2)

pieces_eat : (l : Look) (s : List ℕ) → Ok (λ _ r. length r < length s) (piece_by l s)
unfolding piece_by
pieces_eat at_close s = failed
pieces_eat at_comment s = bind_ok (less (λ _ w h. comment_long h) (comment_sound s)) λ _ r h. good h
pieces_eat at_data s = bind_ok (less (λ b w h. data_long h) (data_sound s)) λ b r h. good h
pieces_eat at_element s = failed
pieces_eat at_text s = bind_ok (less (λ b w h. text_long h) (text_piece_sound s)) λ b r h. good h

pub piece_eats : (s : List ℕ) → Ok (λ _ r. length r < length s) (piece_at s)
unfolding piece_at
piece_eats s = pieces_eat (look s) s

pub pieces_step : (s : List ℕ) → pieces_at s ≡ many_step (pause s) piece_at pieces_at s
unfolding pieces_at
pieces_step s = all_of_step piece_at pause piece_eats s

-- contents from a list of pieces on
abbrev pub after : ℕ → List Piece → List ℕ → Read Contents
after d l r = bind (children_by d (look r) r) (λ c r₁. got (joins l c) r₁)

-- `joins` of one piece more
first_remark : (d : ℕ) (l : List Piece) (r : List ℕ) → after d (remark ∷ l) r ≡ after d l r
unfolding joins
first_remark d l r = refl

mapped : {A B C : Type 0} (m : Read A) (f : A → B) (g : B → C)
    → bind (bind m (λ a r. got (f a) r)) (λ b r. got (g b) r) ≡ bind m (λ a r. got (g (f a)) r)
unfolding bind
mapped fail f g = refl
mapped (got a r) f g = refl

first_character : (d : ℕ) (b : List ℕ) (l : List Piece) (r : List ℕ)
    → bind (after d l r) (λ c r₁. got (merged b c) r₁) ≡ after d (character b ∷ l) r
unfolding joins
first_character d b l r = mapped (children_by d (look r) r) (joins l) (merged b)

pub pieces_halt : (s : List ℕ) → pause s ≡ true → pieces_at s ≡ got [] s
unfolding many_step
pieces_halt s e = rw (pieces_step s, e)

pub pieces_go : (s : List ℕ) → pause s ≡ false → pieces_at s ≡ bind (piece_at s) (λ a r. bind (pieces_at r) (λ l r₁. got (a ∷ l) r₁))
unfolding many_step
pieces_go s e = rw (pieces_step s, e)

halts_at : (s : List ℕ) (l : Look) → look s ≡ l → pause s ≡ halts l
unfolding pause
halts_at s l e = rw e

piece_is : (s : List ℕ) (l : Look) → look s ≡ l → piece_at s ≡ piece_by l s
unfolding piece_at
piece_is s l e = rw e

-- contents are pieces, and then a child and what follows it, or the end
module _ (d : ℕ) (s : List ℕ) (ih : (r : List ℕ) → length r < length s → contents d r ≡ bind (pieces_at r) (after d)) where
  abbrev Split : Type 0
  Split = contents d s ≡ bind (pieces_at s) (after d)

  stopped : (l : Look) → look s ≡ l → halts l ≡ true → contents_by contents d l s ≡ children_by d l s → Split
  unfolding bind joins
  stopped l e h k = rw (contents_step d s, pieces_halt s (halts_at s l e ∙ h), e, k) (go (children_by d l s))
    where
      go : (m : Read Contents) → m ≡ bind m (λ c r. got c r)
      go fail = refl
      go (got c r) = refl

  -- what follows a piece
  follows : (p : Piece) (r : List ℕ) (f : Contents → Contents) → length r < length s
      → ((l : List Piece) (r₁ : List ℕ) → bind (after d l r₁) (λ c r₂. got (f c) r₂) ≡ after d (p ∷ l) r₁)
      → bind (contents d r) (λ c r₁. got (f c) r₁) ≡ bind (bind (pieces_at r) (λ l r₁. got (p ∷ l) r₁)) (after d)
  unfolding bind
  follows p r f h k =
      rw (ih r h, bind_assoc (pieces_at r), bind_assoc (pieces_at r)) (bind_each (pieces_at r) _ _ k)

  plain : (m : Read Contents) → m ≡ bind m (λ c r. got c r)
  unfolding bind
  plain fail = refl
  plain (got c r) = refl

  after_remark : look s ≡ at_comment → Split
  unfolding halts contents_by piece_by bind
  after_remark e =
      rw (
        contents_step d s,
        e,
        pieces_go s (halts_at s at_comment e),
        piece_is s at_comment e,
        bind_assoc (bind (comment_at s) (λ _ r. got remark r)),
        bind_assoc (comment_at s),
      )
      (bind_same _ _ (less (λ _ w h. comment_long h) (comment_sound s)) λ _ r h.
      plain (contents d r) ∙ follows remark r (λ c. c) h (λ l r₁. sym (plain (after d l r₁)) ∙ sym (first_remark d l r₁)))

  texted : contents_by contents d at_text s ≡ bind (text_piece_at s) (λ b r. bind (contents d r) (λ c r₁. got (merged b c) r₁))
  unfolding contents_by text_piece_at
  texted = sym (bind_assoc (test (not (begins (ascii "]]>") s)) s) (λ _ r. text_at r) _)

  after_character : look s ≡ at_text → Split
  unfolding halts piece_by bind
  after_character e =
      rw (
        contents_step d s,
        e,
        texted,
        pieces_go s (halts_at s at_text e),
        piece_is s at_text e,
        bind_assoc (bind (text_piece_at s) (λ b r. got (character b) r)),
        bind_assoc (text_piece_at s),
      )
      (bind_same _ _ (less (λ b w h. text_long h) (text_piece_sound s)) λ b r h.
      follows (character b) r (merged b) h (first_character d b))

  after_data : look s ≡ at_data → Split
  unfolding halts contents_by piece_by bind
  after_data e =
      rw (
        contents_step d s,
        e,
        pieces_go s (halts_at s at_data e),
        piece_is s at_data e,
        bind_assoc (bind (data_at_lem s) (λ b r. got (character b) r)),
        bind_assoc (data_at_lem s),
      )
      (bind_same _ _ (less (λ b w h. data_long h) (data_sound s)) λ b r h.
      follows (character b) r (merged b) h (first_character d b))

  split_cases : (l : Look) → look s ≡ l → Split
  unfolding halts contents_by children_by
  split_cases at_close e = stopped at_close e refl refl
  split_cases at_element e = stopped at_element e refl refl
  split_cases at_comment e = after_remark e
  split_cases at_data e = after_data e
  split_cases at_text e = after_character e

split_by : (n d : ℕ) (s : List ℕ) → length s < n → contents d s ≡ bind (pieces_at s) (after d)
split_by zero d s h = absurd (omega arith)
split_by (suc n) d s h = split_cases d s (λ r l. split_by n d r (omega arith)) (look s) refl

pub contents_split : (d : ℕ) (s : List ℕ) → contents d s ≡ bind (pieces_at s) (after d)
contents_split d s = split_by (suc (length s)) d s (omega arith)

-- an element is a head, and then `/>`, or `>` with contents and an end tag
unfoldable pub rest_of : ℕ → Head → Reader Element
rest_of d (head n l) s = alt (empty_at n l s) (full_at (contents d) n l s)

pub element_split : (d : ℕ) (s : List ℕ) → element_at contents (suc d) s ≡ bind (head_at s) (rest_of d)
unfolding element_at head_at bind rest_of
element_split d s =
    rw (bind_assoc (mark (ascii "<") s))
    (bind_each (mark (ascii "<") s) _ _ λ _ r₁.
    rw (bind_assoc (name_at r₁))
    (bind_each (name_at r₁) _ _ λ n r₂.
    rw (bind_assoc (attributes_at r₂))
    (bind_each (attributes_at r₂) _ _ λ l r₃.
    rw (bind_assoc (span blank r₃)))))

piece_by_tails : (l : Look) (s : List ℕ) → Ok (Tails s) (piece_by l s)
unfolding piece_by
piece_by_tails at_close s = failed
piece_by_tails at_comment s = bind_ok (comment_sound s) λ _ r h. good (h.0, h.1)
piece_by_tails at_data s = bind_ok (data_sound s) λ b r h. good (h.0, h.1)
piece_by_tails at_element s = failed
piece_by_tails at_text s = bind_ok (text_piece_sound s) λ b r h. good (h.0, h.1)

pub piece_tails : (s : List ℕ) → Ok (Tails s) (piece_at s)
unfolding piece_at
piece_tails s = piece_by_tails (look s) s

pub pieces_tails : (s : List ℕ) → Ok (Tails s) (pieces_at s)
unfolding pieces_at
pieces_tails s = tails (all_of_sound {P = λ _ _. Unit {0}} (λ s. ok_map (piece_tails s) λ a r h. (h.0, h.1, tt)) pause s)

pub element_tails : (d : ℕ) (s : List ℕ) → Ok (Tails s) (element_at contents d s)
unfolding contents
element_tails d s = tails (element_sound contents (λ d s. contents_sound (suc (length s)) d s) d s)

no_longer : {A : Type 0} {s : List ℕ} {m : Read A} → Ok (Tails s) m → Ok (λ _ r. length r ≤ length s) m
no_longer h = ok_map h λ a r k. omega (arith, length-append k.0 r, ap length k.1)

pub pieces_eat_on : (s : List ℕ) → Ok (λ _ r. length r ≤ length s) (pieces_at s)
pieces_eat_on s = no_longer (pieces_tails s)

pub element_eats : (d : ℕ) (s : List ℕ) → Ok (λ _ r. length r < length s) (element_at contents d s)
unfolding contents
element_eats d s = less (λ e w h. element_long h) (element_sound contents (λ d s. contents_sound (suc (length s)) d s) d s)
