-- A list of whole numbers in a text, number after number.
use Rattle.std.specs.Prelude.{◌≡◌, Bool, false, ℕ, zero, suc, ◌+◌, ◌-◌, ◌≤◌, ◌<◌, eqb, leb, drop, get_or, Option, Some, None}
use Rattle.std.proofs.Math.Path.{refl, ap}
use Rattle.std.proofs.Common.{sym, ◌∙◌, eqb-true, leb-true, leb-false}
use mathlib.Core.List.{List, [], ◌∷◌, ◌++◌, append_assoc, append-nil}
use Rattle.std.proofs.Math.Bool.{true}
use native.Mathlib.Omega.{arith}
use Rattle.std.proofs.lemmas.Bool.{eqb-false}
use Rattle.std.proofs.Math.ListN.{length}
use Rattle.lists.proofs.Laws.Booleans.{and_left}
use Rattle.grammar.specs.Bytes.{ascii, blank, special}
use Rattle.grammar.specs.Look.{Word}
use Rattle.grammar.specs.Parser.{feed_at}
use Rattle.steps.specs.Step.{stepped}
use Rattle.steps.proofs.Laws.Feeds.{fed, feed_got, feed_none, feed_there, feed_not}
use Rattle.lists.specs.Lists.{all}
use Rattle.nodes.proofs.Laws.Letters.{plain_letter, return_letter}
use Rattle.nodes.proofs.Laws.AheadElements.{blank_special}
use Rattle.numbers.specs.Numbers.{digit, digits, number, value, words}
use Rattle.numbers.proofs.Laws.Cuts.{uncut_snoc, words_none, words_blank, words_end, words_cut}
use Rattle.numbers.specs.Cuts.{Uncut, none, more}
use Rattle.numbers.proofs.Laws.Cuts.{first_word, digit_no_blank, digits_uncut, digits_are, digits_stopped}
use Rattle.numbers.specs.Stream.{char_at, stream, behind, leading, word_ends, digits_at}
use Rattle.numbers.proofs.Laws.Stream.{letter_byte, char_byte, char_end, behind_none, behind_one, Ran, digits_law}
use Rattle.numbers.specs.Answers.{next_in_words, next_number}
use Rattle.numbers.specs.declared.Source.TheVariants.{Contents}
use Rattle.numbers.specs.declared.Run.{Run}
use Rattle.numbers.specs.declared.Next.TheVariants.{Number, End, Bad}

-- Plain bytes
pub plain_char : (text : List ℕ) (i : ℕ) → i < length text → special (get_or text i 0) ≡ false → eqb (get_or text i 0) 13 ≡ false
    → char_at Contents text i ≡ Some ((get_or text i 0), (i + 1))
unfolding char_at
plain_char text i h e f = letter_byte text i (plain_letter text i h e f)

return_char : (text : List ℕ) (i : ℕ) → i < length text → get_or text i 0 ≡ 13
    → char_at Contents text i ≡ Some (10, (length text - length (fed (drop (i + 1) text))))
unfolding char_at
return_char text i h e = letter_byte text i (return_letter text i h e)

-- A blank byte reads as a blank.
pub record BlankAt (text : List ℕ) (i : ℕ) : Type 0 where
  pub byte : ℕ
  pub next : ℕ
  pub reads : char_at Contents text i ≡ Some (byte, next)
  pub is_blank : blank byte ≡ true

pub plain_blank : (text : List ℕ) (i : ℕ) → i < length text → blank (get_or text i 0) ≡ true → BlankAt text i
unfolding blank
plain_blank text i h e = go (eqb (get_or text i 0) 13) refl
  where
    go : (t : Bool) → eqb (get_or text i 0) 13 ≡ t → BlankAt text i
    go true f = record { byte = 10; next = _; reads = return_char text i h (eqb-true _ 13 f); is_blank = refl }
    go false f = record
        { byte = get_or text i 0; next = i + 1; reads = plain_char text i h (blank_special (get_or text i 0) e) f; is_blank = e }

-- BLANKS are passed
next_is : (text : List ℕ) (i : ℕ) → next_number text i
    ≡ next_in_words (λ n. behind Contents text (leading blank (stream Contents text i) + n) i) (words (stream Contents text i))
unfolding next_number stream
next_is text i = refl

next_same : (f g : ℕ → ℕ) (l : List Word) → ((n : ℕ) → f n ≡ g n) → next_in_words f l ≡ next_in_words g l
unfolding next_in_words
next_same f g [] h = refl
next_same f g (w ∷ l) h = rw (h (length w)) refl

pub next_blank : (text : List ℕ) (i : ℕ) {b j : ℕ} → char_at Contents text i ≡ Some (b, j) → blank b ≡ true
    → next_number text i ≡ next_number text j
unfolding leading
next_blank text i {b} {j} e h =
    let s = (char_byte Contents text i refl e).splits in
    next_is text i
    ∙ rw (s, words_blank b (stream Contents text j) h, h)
    (next_same _ _ (words (stream Contents text j))
    (λ n. ap (λ m. behind Contents text m i) (lift n) ∙ behind_one Contents text i e (leading blank (stream Contents text j) + n)))
    ∙ sym (next_is text j)
  where
    lift : (n : ℕ) → suc (leading blank (stream Contents text j)) + n ≡ suc (leading blank (stream Contents text j) + n)
    lift n = omega arith

-- byte by byte too: the pair of a return and its line feed is passed as two blanks
module _ (text : List ℕ) (i : ℕ) (h : i < length text) where
  plain_passed : blank (get_or text i 0) ≡ true → eqb (get_or text i 0) 13 ≡ false → next_number text i ≡ next_number text (i + 1)
  plain_passed e f = next_blank text i (plain_char text i h (blank_special (get_or text i 0) e) f) e

feed_passed : (text : List ℕ) (i j : ℕ) → Some j ≡ stepped (length text) (feed_at (ascii "\n") (drop i text))
    → next_number text i ≡ next_number text j → next_number text (length text - length (fed (drop i text))) ≡ next_number text i
unfolding stepped
feed_passed text i j e k =
    let z : Some j ≡ Some (length text - length (fed (drop i text))) = e ∙ rw (feed_got (ascii "\n") (drop i text)) in
    let here : j ≡ length text - length (fed (drop i text)) = cc in
    rw (← here) (sym k)

return_passed : (text : List ℕ) (i : ℕ) → i ≤ length text → next_number text (length text - length (fed (drop i text))) ≡ next_number text i
unfolding blank
return_passed text i h = within (leb (length text) i) refl
  where
    there : i < length text → (t : Bool) → eqb (get_or text i 0) 10 ≡ t
        → next_number text (length text - length (fed (drop i text))) ≡ next_number text i
    there l true e =
        let same = eqb-true (get_or text i 0) 10 e in
        feed_passed text i (i + 1) (feed_there text i l same) (plain_passed text i l (rw same) (rw same))
    there l false e = feed_passed text i i (feed_not text i l (eqb-false (get_or text i 0) 10 e)) refl

    within : (t : Bool) → leb (length text) i ≡ t → next_number text (length text - length (fed (drop i text))) ≡ next_number text i
    within true e =
        let l = leb-true (length text) i e in
        let z : i ≡ length text = omega arith in
        feed_passed text i (length text) (feed_none text i l) (ap (next_number text) z)
    within false e = let l : i < length text = leb-false (length text) i e in there l (eqb (get_or text i 0) 10) refl

pub byte_passed : (text : List ℕ) (i : ℕ) → i < length text → blank (get_or text i 0) ≡ true → next_number text i ≡ next_number text (i + 1)
unfolding blank
byte_passed text i h e = go (eqb (get_or text i 0) 13) refl
  where
    go : (t : Bool) → eqb (get_or text i 0) 13 ≡ t → next_number text i ≡ next_number text (i + 1)
    go true f = next_blank text i (return_char text i h (eqb-true _ 13 f)) refl ∙ return_passed text (i + 1) (omega arith)
    go false f = plain_passed text i h e f

pub next_over : (n : ℕ) (text : List ℕ) (i : ℕ) → leading blank (stream Contents text i) ≡ n
    → next_number text i ≡ next_number text (behind Contents text n i)
unfolding leading
next_over zero text i e = rw (behind_none Contents text i) refl
next_over (suc n) text i e = step_over (char_at Contents text i) refl λ j k. next_over n text j k
  where
    counted : (b : ℕ) (w : Word) (t : Bool) → blank b ≡ t → leading blank (b ∷ w) ≡ suc n → (blank b ≡ true) × (leading blank w ≡ n)
    counted b w true h k = let z : suc (leading blank w) ≡ suc n = sym (rw h refl) ∙ k in (h, omega arith)
    counted b w false h k = let z : ◌≡◌ {A = ℕ} 0 (suc n) = sym (rw h refl) ∙ k in absurd (omega arith)

    step_over : (c : Option (ℕ × ℕ)) → char_at Contents text i ≡ c
        → ((j : ℕ) → leading blank (stream Contents text j) ≡ n → next_number text j ≡ next_number text (behind Contents text n j))
        → next_number text i ≡ next_number text (behind Contents text (suc n) i)
    step_over None q ih = let z : ◌≡◌ {A = ℕ} 0 (suc n) = sym (ap (leading blank) (char_end Contents text i refl q)) ∙ e in
        absurd (omega arith)
    step_over (Some (b, j)) q ih =
        let s = char_byte Contents text i refl q in
        let f = counted b (stream Contents text j) (blank b) refl (sym (ap (leading blank) s.splits) ∙ e) in
        next_blank text i q f.0 ∙ ih j f.1 ∙ ap (next_number text) (sym (behind_one Contents text i q n))

-- NOTHING IS LEFT
pub next_end : (text : List ℕ) (i : ℕ) → stream Contents text i ≡ [] → next_number text i ≡ End
unfolding next_in_words
next_end text i e = next_is text i ∙ rw (e, words_none) refl

-- A NUMBER
pub word_ahead : (a : ℕ) (u w : Word) → Uncut blank (a ∷ u) → word_ends w ≡ true → words ((a ∷ u) ++ w) ≡ (a ∷ u) ∷ words w
unfolding word_ends
word_ahead a u [] h e = ap words (append-nil (a ∷ u)) ∙ words_end h ∙ ap (λ l. (a ∷ u) ∷ l) (sym words_none)
word_ahead a u (b ∷ w) h e = words_cut b w h e ∙ ap (λ l. (a ∷ u) ∷ l) (sym (words_blank b w e))

-- the first word of what begins with uncut bytes and goes on with another
pub begun : (u x : Word) (b : ℕ) → Uncut blank u → blank b ≡ false → (t : Word) × (l : List Word)
    × (words (u ++ (b ∷ x)) ≡ (u ++ (b ∷ t)) ∷ l)
begun [] x b h k = let f = first_word x (more k none) in (f.tail, f.others, f.are)
begun (a ∷ u) x b h k =
    let f = first_word x (uncut_snoc b h k) in
    let e₁ : (a ∷ u) ++ (b ∷ x) ≡ ((a ∷ u) ++ (b ∷ [])) ++ x = rw append_assoc refl in
    let e₂ : ((a ∷ u) ++ (b ∷ [])) ++ f.tail ≡ (a ∷ u) ++ (b ∷ f.tail) = rw append_assoc refl in
    (f.tail, f.others, ap words e₁ ∙ f.are ∙ ap (λ v. v ∷ f.others) e₂)

module _ (text : List ℕ) (i : ℕ) {run : Run} (er : run ≡ digits_at Contents text 7 0 0 i) where
  ran : Ran Contents text 7 0 0 i run
  ran = rw er (digits_law Contents text 7 0 0 i)

  ahead : (a : ℕ) (u w : Word) → digit a ≡ true → words ((a ∷ u) ++ w) ≡ (a ∷ u) ∷ words w → digits 1 7 (a ∷ u) ≡ true
      → stream Contents text i ≡ (a ∷ u) ++ w → next_number text i ≡ Number (value (a ∷ u)) (behind Contents text (length (a ∷ u)) i)
  unfolding next_in_words leading
  ahead a u w d h k e = next_is text i ∙ rw (e, h, k, digit_no_blank a d)
      (ap (Number (value (a ∷ u))) (ap (λ n. behind Contents text n i) zero_more))
    where
      zero_more : 0 + length (a ∷ u) ≡ length (a ∷ u)
      zero_more = omega arith

  pub next_number_lem : (run.count ≡ 0 → ⊥) → word_ends (stream Contents text run.next) ≡ true
      → next_number text i ≡ Number run.value run.next
  unfolding value all
  next_number_lem n e = go ran.read ran.all_digits ran.few ran.counted ran.valued ran.place ran.splits
    where
      go : (u : Word) → all digit u ≡ true → length u ≤ 7 → run.count ≡ 0 + length u → run.value ≡ number 0 u
          → run.next ≡ behind Contents text (length u) i → stream Contents text i ≡ u ++ stream Contents text run.next
          → next_number text i ≡ Number run.value run.next
      go [] d f c v p s = absurd (n c)
      go (a ∷ u) d f c v p s =
          let x : digit a ≡ true = and_left (digit a) _ d in
          ahead a u (stream Contents text run.next) x
          (word_ahead a u (stream Contents text run.next) (digits_uncut digit_no_blank (a ∷ u) d) e)
          (digits_are 1 7 (a ∷ u) d (omega arith) f) s
          ∙ rw (v, p) refl

  -- A WORD THAT IS NO NUMBER
  pub next_bad : {b : ℕ} {x : Word} → stream Contents text run.next ≡ b ∷ x → blank b ≡ false → next_number text i ≡ Bad
  unfolding next_in_words
  next_bad {b} {x} e k =
      let w : stream Contents text i ≡ ran.read ++ (b ∷ x) = ran.splits ∙ ap (λ l. ran.read ++ l) e in
      let f = begun ran.read x b (digits_uncut digit_no_blank ran.read ran.all_digits) k in
      next_is text i ∙ rw (w, f.2, digits_stopped 1 7 ran.read f.0 b ran.few (ran.stops b x e)) refl
