-- What is proved of TextBytes.
use Rattle.std.specs.Prelude.{◌≡◌, refl, List, [], ◌∷◌, ◌++◌, ℕ, zero, suc, ◌<◌, Bool, true, false, eqb, length}
use Rattle.std.proofs.Common.{ap, sym, ◌∙◌, append_assoc, arith, ne_eqb, length-append}
use Rattle.lists.proofs.Laws.Booleans.{or_right, or_left}
use Rattle.grammar.specs.Bytes.{ascii, special, parted, closed, begins, SequenceUnless, none_more, and_more}
use Rattle.grammar.specs.Characters.{Character, utf8_1, utf8_2, utf8_3, utf8_4}
use Rattle.grammar.specs.Document.{Element, Contents, nothing, child, run, merged, together}
use Rattle.grammar.specs.Grammar
use Rattle.grammar.specs.Grammar.{TextCharacter, DataCharacter, CData}
use Rattle.grammar.specs.Look.{characters}
use Rattle.grammar.specs.Read.{Read, fail, got, mark}
use Rattle.grammar.proofs.Laws.Read.{Ok, good, ok_got, ok_map, mark_sound, mark_complete}
use Rattle.grammar.specs.Parser.{reference_at, line_end_at, comment_at, data_at_lem, Look, at_close, at_comment, at_data, at_element, at_text}
use Rattle.grammar.specs.Parser.{look, look_if, look₂, look_by, look₃, look_third}
use Rattle.grammar.proofs.Laws.Sound.{reference_sound, data_sound}
use Rattle.grammar.proofs.Laws.Data.{open_apart, data_character_long}
use Rattle.grammar.proofs.Laws.Tokens.{reference_complete, reference_other, reference_ampersand, ampersand_long, line_end_other}
use Rattle.grammar.specs.Unfuelled.{contents}
use Rattle.grammar.proofs.Laws.Unfuelled.{less}
use Rattle.steps.specs.Leaves.{first_byte}
use Rattle.steps.proofs.Laws.Leaves.{line_end_eats}
use Rattle.steps.proofs.Laws.Feeds.{fed, feed_got, return_read, line_end_returns}
use Rattle.nodes.specs.Places.{element₁₆}
use Rattle.nodes.proofs.Laws.Depth.{comment_eats}
use Rattle.nodes.proofs.Laws.ReadSteps.{eats_child, Induction, induction}
use Rattle.nodes.specs.Scan.{skip_at}
use Rattle.nodes.proofs.Laws.Scanned.{skip_less, less_falls}
use Rattle.grammar.proofs.Laws.Others.{continues_high, lead3_high, lead4_high}
use Rattle.nodes.proofs.Laws.Skipping.{skip_element}
use Rattle.nodes.specs.TextBytes.{Rest, within, outside, bytes, Move, stop, skip, char, past, referring, bare_char, step_by, step_in}
use Rattle.nodes.specs.TextBytes.{step, say, said_within, says_from}

-- what contents say from here on; what CDATA and they say from here on
abbrev pub says : List ℕ → List ℕ
says s = says_from (outside s)

abbrev pub says_in : List ℕ → List ℕ
says_in s = says_from (within s)

pub data Shorter (n : ℕ) : Move → Type 0 where
  stop_short : Shorter n stop
  skip_short : {r : Rest} → length (bytes r) < n → Shorter n (skip r)
  char_short : {b : ℕ} {r : Rest} → length (bytes r) < n → Shorter n (char b r)

-- both sides have the bytes that they are made of
abbrev Side : (List ℕ → Rest) → Type 0
Side side = (r : List ℕ) → bytes (side r) ≡ r

past_short : (side : List ℕ → Rest) → Side side → (n : ℕ) (m : Read (Unit {0})) → Ok (λ _ r. length r < n) m → Shorter n (past side m)
unfolding past
past_short side k n fail h = stop_short
past_short side k n (got u r) (good h) = skip_short {r = side r} (rw (k r) h)

referring_short : (side : List ℕ → Rest) → Side side → (n : ℕ) (m : Read (List ℕ)) (x : Move) → Ok (λ _ r. length r < n) m → Shorter n x
    → Shorter n (referring side m x)
unfolding referring
referring_short side k n fail x h j = j
referring_short side k n (got b r) x (good h) j = char_short {r = side r} (rw (k r) h)

bare_short : (side : List ℕ → Rest) → Side side → (a : ℕ) (s : List ℕ) → Shorter (length (a ∷ s)) (bare_char side a s)
unfolding bare_char
bare_short side k a s = referring_short side k (length (a ∷ s)) (line_end_at (ascii "\n") (a ∷ s)) (char a (side s))
    (line_end_eats (ascii "\n") (a ∷ s)) (char_short {r = side s} (rw (k s) (omega arith)))

mark_eats : (a : ℕ) (k s : List ℕ) → Ok (λ _ r. length r < length s) (mark (a ∷ k) s)
mark_eats a k s = ok_map (mark_sound (a ∷ k) s) λ _ r e. omega (arith, ap length e, length-append k r)

by_short : (l : Look) (s : List ℕ) → Shorter (length s) (step_by l s)
unfolding step_by
by_short at_close s = stop_short
by_short at_element s = past_short outside (λ _. refl) (length s) (skip_at s) (less_falls (skip_less s))
by_short at_comment s = past_short outside (λ _. refl) (length s) (comment_at s) (comment_eats s)
by_short at_data s = past_short within (λ _. refl) (length s) (mark (ascii "<![CDATA[") s) (mark_eats 60 (ascii "![CDATA[") s)
by_short at_text [] = stop_short
by_short at_text (a ∷ s) = referring_short outside (λ _. refl) (length (a ∷ s)) (reference_at (a ∷ s)) _
    (less (λ b w h. ampersand_long (reference_ampersand h)) (reference_sound (a ∷ s))) (bare_short outside (λ _. refl) a s)

in_short : (t : Bool) (s : List ℕ) → Shorter (length s) (step_in t s)
unfolding step_in
in_short true s = past_short outside (λ _. refl) (length s) (mark (ascii "]]>") s) (mark_eats 93 (ascii "]>") s)
in_short false [] = stop_short
in_short false (a ∷ s) = bare_short within (λ _. refl) a s

pub step_short : (x : Rest) → Shorter (length (bytes x)) (step x)
unfolding step
step_short (outside s) = by_short (look s) s
step_short (within s) = in_short (begins (ascii "]]>") s) s

say_same : (n : ℕ) (x : Move) (f g : Rest → List ℕ) → Shorter n x → ((r : Rest) → length (bytes r) < n → f r ≡ g r) → say x f ≡ say x g
unfolding say
say_same n stop f g h k = refl
say_same n (skip r) f g (skip_short h) k = k r h
say_same n (char b r) f g (char_short h) k = ap (λ l. b ∷ l) (k r h)

said_suc : (n : ℕ) (x : Rest) → said_within (suc n) x ≡ say (step x) (said_within n)
unfolding said_within
said_suc n x = refl

said_enough : (n m : ℕ) (x : Rest) → length (bytes x) < n → length (bytes x) < m → said_within n x ≡ said_within m x
said_enough zero m x h k = absurd (omega arith)
said_enough (suc n) zero x h k = absurd (omega arith)
said_enough (suc n) (suc m) x h k =
    rw (said_suc n x, said_suc m x) (say_same (length (bytes x)) (step x) (said_within n) (said_within m) (step_short x)
    (λ r l. said_enough n m r (omega arith) (omega arith)))

pub says_from_lem : (x : Rest) → says_from x ≡ say (step x) says_from
unfolding says_from
says_from_lem x =
    said_suc (length (bytes x)) x
    ∙ say_same (length (bytes x)) (step x) (said_within (length (bytes x))) (λ r. said_within (suc (length (bytes r))) r) (step_short x)
    (λ r l. said_enough (length (bytes x)) (suc (length (bytes r))) r (omega arith) (omega arith))

pub says_step : (s : List ℕ) → says s ≡ say (step (outside s)) says_from
says_step s = says_from_lem (outside s)

-- a byte of text
pub plain : (a : ℕ) (s : List ℕ) → special a ≡ false → eqb a 13 ≡ false → says (a ∷ s) ≡ a ∷ says s
unfolding step step_by bare_char look look_if referring say special
plain a s e f =
    rw (
      says_step (a ∷ s),
      or_left (eqb a 60) (eqb a 38) e,
      reference_other a (or_right (eqb a 60) (eqb a 38) e) s,
      line_end_other (ascii "\n") a f s,
    )

pub returned : (s : List ℕ) → says (13 ∷ s) ≡ 10 ∷ says (fed s)
unfolding step step_by bare_char look look_if referring say first_byte
returned s = rw (says_step (13 ∷ s), reference_other 13 refl s, return_read (ascii "\n") s, feed_got (ascii "\n") s)

high : (a : ℕ) (s : List ℕ) → 127 < a → says (a ∷ s) ≡ a ∷ says s
unfolding special
high a s h = plain a s (rw (ne_eqb a 60 (λ e. omega arith), ne_eqb a 38 (λ e. omega arith))) (ne_eqb a 13 (λ e. omega arith))

character_says : {a : ℕ} {w : List ℕ} → Character a w → special a ≡ false → eqb a 13 ≡ false → (s : List ℕ)
    → says (a ∷ (w ++ s)) ≡ a ∷ (w ++ says s)
character_says {a} (utf8_1 k) e f s = plain a s e f
character_says {a} (utf8_2 {b = b} k₁ k₂) e f s = plain a (b ∷ s) e f ∙ ap (λ l. a ∷ l) (high b s (continues_high b k₂))
character_says {a} (utf8_3 {b = b} {c} k₁ k₂ k₃) e f s =
    plain a (b ∷ c ∷ s) e f ∙ ap (λ l. a ∷ l) (high b (c ∷ s) (lead3_high a b k₁) ∙ ap (λ l. b ∷ l) (high c s (continues_high c k₂)))
character_says {a} (utf8_4 {b = b} {c} {d} k₁ k₂ k₃) e f s =
    plain a (b ∷ c ∷ d ∷ s) e f ∙ ap (λ l. a ∷ l)
    (high b (c ∷ d ∷ s) (lead4_high a b k₁)
    ∙ ap (λ l. b ∷ l) (high c (d ∷ s) (continues_high c k₂) ∙ ap (λ l. c ∷ l) (high d s (continues_high d k₃))))

by_reference : (b : ℕ) (t s : List ℕ) → reference_at (38 ∷ t) ≡ got (b ∷ []) s → says (38 ∷ t) ≡ b ∷ says s
unfolding step step_by look look_if referring say first_byte
by_reference b t s e = rw (says_step (38 ∷ t), e)

text_says : {b w : List ℕ} → TextCharacter b w → (s : List ℕ) → parted w s ≡ false → says (w ++ s) ≡ b ++ says s
text_says (TextCharacter.literal k e f) s _ = character_says k e f s
text_says (TextCharacter.line_end k) s p =
    let z = line_end_returns k s p in ap says z.whole ∙ returned z.behind ∙ ap (λ r. 10 ∷ says r) z.leaves
text_says (TextCharacter.reference Grammar.amp) s _ = by_reference 38 _ s (reference_complete Grammar.amp s)
text_says (TextCharacter.reference Grammar.lt) s _ = by_reference 60 _ s (reference_complete Grammar.lt s)
text_says (TextCharacter.reference Grammar.gt) s _ = by_reference 62 _ s (reference_complete Grammar.gt s)
text_says (TextCharacter.reference Grammar.quot) s _ = by_reference 34 _ s (reference_complete Grammar.quot s)
text_says (TextCharacter.reference Grammar.apos) s _ = by_reference 39 _ s (reference_complete Grammar.apos s)

-- A BYTE OF CDATA
in_byte : (a : ℕ) (s : List ℕ) → begins (ascii "]]>") (a ∷ s) ≡ false → eqb a 13 ≡ false → says_in (a ∷ s) ≡ a ∷ says_in s
unfolding step step_in bare_char referring say
in_byte a s e f = rw (says_from_lem (within (a ∷ s)), e, line_end_other (ascii "\n") a f s)

in_return : (s : List ℕ) → says_in (13 ∷ s) ≡ 10 ∷ says_in (fed s)
unfolding step step_in bare_char referring say first_byte begins
in_return s = rw (says_from_lem (within (13 ∷ s)), return_read (ascii "\n") s, feed_got (ascii "\n") s)

in_high : (a : ℕ) (s : List ℕ) → 127 < a → says_in (a ∷ s) ≡ a ∷ says_in s
unfolding begins
in_high a s h = in_byte a s (rw (ne_eqb a 93 (λ e. omega arith))) (ne_eqb a 13 (λ e. omega arith))

in_character : {a : ℕ} {w : List ℕ} → Character a w → eqb a 13 ≡ false → (s : List ℕ) → begins (ascii "]]>") (a ∷ (w ++ s)) ≡ false
    → says_in (a ∷ (w ++ s)) ≡ a ∷ (w ++ says_in s)
in_character {a} (utf8_1 k) f s e = in_byte a s e f
in_character {a} (utf8_2 {b = b} k₁ k₂) f s e = in_byte a (b ∷ s) e f ∙ ap (λ l. a ∷ l) (in_high b s (continues_high b k₂))
in_character {a} (utf8_3 {b = b} {c} k₁ k₂ k₃) f s e =
    in_byte a (b ∷ c ∷ s) e f ∙ ap (λ l. a ∷ l)
    (in_high b (c ∷ s) (lead3_high a b k₁) ∙ ap (λ l. b ∷ l) (in_high c s (continues_high c k₂)))
in_character {a} (utf8_4 {b = b} {c} {d} k₁ k₂ k₃) f s e =
    in_byte a (b ∷ c ∷ d ∷ s) e f ∙ ap (λ l. a ∷ l)
    (in_high b (c ∷ d ∷ s) (lead4_high a b k₁)
    ∙ ap (λ l. b ∷ l) (in_high c (d ∷ s) (continues_high c k₂) ∙ ap (λ l. c ∷ l) (in_high d s (continues_high d k₃))))

in_end : (s : List ℕ) → says_in (ascii "]]>" ++ s) ≡ says s
unfolding step step_in past say begins
in_end s = rw (says_from_lem (within (ascii "]]>" ++ s)), mark_complete (ascii "]]>") s)

data_character_says : {b w : List ℕ} → DataCharacter b w → (s : List ℕ) → closed w s ≡ false → says_in (w ++ s) ≡ b ++ says_in s
unfolding closed
data_character_says (DataCharacter.literal {a} {w} k f) s e = in_character k f s (or_right (parted (a ∷ w) s) _ e)
data_character_says (DataCharacter.line_end {w} k) s e =
    let z = line_end_returns k s (or_left (parted w s) _ e) in
    ap says_in z.whole ∙ in_return z.behind ∙ ap (λ r. 10 ∷ says_in r) z.leaves

row_says : {bs : List (List ℕ)} {w : List ℕ} → SequenceUnless DataCharacter closed bs w → (r : List ℕ)
    → says_in (w ++ (ascii "]]>" ++ r)) ≡ together bs ++ says r
row_says none_more r = in_end r
row_says (and_more {a = b} {l} {w} {s} k e t) r =
    let x : List ℕ = s ++ (ascii "]]>" ++ r) in
    ap says_in (append_assoc w s (ascii "]]>" ++ r))
    ∙ data_character_says k x (open_apart w s r (data_character_long k) e)
    ∙ ap (λ l. b ++ l) (row_says t r)
    ∙ sym (append_assoc b (together l) (says r))

data_says : {b w : List ℕ} → CData b w → (r : List ℕ) → says (w ++ r) ≡ b ++ says r
unfolding step step_by past say look look_if look₂ look_by look₃ look_third
data_says (Grammar.cdata {bs} {w} t) r = simp append_assoc
    (rw (says_step (ascii "<![CDATA[" ++ (w ++ (ascii "]]>" ++ r))), mark_complete (ascii "<![CDATA[") (w ++ (ascii "]]>" ++ r)))
    (row_says t r))

pub marked_says : (s r b : List ℕ) → data_at_lem s ≡ got b r → says s ≡ b ++ says r
marked_says s r b e = let h = ok_got (rw e at (data_sound s)) in ap says h.1 ∙ data_says h.2 r

remark_says : (s r : List ℕ) → look s ≡ at_comment → comment_at s ≡ got tt r → says s ≡ says r
unfolding step step_by past say
remark_says s r e k = rw (says_step s, e, k)

close_says : (s : List ℕ) → look s ≡ at_close → says s ≡ []
unfolding step step_by say
close_says s e = rw (says_step s, e)

pub child_says : (s r : List ℕ) (x : Element) → look s ≡ at_element → element₁₆ s ≡ got x r → says s ≡ says r
unfolding step step_by past say
child_says s r x e k = rw (says_step s, e, skip_element s x r k)

characters_joined : (b : List ℕ) (c : Contents) → characters (merged b c) ≡ b ++ characters c
unfolding characters merged
characters_joined [] c = refl
characters_joined (a ∷ b) nothing = refl
characters_joined (a ∷ b) (child e c) = refl
characters_joined (a ∷ b) (run w c) = append_assoc (a ∷ b) w (characters c)

record Said (s : List ℕ) (c : Contents) (t : List ℕ) : Type 0 where
  same_text : says s ≡ characters c

said_nothing : (s : List ℕ) → look s ≡ at_close → says s ≡ characters nothing
unfolding characters
said_nothing s q = close_says s q

said_child : (s r : List ℕ) (x : Element) (c : Contents) → says s ≡ says r → says r ≡ characters c → says s ≡ characters (child x c)
unfolding characters
said_child s r x c e k = e ∙ k

saying : Induction Said
saying = record {
  closed = λ s q. record { same_text = said_nothing s q };
  remarked = λ s r c t q e h. record { same_text = remark_says s r q e ∙ h.same_text };
  lettered = λ b w r c t k p h. record { same_text = text_says k r p ∙ ap (λ l. b ++ l) h.same_text ∙ sym (characters_joined b c) };
  marked = λ s r b c t q e h. record { same_text = marked_says s r b e ∙ ap (λ l. b ++ l) h.same_text ∙ sym (characters_joined b c) };
  childed = λ s r x c t q e inside h. record
      { same_text = said_child s r x c (child_says s r x q e) (inside r c t (eats_child s e) h).same_text };
}

-- what is said in contents is their characters
pub contents_say : (s : List ℕ) (c : Contents) (r : List ℕ) → contents 16 s ≡ got c r → says s ≡ characters c
contents_say s c r e = (induction Said saying s c r e).same_text
