-- What is proved of Values.
use Rattle.std.specs.Prelude.{◌≡◌, refl, List, [], ◌∷◌, ◌++◌, ℕ, zero, suc, ◌+◌, ◌-◌, ◌≤◌, ◌<◌, Bool, true, false, eqb, length, drop, get_or, Option, Some, None}
use Rattle.std.proofs.Common.{ap, sym, ◌∙◌, arith, ne_eqb, length-drop, drop-drop, get_or-drop}
use Rattle.std.proofs.lemmas.Option.{some_pair_parts}
use Rattle.lists.proofs.Laws.Booleans.{and_left, or_right, clash}
use Rattle.grammar.specs.Bytes.{ascii, blank, quote, special, begins, parted}
use Rattle.grammar.specs.Characters.{Character, utf8_1, utf8_2, utf8_3, utf8_4}
use Rattle.grammar.specs.Document.{together}
use Rattle.grammar.specs.Grammar
use Rattle.grammar.specs.Grammar.{ValueCharacter, Reference}
use Rattle.grammar.specs.Read.{Read, fail, got, Reader, bind, byte, mark, all_of, many_step}
use Rattle.grammar.proofs.Laws.Read.{Ok, good, ok_got, byte_sound}
use Rattle.grammar.specs.Parser.{reference_at, line_end_at, value_character_at, value_at}
use Rattle.grammar.proofs.Laws.Sound.{reference_sound, value_character_sound, value_character_whole}
use Rattle.grammar.proofs.Laws.Tokens.{reference_complete, reference_other, reference_ampersand, ampersand_long}
use Rattle.grammar.proofs.Laws.Tokens.{line_end_other, value_character_long, high_no_blank}
use Rattle.grammar.proofs.Laws.Facts.{blank_in, quote_in, no_return}
use Rattle.grammar.proofs.Laws.Unfuelled.{less, all_of_step}
use Rattle.steps.proofs.Laws.Step.{Tails}
use Rattle.steps.specs.Leaves.{first_byte}
use Rattle.steps.proofs.Laws.Leaves.{reference_tails, line_end_eats, line_end_tails}
use Rattle.steps.proofs.Laws.Feeds.{fed, feed_got, return_read, line_end_returns}
use Rattle.grammar.proofs.Laws.Others.{continues_high, lead3_high, lead4_high}
use Rattle.nodes.specs.Places.{pick}
use Rattle.nodes.proofs.Laws.Places.{unbind, Tail, tail_of, tail_more}
use Rattle.nodes.specs.Attributes.{ValueAt}
use Rattle.nodes.specs.Values.{Next, a_byte, no_byte, or_else_lem, bare_byte, next_byte, tell, decoded_as, tells, value_there, as_char}
use Rattle.nodes.specs.Values.{decoded_at}

pub data ShorterNext (s : List ℕ) : Next → Type 0 where
  none_short : ShorterNext s no_byte
  one_short : {b : ℕ} {r : List ℕ} → length r < length s → ShorterNext s (a_byte b r)

or_else_short : (s : List ℕ) (m : Read (List ℕ)) (n : Next) → Ok (λ _ r. length r < length s) m → ShorterNext s n
    → ShorterNext s (or_else_lem m n)
unfolding or_else_lem
or_else_short s fail n h k = k
or_else_short s (got b r) n (good h) k = one_short h

pub next_short : (q : ℕ) (s : List ℕ) → ShorterNext s (next_byte q s)
unfolding next_byte bare_byte
next_short q [] = none_short
next_short q (a ∷ s) = go (eqb a q)
  where
    inner : ShorterNext (a ∷ s) (or_else_lem (reference_at (a ∷ s)) (bare_byte a s))
    inner = or_else_short (a ∷ s) (reference_at (a ∷ s)) _
        (less (λ b w h. ampersand_long (reference_ampersand h)) (reference_sound (a ∷ s)))
        (or_else_short (a ∷ s) (line_end_at (ascii " ") (a ∷ s)) _ (line_end_eats (ascii " ") (a ∷ s)) (one_short (omega arith)))

    go : (t : Bool) → ShorterNext (a ∷ s) (pick t no_byte (or_else_lem (reference_at (a ∷ s)) (bare_byte a s)))
    go true = none_short
    go false = inner

tell_same : (s : List ℕ) (n : Next) (f g : List ℕ → List ℕ) → ShorterNext s n → ((r : List ℕ) → length r < length s → f r ≡ g r)
    → tell n f ≡ tell n g
unfolding tell
tell_same s no_byte f g h k = refl
tell_same s (a_byte b r) f g (one_short h) k = ap (λ l. b ∷ l) (k r h)

told_suc : (q n : ℕ) (s : List ℕ) → decoded_as q (suc n) s ≡ tell (next_byte q s) (decoded_as q n)
unfolding decoded_as
told_suc q n s = refl

told_enough : (q n m : ℕ) (s : List ℕ) → length s < n → length s < m → decoded_as q n s ≡ decoded_as q m s
told_enough q zero m s h k = absurd (omega arith)
told_enough q (suc n) zero s h k = absurd (omega arith)
told_enough q (suc n) (suc m) s h k =
    rw (told_suc q n s, told_suc q m s) (tell_same s (next_byte q s) (decoded_as q n) (decoded_as q m) (next_short q s)
    (λ r l. told_enough q n m r (omega arith) (omega arith)))

pub tells_step : (q : ℕ) (s : List ℕ) → tells q s ≡ tell (next_byte q s) (tells q)
unfolding tells
tells_step q s =
    told_suc q (length s) s
    ∙ tell_same s (next_byte q s) (decoded_as q (length s)) (λ r. decoded_as q (suc (length r)) r) (next_short q s)
    (λ r l. told_enough q (length s) (suc (length r)) r (omega arith) (omega arith))

plain : (q a : ℕ) (s : List ℕ) → eqb a q ≡ false → eqb a 38 ≡ false → blank a ≡ false → tells q (a ∷ s) ≡ a ∷ tells q s
unfolding next_byte bare_byte or_else_lem tell
plain q a s e₁ e₂ e₃ = rw (tells_step q (a ∷ s), e₁, reference_other a e₂ s, line_end_other (ascii " ") a (no_return a e₃) s, e₃)

spaced : (q a : ℕ) (s : List ℕ) → eqb a q ≡ false → blank a ≡ true → eqb a 13 ≡ false → tells q (a ∷ s) ≡ 32 ∷ tells q s
unfolding next_byte bare_byte or_else_lem tell
spaced q a s e₁ e₃ e₄ =
    let low = blank_in a e₃ in
    rw (tells_step q (a ∷ s), e₁, reference_other a (ne_eqb a 38 λ e. omega arith) s, line_end_other (ascii " ") a e₄ s, e₃)

returned : (q : ℕ) → quote q ≡ true → (s : List ℕ) → tells q (13 ∷ s) ≡ 32 ∷ tells q (fed s)
unfolding next_byte bare_byte or_else_lem tell first_byte
returned q h s =
    let up = (quote_in q h).0 in
    let other : eqb 13 q ≡ false = ne_eqb 13 q λ e. omega arith in
    rw (tells_step q (13 ∷ s), other, reference_other 13 refl s, return_read (ascii " ") s, feed_got (ascii " ") s)

-- a byte of a character behind the first is plain
high : (q a : ℕ) (s : List ℕ) → quote q ≡ true → 127 < a → tells q (a ∷ s) ≡ a ∷ tells q s
high q a s h k =
    let low = (quote_in q h).0 in
    plain q a s (ne_eqb a q λ e. omega arith) (ne_eqb a 38 λ e. omega arith) (high_no_blank a (omega arith))

character_tells : (q : ℕ) → quote q ≡ true → {a : ℕ} {w : List ℕ} → Character a w → eqb a q ≡ false → eqb a 38 ≡ false → blank a ≡ false
    → (s : List ℕ) → tells q (a ∷ (w ++ s)) ≡ a ∷ (w ++ tells q s)
character_tells q h {a} (utf8_1 k) e₁ e₂ e₃ s = plain q a s e₁ e₂ e₃
character_tells q h {a} (utf8_2 {b = b} k₁ k₂) e₁ e₂ e₃ s =
    plain q a (b ∷ s) e₁ e₂ e₃ ∙ ap (λ l. a ∷ l) (high q b s h (continues_high b k₂))
character_tells q h {a} (utf8_3 {b = b} {c} k₁ k₂ k₃) e₁ e₂ e₃ s =
    plain q a (b ∷ c ∷ s) e₁ e₂ e₃ ∙ ap (λ l. a ∷ l)
    (high q b (c ∷ s) h (lead3_high a b k₁) ∙ ap (λ l. b ∷ l) (high q c s h (continues_high c k₂)))
character_tells q h {a} (utf8_4 {b = b} {c} {d} k₁ k₂ k₃) e₁ e₂ e₃ s =
    plain q a (b ∷ c ∷ d ∷ s) e₁ e₂ e₃ ∙ ap (λ l. a ∷ l)
    (high q b (c ∷ d ∷ s) h (lead4_high a b k₁)
    ∙ ap (λ l. b ∷ l) (high q c (d ∷ s) h (continues_high c k₂) ∙ ap (λ l. c ∷ l) (high q d s h (continues_high d k₃))))

by_reference : (q b : ℕ) (t s : List ℕ) → quote q ≡ true → reference_at (38 ∷ t) ≡ got (b ∷ []) s → tells q (38 ∷ t) ≡ b ∷ tells q s
unfolding next_byte or_else_lem tell first_byte
by_reference q b t s h e = let o = (quote_in q h).1 in rw (tells_step q (38 ∷ t), ne_eqb 38 q (λ z. o (sym z)), e)

referred : (q : ℕ) → quote q ≡ true → {b w : List ℕ} → Reference b w → (s : List ℕ) → tells q (w ++ s) ≡ b ++ tells q s
referred q h Grammar.amp s = by_reference q 38 _ s h (reference_complete Grammar.amp s)
referred q h Grammar.lt s = by_reference q 60 _ s h (reference_complete Grammar.lt s)
referred q h Grammar.gt s = by_reference q 62 _ s h (reference_complete Grammar.gt s)
referred q h Grammar.quot s = by_reference q 34 _ s h (reference_complete Grammar.quot s)
referred q h Grammar.apos s = by_reference q 39 _ s h (reference_complete Grammar.apos s)

value_tells : (q : ℕ) → quote q ≡ true → {b w : List ℕ} → ValueCharacter q b w → (s : List ℕ) → parted w s ≡ false
    → tells q (w ++ s) ≡ b ++ tells q s
unfolding special
value_tells q h (ValueCharacter.literal {a} k e₁ e₂ e₃) s _ = character_tells q h k e₂ (or_right (eqb a 60) (eqb a 38) e₁) e₃ s
value_tells q h (ValueCharacter.space {a} k f) s _ = let low = blank_in a k in let up = (quote_in q h).0 in
    spaced q a s (ne_eqb a q λ e. omega arith) k f
value_tells q h (ValueCharacter.line_end k) s p =
    let z = line_end_returns k s p in ap (tells q) z.whole ∙ returned q h z.behind ∙ ap (λ r. 32 ∷ tells q r) z.leaves
value_tells q h (ValueCharacter.reference k) s _ = referred q h k s

values_at_lem : ℕ → Reader (List (List ℕ))
values_at_lem q = all_of (begins (q ∷ [])) (value_character_at q)

values_step : (q : ℕ) (s : List ℕ) → values_at_lem q s ≡ many_step (begins (q ∷ []) s) (value_character_at q) (values_at_lem q) s
unfolding values_at_lem
values_step q s = all_of_step (value_character_at q) (begins (q ∷ []))
    (λ s. less (λ _ w h. value_character_long q h) (value_character_sound q s)) s

values_end : (q : ℕ) (s : List ℕ) → begins (q ∷ []) s ≡ true → values_at_lem q s ≡ got [] s
unfolding many_step
values_end q s e = rw (values_step q s, e)

values_more : (q : ℕ) (s : List ℕ) → begins (q ∷ []) s ≡ false
    → values_at_lem q s ≡ bind (value_character_at q s) (λ b r. bind (values_at_lem q r) (λ l r₁. got (b ∷ l) r₁))
unfolding many_step
values_more q s e = rw (values_step q s, e)

ended : (q : ℕ) (s : List ℕ) → begins (q ∷ []) s ≡ true → tells q s ≡ []
unfolding begins next_byte tell
ended q [] e = clash (cc)
ended q (a ∷ s) e = rw (tells_step q (a ∷ s), and_left (eqb a q) _ e)

one_character : (q : ℕ) → quote q ≡ true → (s b r : List ℕ) → value_character_at q s ≡ got b r → tells q s ≡ b ++ tells q r
one_character q h s b r e =
    let k = ok_got (rw e at (value_character_whole q s)) in
    rw k.1 (value_tells q h k.2 r k.3)

values_tell : (n q : ℕ) → quote q ≡ true → (s : List ℕ) → length s < n → (bs : List (List ℕ)) (r : List ℕ) → values_at_lem q s ≡ got bs r
    → tells q s ≡ together bs
values_tell zero q h s l bs r e = absurd (omega arith)
values_tell (suc n) q h s l bs r e = go (begins (q ∷ []) s) refl (λ s₁ k bs₁ r₁ e₁. values_tell n q h s₁ k bs₁ r₁ e₁)
  where
    go : (t : Bool) → begins (q ∷ []) s ≡ t
        → ((s₁ : List ℕ) → length s₁ < n → (bs₁ : List (List ℕ)) (r₁ : List ℕ) → values_at_lem q s₁ ≡ got bs₁ r₁ → tells q s₁ ≡ together bs₁)
        → tells q s ≡ together bs
    go true q₁ ih = let z = values_end q s q₁ in let w : bs ≡ [] = cc in rw w (ended q s q₁)
    go false q₁ ih =
        let b₁ = unbind (value_character_at q s) _ (sym (values_more q s q₁) ∙ e) in
        let b₂ = unbind (values_at_lem q b₁.rest) _ b₁.then in
        let w : b₁.value ∷ b₂.value ≡ bs = let z = b₂.then in cc in
        let short : length b₁.rest < length s =
        ok_got (rw b₁.reads at (less (λ _ w h. value_character_long q h) (value_character_sound q s))) in
        one_character q h s b₁.value b₁.rest b₁.reads
        ∙ ap (λ l. b₁.value ++ l) (ih b₁.rest (omega arith) b₂.value b₂.rest b₂.reads) ∙ ap together w

read_value : (s x r : List ℕ) → value_at s ≡ got x r → (q : ℕ) × (s₁ : List ℕ) × (s ≡ q ∷ s₁) × (tells q s₁ ≡ x)
unfolding value_at values_at_lem
read_value s x r e =
    let b₁ = unbind (byte quote s) _ e in
    let q : ℕ = b₁.value in
    let b₂ = unbind (all_of (begins (q ∷ [])) (value_character_at q) b₁.rest) _ b₁.then in
    let b₃ = unbind (mark (q ∷ []) b₂.rest) _ b₂.then in
    let k = ok_got (rw b₁.reads at (byte_sound quote s)) in
    let w : together b₂.value ≡ x = let z = b₃.then in cc in
    (q, b₁.rest, k.0, values_tell (suc (length b₁.rest)) q k.1 b₁.rest (omega arith) b₂.value b₂.rest b₂.reads ∙ w)

-- THE LAW OF VALUES: where a value stands, these are its decoded bytes
pub value_law : {text : List ℕ} {v : ℕ} {x : List ℕ} → ValueAt text v x → value_there text v ≡ x
unfolding value_there
value_law {text} {v} {x} h =
    let k = read_value (drop v text) x h.rest h.reads in
    let e : drop v text ≡ k.0 ∷ k.1 = k.2 in
    let e₁ : drop (v + 1) text ≡ k.1 = sym (drop-drop 1 v text) ∙ ap (drop 1) e in
    let z : v + 0 ≡ v = omega arith in
    let e₂ : get_or text v 0 ≡ k.0 = sym (get_or-drop v text 0 0 ∙ ap (λ n. get_or text n 0) z) ∙ ap (λ l. get_or l 0 0) e in
    rw (e₁, e₂) k.3

-- THE LAW OF DECODED BYTES
data Tailed (text : List ℕ) : Next → Type 0 where
  none_tailed : Tailed text no_byte
  one_tailed : {b : ℕ} {r : List ℕ} → Tail text r → Tailed text (a_byte b r)

or_else_tailed : (text s : List ℕ) (m : Read (List ℕ)) (n : Next) → Tail text s → Ok (Tails s) m → Tailed text n → Tailed text (or_else_lem m n)
unfolding or_else_lem
or_else_tailed text s fail n t h k = k
or_else_tailed text s (got b r) n t (good h) k = one_tailed (tail_more h.0 r h.1 t)

next_tailed : (text : List ℕ) (q : ℕ) (s : List ℕ) → Tail text s → Tailed text (next_byte q s)
unfolding next_byte bare_byte
next_tailed text q [] t = none_tailed
next_tailed text q (a ∷ s) t = go (eqb a q)
  where
    inner : Tailed text (or_else_lem (reference_at (a ∷ s)) (bare_byte a s))
    inner = or_else_tailed text (a ∷ s) (reference_at (a ∷ s)) _ t (reference_tails (a ∷ s))
        (or_else_tailed text (a ∷ s) (line_end_at (ascii " ") (a ∷ s)) _ t (line_end_tails (ascii " ") (a ∷ s))
        (one_tailed (tail_more (a ∷ []) s refl t)))

    go : (c : Bool) → Tailed text (pick c no_byte (or_else_lem (reference_at (a ∷ s)) (bare_byte a s)))
    go true = none_tailed
    go false = inner

-- what a decoded byte says
pub record Decodes (text : List ℕ) (q i b j : ℕ) : Type 0 where
  pub inside : j ≤ length text
  pub ahead : i < j
  pub splits : tells q (drop i text) ≡ b ∷ tells q (drop j text)

char_law : (text : List ℕ) (q i : ℕ) (n : Next) → next_byte q (drop i text) ≡ n → Tailed text n → ShorterNext (drop i text) n → {b j : ℕ}
    → as_char (length text) n ≡ Some (b, j) → Decodes text q i b j
unfolding as_char tell
char_law text q i no_byte e t s h = clash (cc)
char_law text q i (a_byte c r) e (one_tailed t) (one_short s) {b} {j} h =
    let parts = some_pair_parts _ _ _ _ h in
    let w = parts.0 in
    let p = sym parts.1 in
    let k : length (drop i text) ≡ length text - i = length-drop i text in
    let u : drop j text ≡ r = rw p t.stands in
    record {
      inside = omega arith;
      ahead = omega (arith, t.fits);
      splits = rw (tells_step q (drop i text), e, w, u);
    }

pub decoded_byte : (text : List ℕ) (q i : ℕ) {c : Option (ℕ × ℕ)} → c ≡ decoded_at text i q → {b j : ℕ} → c ≡ Some (b, j) → Decodes text q i b j
unfolding decoded_at
decoded_byte text q i e z = char_law text q i (next_byte q (drop i text)) refl (next_tailed text q (drop i text) (tail_of text i))
    (next_short q (drop i text)) (sym e ∙ z)

end_law : (q : ℕ) (s : List ℕ) (k : ℕ) (n : Next) → next_byte q s ≡ n → as_char k n ≡ None → tells q s ≡ []
unfolding as_char tell
end_law q s k no_byte e h = rw (tells_step q s, e)
end_law q s k (a_byte b r) e h = clash (cc)

pub decoded_end : (text : List ℕ) (q i : ℕ) {c : Option (ℕ × ℕ)} → c ≡ decoded_at text i q → c ≡ None → tells q (drop i text) ≡ []
unfolding decoded_at
decoded_end text q i e z = end_law q (drop i text) (length text) (next_byte q (drop i text)) refl (sym e ∙ z)

-- the value begins behind its quote
pub value_begins : (text : List ℕ) (v : ℕ) → value_there text v ≡ tells (get_or text v 0) (drop (v + 1) text)
unfolding value_there
value_begins text v = refl

pub tells_none : (q : ℕ) → tells q [] ≡ []
unfolding next_byte tell
tells_none q = rw (tells_step q [])
