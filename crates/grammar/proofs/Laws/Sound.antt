-- What the readers below elements find, the text writes.
use Rattle.std.specs.Prelude.{◌≡◌, refl, List, [], ◌∷◌, ◌++◌, ℕ, Bool, true, false, ◌&&◌, not, eqb, leb, length}
use Rattle.std.proofs.Common.{ap, append_assoc, append-nil, leb-true, eq-eqb}
use Rattle.std.proofs.lemmas.Bool.{not-true}
use Rattle.lists.proofs.Laws.Booleans.{and_left, and_right, or_left, or_right, clash}
use Rattle.grammar.specs.Bytes.{ascii, blank, name_start, name_byte, quote, special, Sequence}
use Rattle.grammar.specs.Bytes.{begins, parted, closed, skipped}
use Rattle.grammar.specs.Characters.{Character, utf8_1, utf8_2, utf8_3, utf8_4, lead1, lead2, lead3, lead4, continues, noncharacter}
use Rattle.grammar.specs.Document.{Attribute, attribute}
use Rattle.grammar.specs.Grammar
use Rattle.grammar.specs.Grammar.{Name, Gap, Equals, Reference, LineEnd, TextCharacter, ValueCharacter, Value, WritesAttribute}
use Rattle.grammar.specs.Grammar.{Absent, Distinct, Attributes, Remark, Comment, DataCharacter, CData, Setting, Encoding}
use Rattle.grammar.specs.Grammar.{Declaration, Aside}
use Rattle.grammar.specs.Grammar.{Skipped, Doctype, Prologue}
use Rattle.grammar.proofs.Laws.Read.{Ok, good, bind_ok}
use Rattle.grammar.proofs.Laws.Read.{ok_map, alt_ok, Takes, test_sound, mark_sound, byte_sound, span_sound, all_of_sound}
use Rattle.grammar.proofs.Laws.Read.{TakesWhole, whole_takes, row_sound}
use Rattle.grammar.specs.Parser.{name_at, gap_at, equals_at, CharacterWidth, one, two, three, four, width, rest_by, rest_at}
use Rattle.grammar.specs.Parser.{literal_at, stands_for, reference_at, feed_if, feed_at, line_end_at, text_byte, text_at}
use Rattle.grammar.specs.Parser.{spacing, space_at, value_byte, value_character_at, value_at}
use Rattle.grammar.proofs.Laws.Facts.{no_return}
use Rattle.grammar.specs.Parser.{attribute_at_lem, ends, closing, same_bytes, absent, distinct, attributes_at, no_dash, plain_at}
use Rattle.grammar.specs.Parser.{dashed_at}
use Rattle.grammar.specs.Parser.{remark_at, comment_at, data_byte, data_character_at, data_at_lem, setting_at, asking, encoding_if_lem}
use Rattle.grammar.specs.Parser.{declaration_if}
use Rattle.grammar.specs.Parser.{declaration_at, blank_at, remarked_at, aside_at, no_aside, skipped_at, doctype_at, doctype_if}
use Rattle.grammar.specs.Parser.{prologue_at}

pub name_sound : (s : List ℕ) → Ok (λ n r. (s ≡ n ++ r) × Name n) (name_at s)
unfolding name_at
name_sound s =
    bind_ok (byte_sound name_start s) λ a r₁ h₁.
    bind_ok (span_sound name_byte r₁) λ w r₂ h₂.
    bind_ok (test_sound (leb (length (a ∷ w)) 64) r₂) λ _ r₃ h₃.
    good (cc, Grammar.name h₁.1 h₂.1 (leb-true (length (a ∷ w)) 64 h₃.0))

pub gap_sound : (s : List ℕ) → Ok (λ u r. (s ≡ u ++ r) × Gap u) (gap_at s)
unfolding gap_at
gap_sound s =
    bind_ok (byte_sound blank s) λ a r₁ h₁.
    bind_ok (span_sound blank r₁) λ w r₂ h₂.
    good (cc, Grammar.gap h₁.1 h₂.1)

pub equals_sound : (s : List ℕ) → Ok (Takes (λ _ w. Equals w) s) (equals_at s)
unfolding equals_at
equals_sound s =
    bind_ok (span_sound blank s) λ u r₁ h₁.
    bind_ok (mark_sound (ascii "=") r₁) λ _ r₂ e₂.
    bind_ok (span_sound blank r₂) λ v r₃ h₃.
    good (_, simp append_assoc (cc), Grammar.equals h₁.1 h₃.1)

rest_by_sound : (k : CharacterWidth) (a : ℕ) (s : List ℕ) → Ok (λ w r. (s ≡ w ++ r) × Character a w) (rest_by k a s)
unfolding rest_by
rest_by_sound one a s =
    bind_ok (test_sound (lead1 a) s) λ _ r h. good (h.1, utf8_1 h.0)
rest_by_sound two a s =
    bind_ok (test_sound (lead2 a) s) λ _ r h.
    bind_ok (byte_sound continues r) λ b r₁ h₁.
    good (cc, utf8_2 h.0 h₁.1)
rest_by_sound three a s =
    bind_ok (byte_sound (lead3 a) s) λ b r₁ h₁.
    bind_ok (byte_sound continues r₁) λ c r₂ h₂.
    bind_ok (test_sound (not (noncharacter a b c)) r₂) λ _ r₃ h₃.
    good (cc, utf8_3 h₁.1 h₂.1 (not-true (noncharacter a b c) h₃.0))
rest_by_sound four a s =
    bind_ok (byte_sound (lead4 a) s) λ b r₁ h₁.
    bind_ok (byte_sound continues r₁) λ c r₂ h₂.
    bind_ok (byte_sound continues r₂) λ d r₃ h₃.
    good (cc, utf8_4 h₁.1 h₂.1 h₃.1)

pub rest_sound : (a : ℕ) (s : List ℕ) → Ok (λ w r. (s ≡ w ++ r) × Character a w) (rest_at a s)
unfolding rest_at
rest_sound a s = rest_by_sound (width a) a s

-- what `literal_at p` has read: a character whose first byte passes
data Literal (p : ℕ → Bool) : List ℕ → Type 0 where
  literal : {a : ℕ} {w : List ℕ} → Character a w → p a ≡ true → Literal p (a ∷ w)

literal_sound : (p : ℕ → Bool) (s : List ℕ) → Ok (λ w r. (s ≡ w ++ r) × Literal p w) (literal_at p s)
unfolding literal_at
literal_sound p s =
    bind_ok (byte_sound p s) λ a r₁ h₁.
    bind_ok (rest_sound a r₁) λ w r₂ h₂.
    good (cc, literal h₂.1 h₁.1)

said_sound : (k v : List ℕ) → Reference v k → (s : List ℕ) → Ok (Takes Reference s) (stands_for k v s)
unfolding stands_for
said_sound k v h s = bind_ok (mark_sound k s) λ _ r e. good (k, e, h)

pub reference_sound : (s : List ℕ) → Ok (Takes Reference s) (reference_at s)
unfolding reference_at
reference_sound s =
    alt_ok (said_sound _ _ Grammar.amp s)
    (alt_ok (said_sound _ _ Grammar.lt s)
    (alt_ok (said_sound _ _ Grammar.gt s)
    (alt_ok (said_sound _ _ Grammar.quot s) (said_sound _ _ Grammar.apos s))))

reference_whole : {b w : List ℕ} → Reference b w → (r : List ℕ) → parted w r ≡ false
unfolding parted
reference_whole Grammar.amp r = refl
reference_whole Grammar.lt r = refl
reference_whole Grammar.gt r = refl
reference_whole Grammar.quot r = refl
reference_whole Grammar.apos r = refl

-- a character that begins with no carriage return
pub other_whole : (a : ℕ) (w r : List ℕ) → eqb a 13 ≡ false → parted (a ∷ w) r ≡ false
unfolding parted
other_whole a [] r e = rw e
other_whole a (b ∷ w) r e = refl

feed_sound : (t : Bool) (v s : List ℕ) → begins (ascii "\n") s ≡ t
    → Ok (λ b r. (b ≡ v) × TakesWhole (λ _ w. LineEnd w) parted (13 ∷ s) b r) (feed_if t v s)
unfolding feed_if stands_for parted
feed_sound true v s e =
    bind_ok (mark_sound (ascii "\n") s) λ _ r h. good (refl, (ascii "\r\n", ap (λ l. 13 ∷ l) h, Grammar.pair, refl))
feed_sound false v s e = good (refl, (ascii "\r", refl, Grammar.lone, e))

line_end_sound : (v s : List ℕ) → Ok (λ b r. (b ≡ v) × TakesWhole (λ _ w. LineEnd w) parted s b r) (line_end_at v s)
unfolding line_end_at feed_at
line_end_sound v s = bind_ok (mark_sound (ascii "\r") s) λ _ r₁ e₁. rw e₁ (feed_sound (begins (ascii "\n") r₁) v r₁ refl)

pub line_end_takes : (v s : List ℕ) → Ok (Takes (λ _ w. LineEnd w) s) (line_end_at v s)
line_end_takes v s = ok_map (line_end_sound v s) λ b r h. (h.1.0, h.1.1, h.1.2)

text_literal : {w : List ℕ} → Literal text_byte w → (r : List ℕ) → TextCharacter w w × (parted w r ≡ false)
unfolding text_byte
text_literal (literal {a} {w} h e) r =
    let l = not-true (special a) (and_left (not (special a)) _ e) in
    let m = not-true (eqb a 13) (and_right (not (special a)) _ e) in
    (TextCharacter.literal h l m, other_whole a w r m)

pub text_whole : (s : List ℕ) → Ok (TakesWhole TextCharacter parted s) (text_at s)
unfolding text_at
text_whole s =
    alt_ok (ok_map (reference_sound s) λ b r h. (h.0, h.1, TextCharacter.reference h.2, reference_whole h.2 r))
    (alt_ok (ok_map (line_end_sound (ascii "\n") s) λ b r h. (h.1.0, h.1.1, rw h.0 (TextCharacter.line_end h.1.2), h.1.3))
    (ok_map (literal_sound text_byte s) λ w r h. (let k = text_literal h.1 r in (w, h.0, k.0, k.1))))

pub text_sound : (s : List ℕ) → Ok (Takes TextCharacter s) (text_at s)
text_sound s = whole_takes (text_whole s)

value_literal : (q : ℕ) {w : List ℕ} → Literal (value_byte q) w → (r : List ℕ) → ValueCharacter q w w × (parted w r ≡ false)
unfolding value_byte
value_literal q (literal {a} {w} h e) r =
    let l = and_left (not (special a)) _ e in
    let m = and_right (not (special a)) _ e in
    let n = not-true (blank a) (and_right (not (eqb a q)) _ m) in (
      ValueCharacter.literal h (not-true (special a) l) (not-true (eqb a q) (and_left _ (not (blank a)) m)) n,
      other_whole a w r (no_return a n),
    )

value_space : (q a : ℕ) → spacing a ≡ true → (r : List ℕ) → ValueCharacter q (ascii " ") (a ∷ []) × (parted (a ∷ []) r ≡ false)
unfolding spacing
value_space q a e r =
    let m = not-true (eqb a 13) (and_right (blank a) _ e) in (ValueCharacter.space (and_left (blank a) _ e) m, other_whole a [] r m)

pub value_character_whole : (q : ℕ) (s : List ℕ) → Ok (TakesWhole (ValueCharacter q) parted s) (value_character_at q s)
unfolding value_character_at space_at
value_character_whole q s =
    alt_ok (ok_map (reference_sound s) λ b r h. (h.0, h.1, ValueCharacter.reference h.2, reference_whole h.2 r))
    (alt_ok (ok_map (line_end_sound (ascii " ") s) λ b r h. (h.1.0, h.1.1, rw h.0 (ValueCharacter.line_end h.1.2), h.1.3))
    (alt_ok (bind_ok (byte_sound spacing s) λ a r h. good (let k = value_space q a h.1 r in (a ∷ [], h.0, k.0, k.1)))
    (ok_map (literal_sound (value_byte q) s) λ w r h. (let k = value_literal q h.1 r in (w, h.0, k.0, k.1)))))

pub value_character_sound : (q : ℕ) (s : List ℕ) → Ok (Takes (ValueCharacter q) s) (value_character_at q s)
value_character_sound q s = whole_takes (value_character_whole q s)

-- what does not begin a longer text does not begin a shorter one
pub begins_less : (k x r : List ℕ) → begins k (x ++ r) ≡ false → begins k x ≡ false
unfolding begins
begins_less [] x r e = e
begins_less (a ∷ k) [] r e = refl
begins_less (a ∷ k) (b ∷ x) r e = go (eqb b a) e (begins_less k x r)
  where
    go : (t : Bool) → (t && begins k (x ++ r)) ≡ false → (begins k (x ++ r) ≡ false → begins k x ≡ false) → (t && begins k x) ≡ false
    go true e ih = ih e
    go false e ih = refl

-- what is not parted in a longer text is not in a shorter one
pub parted_less : (w x r : List ℕ) → parted w (x ++ r) ≡ false → parted w x ≡ false
unfolding parted
parted_less [] x r e = refl
parted_less (a ∷ b ∷ w) x r e = refl
parted_less (a ∷ []) x r e = go (eqb a 13) e
  where
    go : (t : Bool) → (t && begins (ascii "\n") (x ++ r)) ≡ false → (t && begins (ascii "\n") x) ≡ false
    go true h = begins_less (ascii "\n") x r h
    go false h = refl

pub value_sound : (s : List ℕ) → Ok (Takes Value s) (value_at s)
unfolding value_at
value_sound s =
    bind_ok (byte_sound quote s) λ q r₁ h₁.
    bind_ok (row_sound (begins (q ∷ [])) (λ s _. value_character_whole q s) parted_less r₁) λ bs r₂ h₂.
    bind_ok (mark_sound (q ∷ []) r₂) λ _ r₃ e₃.
    good (_, simp append_assoc (cc), Grammar.value q h₁.1 h₂.2)

pub attribute_sound : (s : List ℕ) → Ok (Takes WritesAttribute s) (attribute_at_lem s)
unfolding attribute_at_lem
attribute_sound s =
    bind_ok (gap_sound s) λ u r₁ h₁.
    bind_ok (name_sound r₁) λ n r₂ h₂.
    bind_ok (equals_sound r₂) λ _ r₃ h₃.
    bind_ok (value_sound r₃) λ v r₄ h₄.
    good (_, simp append_assoc (cc), Grammar.written h₁.1 h₂.1 h₃.2 h₄.2)

pub same_refl : (n : List ℕ) → same_bytes n n ≡ true
unfolding same_bytes
same_refl [] = refl
same_refl (a ∷ n) = rw (eq-eqb a a refl) (same_refl n)

absent_sound : (n : List ℕ) (l : List Attribute) → absent n l ≡ true → Absent n l
unfolding absent
absent_sound n [] e = Grammar.absent_none
absent_sound n (attribute m v ∷ l) e =
    Grammar.absent_more (λ (q : n ≡ m). different (not-true (same_bytes n m) (and_left (not (same_bytes n m)) (absent n l) e)) q)
    (absent_sound n l (and_right (not (same_bytes n m)) (absent n l) e))
  where
    different : same_bytes n m ≡ false → n ≡ m → ⊥
    different f q = let g : same_bytes n m ≡ true = rw (← q) (same_refl n) in clash (cc)

distinct_sound : (l : List Attribute) → distinct l ≡ true → Distinct l
unfolding distinct
distinct_sound [] e = Grammar.distinct_none
distinct_sound (attribute n v ∷ l) e =
    Grammar.distinct_more (absent_sound n l (and_left (absent n l) (distinct l) e))
    (distinct_sound l (and_right (absent n l) (distinct l) e))

pub attributes_sound : (s : List ℕ) → Ok (Takes Attributes s) (attributes_at s)
unfolding attributes_at
attributes_sound s =
    bind_ok (all_of_sound attribute_sound (ends closing) s) λ l r₁ h₁.
    bind_ok (test_sound (distinct l) r₁) λ _ r₂ h₂.
    bind_ok (test_sound (leb (length l) 16) r₂) λ _ r₃ h₃.
    good (h₁.0, (cc), Grammar.attributes h₁.2 (distinct_sound l h₂.0) (leb-true (length l) 16 h₃.0))

remark_plain : {w : List ℕ} → Literal no_dash w → Remark [] w
unfolding no_dash
remark_plain (literal {a} h e) = Grammar.plain h (not-true (eqb a 45) e)

remark_dashed : {w : List ℕ} → Literal no_dash w → Remark [] (45 ∷ w)
unfolding no_dash
remark_dashed (literal {a} h e) = Grammar.dashed h (not-true (eqb a 45) e)

pub remark_sound : (s : List ℕ) → Ok (Takes Remark s) (remark_at s)
unfolding remark_at plain_at dashed_at
remark_sound s =
    alt_ok (bind_ok (literal_sound no_dash s) λ w r h. good (w, h.0, remark_plain h.1))
    (bind_ok (mark_sound (ascii "-") s) λ _ r₁ e₁.
    bind_ok (literal_sound no_dash r₁) λ w r h. good (45 ∷ w, cc, remark_dashed h.1))

pub comment_sound : (s : List ℕ) → Ok (Takes (λ _ w. Comment w) s) (comment_at s)
unfolding comment_at
comment_sound s =
    bind_ok (mark_sound (ascii "<!--") s) λ _ r₁ e₁.
    bind_ok (all_of_sound remark_sound (begins (ascii "--")) r₁) λ bs r₂ h₂.
    ok_map (mark_sound (ascii "-->") r₂) λ _ r₃ e₃.
    (_, simp append_assoc (cc), Grammar.comment h₂.2)

data_literal : {w : List ℕ} → Literal data_byte w → (r : List ℕ) → DataCharacter w w × (parted w r ≡ false)
unfolding data_byte
data_literal (literal {a} {w} h e) r = let m = not-true (eqb a 13) e in (DataCharacter.literal h m, other_whole a w r m)

data_character_whole : (s : List ℕ) → Ok (TakesWhole DataCharacter parted s) (data_character_at s)
unfolding data_character_at
data_character_whole s =
    alt_ok (ok_map (line_end_sound (ascii "\n") s) λ b r h. (h.1.0, h.1.1, rw h.0 (DataCharacter.line_end h.1.2), h.1.3))
    (ok_map (literal_sound data_byte s) λ w r h. (let k = data_literal h.1 r in (w, h.0, k.0, k.1)))

pub data_character_sound : (s : List ℕ) → Ok (Takes DataCharacter s) (data_character_at s)
data_character_sound s = whole_takes (data_character_whole s)

data_character_open : (s : List ℕ) → begins (ascii "]]>") s ≡ false → Ok (TakesWhole DataCharacter closed s) (data_character_at s)
unfolding closed
data_character_open s e = ok_map (data_character_whole s) λ b r h.
    (let q = h.1 in let f : begins (ascii "]]>") (h.0 ++ r) ≡ false = rw q at e in (h.0, h.1, h.2, rw h.3 f))

closed_less : (w x r : List ℕ) → closed w (x ++ r) ≡ false → closed w x ≡ false
unfolding closed
closed_less w x r e =
    let p = parted_less w x r (or_left (parted w (x ++ r)) _ e) in
    let there = or_right (parted w (x ++ r)) _ e in
    let q : begins (ascii "]]>") (w ++ x) ≡ false = begins_less (ascii "]]>") (w ++ x) r (rw append_assoc there) in
    rw p q

pub data_sound : (s : List ℕ) → Ok (Takes CData s) (data_at_lem s)
unfolding data_at_lem
data_sound s =
    bind_ok (mark_sound (ascii "<![CDATA[") s) λ _ r₁ e₁.
    bind_ok (row_sound (begins (ascii "]]>")) data_character_open closed_less r₁) λ bs r₂ h₂.
    bind_ok (mark_sound (ascii "]]>") r₂) λ _ r₃ e₃.
    good (_, simp append_assoc (cc), Grammar.cdata h₂.2)

pub setting_sound : (k v : List ℕ) (s : List ℕ) → Ok (Takes (λ _ w. Setting k v w) s) (setting_at k v s)
unfolding setting_at
setting_sound k v s =
    bind_ok (gap_sound s) λ u r₁ h₁.
    bind_ok (mark_sound k r₁) λ _ r₂ e₂.
    bind_ok (equals_sound r₂) λ _ r₃ h₃.
    bind_ok (byte_sound quote r₃) λ q r₄ h₄.
    bind_ok (mark_sound v r₄) λ _ r₅ e₅.
    ok_map (mark_sound (q ∷ []) r₅) λ _ r₆ e₆.
    (_, simp append_assoc (cc), Grammar.setting q h₁.1 h₃.2 h₄.1)

encoding_sound : (t : Bool) (s : List ℕ) → Ok (Takes (λ _ w. Encoding w) s) (encoding_if_lem t s)
unfolding encoding_if_lem
encoding_sound true s = good ([], refl, Grammar.no_encoding)
encoding_sound false s = ok_map (setting_sound (ascii "encoding") (ascii "UTF-8") s) λ _ r h. (h.0, h.1, Grammar.encoding h.2)

declaration_if_sound : (t : Bool) (s : List ℕ) → Ok (Takes (λ _ w. Declaration w) s) (declaration_if t s)
unfolding declaration_if
declaration_if_sound false s = good ([], refl, Grammar.no_declaration)
declaration_if_sound true s =
    bind_ok (mark_sound (ascii "<?xml") s) λ _ r₁ e₁.
    bind_ok (setting_sound (ascii "version") (ascii "1.0") r₁) λ _ r₂ h₂.
    bind_ok (encoding_sound (ends asking r₂) r₂) λ _ r₃ h₃.
    bind_ok (span_sound blank r₃) λ u r₄ h₄.
    ok_map (mark_sound (ascii "?>") r₄) λ _ r₅ e₅.
    (_, simp append_assoc (cc), Grammar.declaration h₂.2 h₃.2 h₄.1)

pub declaration_sound : (s : List ℕ) → Ok (Takes (λ _ w. Declaration w) s) (declaration_at s)
unfolding declaration_at
declaration_sound s = declaration_if_sound (begins (ascii "<?") s) s

pub aside_sound : (s : List ℕ) → Ok (Takes Aside s) (aside_at s)
unfolding aside_at blank_at remarked_at
aside_sound s =
    alt_ok (bind_ok (byte_sound blank s) λ a r h. good (a ∷ [], h.0, Grammar.blank_aside h.1))
    (bind_ok (comment_sound s) λ _ r h. good (h.0, h.1, Grammar.comment_aside h.2))

skipped_literal : {w : List ℕ} → Literal skipped w → Skipped [] w
skipped_literal (literal h e) = Grammar.skip h e

pub skipped_sound : (s : List ℕ) → Ok (Takes Skipped s) (skipped_at s)
unfolding skipped_at
skipped_sound s = bind_ok (literal_sound skipped s) λ w r h. good (w, h.0, skipped_literal h.1)

pub doctype_sound : (s : List ℕ) → Ok (Takes (λ _ w. Doctype w) s) (doctype_at s)
unfolding doctype_at
doctype_sound s =
    bind_ok (mark_sound (ascii "<!DOCTYPE") s) λ _ r₁ e₁.
    bind_ok (all_of_sound skipped_sound (begins (ascii ">")) r₁) λ bs r₂ h₂.
    ok_map (mark_sound (ascii ">") r₂) λ _ r₃ e₃.
    (_, simp append_assoc (cc), Grammar.doctype h₂.2)

doctype_if_sound : {bs : List (List ℕ)} {u : List ℕ} → Sequence Aside bs u → (t : Bool) (s : List ℕ)
    → Ok (λ _ r. (w : List ℕ) × (s ≡ w ++ r) × Prologue (u ++ w)) (doctype_if t s)
unfolding doctype_if
doctype_if_sound {u = u} h false s = good ([], refl, rw (append-nil u) (Grammar.untyped h))
doctype_if_sound h true s =
    bind_ok (doctype_sound s) λ _ r₁ h₁.
    bind_ok (all_of_sound aside_sound no_aside r₁) λ _ r₂ h₂.
    good (h₁.0 ++ h₂.0, simp append_assoc (cc), Grammar.typed h h₁.2 h₂.2)

pub prologue_sound : (s : List ℕ) → Ok (Takes (λ _ w. Prologue w) s) (prologue_at s)
unfolding prologue_at
prologue_sound s =
    bind_ok (all_of_sound aside_sound no_aside s) λ _ r₁ h₁.
    ok_map (doctype_if_sound h₁.2 (begins (ascii "<!D") r₁) r₁) λ _ r₂ h₂. (h₁.0 ++ h₂.0, simp append_assoc (cc), h₂.2)
