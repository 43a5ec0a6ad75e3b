-- Completeness, below elements: what a production writes, its reader reads, and it leaves what stands behind.
use Rattle.std.specs.Prelude.{◌≡◌, refl, List, [], ◌∷◌, ◌++◌, ℕ, ◌≤◌, ◌<◌, Bool, true, false, ◌&&◌, not, eqb, length}
use Rattle.std.proofs.Common.{sym, append_assoc, length-append, arith, le-leb, eq-eqb, ne_eqb, eqb-true}
use Rattle.std.proofs.lemmas.Bool.{lt-leb}
use Rattle.lists.proofs.Laws.Booleans.{and_left, and_right, or_right, refute, not_so}
use Rattle.grammar.specs.Bytes.{ascii, blank, name_start, name_byte, quote, special, Each, no_byte, a_byte, Sequence, no_more}
use Rattle.grammar.specs.Bytes.{one_more, begins, parted, letter}
use Rattle.grammar.specs.Characters.{Character, utf8_1, utf8_2, utf8_3, utf8_4, lead3, lead4, continues}
use Rattle.grammar.specs.Document.{Attribute}
use Rattle.grammar.specs.Grammar
use Rattle.grammar.specs.Grammar.{Name, Gap, Equals, Reference, TextCharacter, ValueCharacter, Value, WritesAttribute, Absent}
use Rattle.grammar.specs.Grammar.{Distinct, Attributes, Remark, Comment, LineEnd}
use Rattle.grammar.specs.Read.{fail, got, bind, test, mark, stops, alt}
use Rattle.grammar.proofs.Laws.Read.{test_complete}
use Rattle.grammar.proofs.Laws.Read.{mark_complete, mark_other, byte_complete, byte_other, span_complete, Item, all_of_complete}
use Rattle.grammar.proofs.Laws.Read.{RowItem, row_complete}
use Rattle.grammar.proofs.Laws.Facts.{blank_in, name_start_in, name_byte_in, quote_in, closing_in, lead1_in, lead2_in, lead3_in}
use Rattle.grammar.proofs.Laws.Facts.{lead4_in, no_return}
use Rattle.grammar.specs.Parser.{name_at, gap_at, equals_at, one, two, three, four, width, width_by, rest_by}
use Rattle.grammar.specs.Parser.{rest_at, literal_at, stands_for, reference_at, feed_if, feed_at, line_end_at, text_byte, text_at}
use Rattle.grammar.specs.Parser.{spacing, space_at, value_byte, value_character_at}
use Rattle.grammar.specs.Parser.{value_at, attribute_at_lem, ends, closing, same_bytes, absent, distinct, attributes_at, no_dash, plain_at}
use Rattle.grammar.specs.Parser.{dashed_at, remark_at, comment_at}

pub name_complete : {n : List ℕ} → Name n → (r : List ℕ) → stops name_byte r ≡ true → name_at (n ++ r) ≡ got n r
unfolding name_at bind
name_complete (Grammar.name {a} {w} h₁ h₂ h₃) r e =
    rw (byte_complete name_start a h₁ (w ++ r), span_complete name_byte h₂ r e, test_complete (le-leb (length (a ∷ w)) 64 h₃) r)

pub gap_complete : {u : List ℕ} → Gap u → (r : List ℕ) → stops blank r ≡ true → gap_at (u ++ r) ≡ got u r
unfolding gap_at bind
gap_complete (Grammar.gap {a} {w} h₁ h₂) r e = rw (byte_complete blank a h₁ (w ++ r), span_complete blank h₂ r e)

pub equals_complete : {w : List ℕ} → Equals w → (r : List ℕ) → stops blank r ≡ true → equals_at (w ++ r) ≡ got tt r
unfolding equals_at bind stops blank
equals_complete (Grammar.equals {u} {v} h₁ h₂) r e =
    simp append_assoc (rw (span_complete blank h₁ (61 ∷ (v ++ r)) refl, mark_complete (ascii "=") (v ++ r), span_complete blank h₂ r e))

-- where a name ends, and where blanks end
pub blank_ends_name : (a : ℕ) → blank a ≡ true → not (name_byte a) ≡ true
blank_ends_name a h = not_so (refute (name_byte a) λ e. let x = name_byte_in a e in let y = blank_in a h in omega arith)

pub blanks_end_name : {u : List ℕ} → Each blank u → (r : List ℕ) → stops name_byte r ≡ true → stops name_byte (u ++ r) ≡ true
unfolding stops
blanks_end_name no_byte r e = e
blanks_end_name (a_byte {a} h k) r e = blank_ends_name a h

equals_end_name : {w : List ℕ} → Equals w → (r : List ℕ) → stops name_byte (w ++ r) ≡ true
unfolding stops name_byte letter
equals_end_name (Grammar.equals {u} {v} h₁ h₂) r = simp append_assoc (blanks_end_name h₁ (61 ∷ (v ++ r)) refl)

pub high_no_blank : (a : ℕ) → 32 < a → blank a ≡ false
high_no_blank a h = refute (blank a) λ e. let x = blank_in a e in omega arith

pub quote_ends_blanks : (q : ℕ) → quote q ≡ true → (r : List ℕ) → stops blank (q ∷ r) ≡ true
unfolding stops
quote_ends_blanks q h r = let x = (quote_in q h).0 in not_so (high_no_blank q (omega arith))

pub name_ends_blanks : {n : List ℕ} → Name n → (r : List ℕ) → stops blank (n ++ r) ≡ true
unfolding stops
name_ends_blanks (Grammar.name {a} h₁ h₂ h₃) r = let x = name_start_in a h₁ in not_so (high_no_blank a (omega arith))

-- characters
width_1 : (a : ℕ) → a ≤ 127 → width a ≡ one
unfolding width width_by
width_1 a h = rw (le-leb a 127 h)

width_2 : (a : ℕ) → 127 < a → a ≤ 223 → width a ≡ two
unfolding width width_by
width_2 a h k = rw (lt-leb a 127 h, le-leb a 223 k)

width_3 : (a : ℕ) → 223 < a → a ≤ 239 → width a ≡ three
unfolding width width_by
width_3 a h k = let h' : 127 < a = omega arith in rw (lt-leb a 127 h', lt-leb a 223 h, le-leb a 239 k)

width_4 : (a : ℕ) → 239 < a → width a ≡ four
unfolding width width_by
width_4 a h = let h' : 127 < a = omega arith in let h'' : 223 < a = omega arith in rw (lt-leb a 127 h', lt-leb a 223 h'', lt-leb a 239 h)

rest_complete : {a : ℕ} {w : List ℕ} → Character a w → (r : List ℕ) → rest_at a (w ++ r) ≡ got w r
unfolding rest_at rest_by bind
rest_complete (utf8_1 {a} h) r = rw (width_1 a (lead1_in a h), test_complete h r)
rest_complete (utf8_2 {a} {b} h k) r =
    let x = lead2_in a h in
    let w : width a ≡ two = width_2 a (omega arith) (omega arith) in
    rw (w, test_complete h (b ∷ r), byte_complete continues b k r)
rest_complete (utf8_3 {a} {b} {c} h k n) r =
    let x = lead3_in a b h in
    let w : width a ≡ three = width_3 a (omega arith) (omega arith) in
    rw (w, byte_complete (lead3 a) b h (c ∷ r), byte_complete continues c k r, test_complete (not_so n) r)
rest_complete (utf8_4 {a} {b} {c} {d} h k l) r =
    let x = lead4_in a b h in
    let w : width a ≡ four = width_4 a (omega arith) in
    rw (w, byte_complete (lead4 a) b h (c ∷ d ∷ r), byte_complete continues c k (d ∷ r), byte_complete continues d l r)

pub literal_complete : (p : ℕ → Bool) {a : ℕ} {w : List ℕ} → Character a w → p a ≡ true → (r : List ℕ)
    → literal_at p (a ∷ (w ++ r)) ≡ got (a ∷ w) r
unfolding literal_at bind
literal_complete p {a} {w} h e r = rw (byte_complete p a e (w ++ r), rest_complete h r)

literal_other : (p : ℕ → Bool) (a : ℕ) → p a ≡ false → (s : List ℕ) → literal_at p (a ∷ s) ≡ fail
unfolding literal_at bind
literal_other p a e s = rw (byte_other p a e s)

pub reference_complete : {b w : List ℕ} → Reference b w → (r : List ℕ) → reference_at (w ++ r) ≡ got b r
unfolding reference_at stands_for alt mark test bind
reference_complete Grammar.amp r = refl
reference_complete Grammar.lt r = refl
reference_complete Grammar.gt r = refl
reference_complete Grammar.quot r = refl
reference_complete Grammar.apos r = refl

pub reference_other : (a : ℕ) → eqb a 38 ≡ false → (s : List ℕ) → reference_at (a ∷ s) ≡ fail
unfolding reference_at stands_for alt bind
reference_other a e s =
    rw (
      mark_other 38 a (ascii "amp;") s e,
      mark_other 38 a (ascii "lt;") s e,
      mark_other 38 a (ascii "gt;") s e,
      mark_other 38 a (ascii "quot;") s e,
      mark_other 38 a (ascii "apos;") s e,
    )

-- the end of a line; a text that begins with none
pub line_end_complete : (v : List ℕ) {w : List ℕ} → LineEnd w → (r : List ℕ) → parted w r ≡ false → line_end_at v (w ++ r) ≡ got v r
unfolding line_end_at feed_at feed_if stands_for begins parted bind mark test
line_end_complete v Grammar.pair r e = refl
line_end_complete v Grammar.lone r e = rw e

pub line_end_other : (v : List ℕ) (a : ℕ) → eqb a 13 ≡ false → (s : List ℕ) → line_end_at v (a ∷ s) ≡ fail
unfolding line_end_at bind
line_end_other v a e s = rw (mark_other 13 a [] s e)

pub line_end_no_reference : {w : List ℕ} → LineEnd w → (r : List ℕ) → reference_at (w ++ r) ≡ fail
line_end_no_reference Grammar.pair r = reference_other 13 refl _
line_end_no_reference Grammar.lone r = reference_other 13 refl _

pub text_complete : {b w : List ℕ} → TextCharacter b w → (r : List ℕ) → parted w r ≡ false → text_at (w ++ r) ≡ got b r
unfolding text_at alt special text_byte
text_complete (TextCharacter.literal {a} {w} h e f) r p =
    let fits : text_byte a ≡ true = rw (e, f) in
    rw (reference_other a (or_right (eqb a 60) (eqb a 38) e) (w ++ r), line_end_other (ascii "\n") a f (w ++ r))
    (literal_complete text_byte h fits r)
text_complete (TextCharacter.line_end k) r p = rw (line_end_no_reference k r, line_end_complete (ascii "\n") k r p)
text_complete (TextCharacter.reference k) r p = rw (reference_complete k r)

-- a reference begins with `&`
pub data Ampersand : List ℕ → Type 0 where
  ampersand : (w : List ℕ) → Ampersand (38 ∷ w)

pub reference_ampersand : {b w : List ℕ} → Reference b w → Ampersand w
reference_ampersand Grammar.amp = ampersand _
reference_ampersand Grammar.lt = ampersand _
reference_ampersand Grammar.gt = ampersand _
reference_ampersand Grammar.quot = ampersand _
reference_ampersand Grammar.apos = ampersand _

pub ampersand_long : {w : List ℕ} → Ampersand w → 0 < length w
ampersand_long (ampersand w) = omega arith

pub line_end_long : {w : List ℕ} → LineEnd w → 0 < length w
line_end_long Grammar.pair = omega arith
line_end_long Grammar.lone = omega arith

pub text_long : {b w : List ℕ} → TextCharacter b w → 0 < length w
text_long (TextCharacter.literal h e f) = omega arith
text_long (TextCharacter.line_end k) = line_end_long k
text_long (TextCharacter.reference k) = ampersand_long (reference_ampersand k)

-- values
value_character_reads : (q : ℕ) {b w : List ℕ} → ValueCharacter q b w → (r : List ℕ) → parted w r ≡ false
    → value_character_at q (w ++ r) ≡ got b r
unfolding value_character_at alt bind space_at special value_byte spacing
value_character_reads q (ValueCharacter.literal {a} {w} h e₁ e₂ e₃) r p =
    let fits : value_byte q a ≡ true = rw (e₁, e₂, e₃) in
    let other : spacing a ≡ false = rw e₃ in
    rw (
      reference_other a (or_right (eqb a 60) (eqb a 38) e₁) (w ++ r),
      line_end_other (ascii " ") a (no_return a e₃) (w ++ r),
      byte_other spacing a other (w ++ r),
    )
    (literal_complete (value_byte q) h fits r)
value_character_reads q (ValueCharacter.space {a} h f) r p =
    let low = blank_in a h in
    let fits : spacing a ≡ true = rw (h, f) in
    rw (reference_other a (ne_eqb a 38 λ e. omega arith) r, line_end_other (ascii " ") a f r, byte_complete spacing a fits r)
value_character_reads q (ValueCharacter.line_end k) r p = rw (line_end_no_reference k r, line_end_complete (ascii " ") k r p)
value_character_reads q (ValueCharacter.reference k) r p = rw (reference_complete k r)

ampersand_goes : (q : ℕ) → quote q ≡ true → {w : List ℕ} → Ampersand w → (r : List ℕ) → begins (q ∷ []) (w ++ r) ≡ false
unfolding begins
ampersand_goes q h (ampersand w) r = let other = (quote_in q h).1 in rw (ne_eqb 38 q λ e. other (sym e))

value_character_goes : (q : ℕ) → quote q ≡ true → {b w : List ℕ} → ValueCharacter q b w → (r : List ℕ) → begins (q ∷ []) (w ++ r) ≡ false
unfolding begins
value_character_goes q h (ValueCharacter.literal k e₁ e₂ e₃) r = rw e₂
value_character_goes q h (ValueCharacter.space {a} k f) r =
    let low = blank_in a k in let high = (quote_in q h).0 in rw (ne_eqb a q λ e. omega arith)
value_character_goes q h (ValueCharacter.line_end Grammar.pair) r = let high = (quote_in q h).0 in rw (ne_eqb 13 q λ e. omega arith)
value_character_goes q h (ValueCharacter.line_end Grammar.lone) r = let high = (quote_in q h).0 in rw (ne_eqb 13 q λ e. omega arith)
value_character_goes q h (ValueCharacter.reference k) r = ampersand_goes q h (reference_ampersand k) r

pub value_character_long : (q : ℕ) {b w : List ℕ} → ValueCharacter q b w → 0 < length w
value_character_long q (ValueCharacter.literal k e₁ e₂ e₃) = omega arith
value_character_long q (ValueCharacter.space k f) = omega arith
value_character_long q (ValueCharacter.line_end k) = line_end_long k
value_character_long q (ValueCharacter.reference k) = ampersand_long (reference_ampersand k)

begins_one : (q : ℕ) (r : List ℕ) → begins (q ∷ []) (q ∷ r) ≡ true
unfolding begins
begins_one q r = rw (eq-eqb q q refl)

-- what is not parted from the rest of a value is not parted from its end
pub parted_apart : (w x : List ℕ) (q : ℕ) (r : List ℕ) → eqb q 10 ≡ false → parted w x ≡ false → parted w (x ++ (q ∷ r)) ≡ false
unfolding parted begins
parted_apart [] x q r h e = refl
parted_apart (a ∷ b ∷ w) x q r h e = refl
parted_apart (a ∷ []) [] q r h e = rw h (go (eqb a 13))
  where
    go : (t : Bool) → (t && false) ≡ false
    go true = refl
    go false = refl
parted_apart (a ∷ []) (b ∷ x) q r h e = e

value_item : (q : ℕ) → quote q ≡ true → (r : List ℕ)
    → RowItem (ValueCharacter q) parted (begins (q ∷ [])) (value_character_at q) (q ∷ r)
value_item q h r =
    let high = (quote_in q h).0 in
    let feed : eqb q 10 ≡ false = ne_eqb q 10 λ e. omega arith in
    record {
      reads = λ k r e. value_character_reads q k r e;
      goes = λ k r e. value_character_goes q h k r;
      long = λ k. value_character_long q k;
      apart = λ {a} {w} k x e. parted_apart w x q r feed e;
      stops_there = begins_one q r;
    }

pub value_complete : {v w : List ℕ} → Value v w → (r : List ℕ) → value_at (w ++ r) ≡ got v r
unfolding value_at bind
value_complete (Grammar.value q {bs} {w} h t) r =
    simp append_assoc (rw (
      byte_complete quote q h (w ++ (q ∷ r)),
      row_complete (value_item q h r) t,
      mark_complete (q ∷ []) r,
    ))

pub value_ends_blanks : {v w : List ℕ} → Value v w → (r : List ℕ) → stops blank (w ++ r) ≡ true
value_ends_blanks (Grammar.value q h t) r = quote_ends_blanks q h _

-- attributes
attribute_reads : {a : Attribute} {w : List ℕ} → WritesAttribute a w → (r : List ℕ) → attribute_at_lem (w ++ r) ≡ got a r
unfolding attribute_at_lem bind
attribute_reads (Grammar.written {u} {n} {e} {v} {w} h₁ h₂ h₃ h₄) r =
    simp append_assoc (rw (
      gap_complete h₁ (n ++ (e ++ (w ++ r))) (name_ends_blanks h₂ (e ++ (w ++ r))),
      name_complete h₂ (e ++ (w ++ r)) (equals_end_name h₃ (w ++ r)),
      equals_complete h₃ (w ++ r) (value_ends_blanks h₄ r),
      value_complete h₄ r,
    ))

pub ends_blanks : (p : ℕ → Bool) {u : List ℕ} → Each blank u → (r : List ℕ) → ends p (u ++ r) ≡ ends p r
unfolding ends
ends_blanks p no_byte r = refl
ends_blanks p (a_byte h k) r = rw (h, ends) (ends_blanks p k r)

pub gap_each : {u : List ℕ} → Gap u → Each blank u
gap_each (Grammar.gap h k) = a_byte h k

pub ends_name : {n : List ℕ} → Name n → (r : List ℕ) → ends closing (n ++ r) ≡ false
unfolding ends
ends_name (Grammar.name {a} h₁ h₂ h₃) r =
    let high = name_start_in a h₁ in
    rw (high_no_blank a (omega arith), ends) (refute (closing a) λ e. let low = closing_in a e in omega arith)

attribute_goes : {a : Attribute} {w : List ℕ} → WritesAttribute a w → (r : List ℕ) → ends closing (w ++ r) ≡ false
attribute_goes (Grammar.written {u} {n} {e} {v} {w} h₁ h₂ h₃ h₄) r =
    simp append_assoc (rw (ends_blanks closing (gap_each h₁) (n ++ (e ++ (w ++ r)))) (ends_name h₂ (e ++ (w ++ r))))

gap_long : {u : List ℕ} → Gap u → 0 < length u
gap_long (Grammar.gap h k) = omega arith

pub attribute_long : {a : Attribute} {w : List ℕ} → WritesAttribute a w → 0 < length w
attribute_long (Grammar.written {u} {n} {e} {v} {w} h₁ h₂ h₃ h₄) = simp length-append (omega (arith, gap_long h₁))

attribute_item : Item WritesAttribute (ends closing) attribute_at_lem
attribute_item = record { reads = λ k r. attribute_reads k r; goes = λ k r. attribute_goes k r; long = λ k. attribute_long k }

pub same_equal : (n m : List ℕ) → same_bytes n m ≡ true → n ≡ m
unfolding same_bytes
same_equal [] [] e = refl
same_equal [] (b ∷ m) e = cc
same_equal (a ∷ n) [] e = cc
same_equal (a ∷ n) (b ∷ m) e =
    let x = eqb-true a b (and_left (eqb a b) (same_bytes n m) e) in
    let y = same_equal n m (and_right (eqb a b) (same_bytes n m) e) in cc

absent_complete : {n : List ℕ} {l : List Attribute} → Absent n l → absent n l ≡ true
unfolding absent
absent_complete Grammar.absent_none = refl
absent_complete {n} (Grammar.absent_more {m} h k) = rw (refute (same_bytes n m) (λ e. h (same_equal n m e))) (absent_complete k)

distinct_complete : {l : List Attribute} → Distinct l → distinct l ≡ true
unfolding distinct
distinct_complete Grammar.distinct_none = refl
distinct_complete (Grammar.distinct_more h k) = rw (absent_complete h) (distinct_complete k)

pub attributes_complete : {l : List Attribute} {w : List ℕ} → Attributes l w → (r : List ℕ) → ends closing r ≡ true
    → attributes_at (w ++ r) ≡ got l r
unfolding attributes_at bind
attributes_complete (Grammar.attributes {l} t h k) r e =
    rw (all_of_complete attribute_item t r e, test_complete (distinct_complete h) r, test_complete (le-leb (length l) 16 k) r)

sequence_ends_name : {l : List Attribute} {w : List ℕ} → Sequence WritesAttribute l w → (r : List ℕ) → stops name_byte r ≡ true
    → stops name_byte (w ++ r) ≡ true
unfolding stops
sequence_ends_name no_more r e = e
sequence_ends_name (one_more (Grammar.written (Grammar.gap {a} h k) h₂ h₃ h₄) t) r e = blank_ends_name a h

pub attributes_end_name : {l : List Attribute} {w : List ℕ} → Attributes l w → (r : List ℕ) → stops name_byte r ≡ true
    → stops name_byte (w ++ r) ≡ true
attributes_end_name (Grammar.attributes t h k) r e = sequence_ends_name t r e

-- comments
remark_reads : {b w : List ℕ} → Remark b w → (r : List ℕ) → remark_at (w ++ r) ≡ got b r
unfolding remark_at plain_at dashed_at alt bind no_dash
remark_reads (Grammar.plain {a} {w} h e) r = rw (literal_complete no_dash h (not_so e) r)
remark_reads (Grammar.dashed {a} {w} h e) r =
    rw (literal_other no_dash 45 refl (a ∷ (w ++ r)), mark_complete (ascii "-") (a ∷ (w ++ r)), literal_complete no_dash h (not_so e) r)

remark_goes : {b w : List ℕ} → Remark b w → (r : List ℕ) → begins (ascii "--") (w ++ r) ≡ false
unfolding begins
remark_goes (Grammar.plain h e) r = rw e
remark_goes (Grammar.dashed h e) r = rw e

pub remark_long : {b w : List ℕ} → Remark b w → 0 < length w
remark_long (Grammar.plain h e) = omega arith
remark_long (Grammar.dashed h e) = omega arith

remark_item : Item Remark (begins (ascii "--")) remark_at
remark_item = record { reads = λ k r. remark_reads k r; goes = λ k r. remark_goes k r; long = λ k. remark_long k }

pub comment_complete : {w : List ℕ} → Comment w → (r : List ℕ) → comment_at (w ++ r) ≡ got tt r
unfolding comment_at bind begins
comment_complete (Grammar.comment {bs} {w} t) r =
    simp append_assoc (rw (
      mark_complete (ascii "<!--") (w ++ (ascii "-->" ++ r)),
      all_of_complete remark_item t (ascii "-->" ++ r) refl,
      mark_complete (ascii "-->") r,
    ))
