-- What a scan passes over: names, blanks, attributes, characters of text.
use Rattle.std.specs.Prelude.{◌≡◌, refl, List, [], ◌∷◌, ◌++◌, ℕ, ◌<◌, Bool, true, false, not, ◌&&◌, ◌||◌, eqb}
use Rattle.std.proofs.Common.{ap, sym, ◌∙◌, append_assoc, arith}
use borrow.Author.Tests.{eq-eqb, ne_eqb, not-true}
use Rattle.lists.proofs.Laws.Booleans.{or_left, clash, not_so}
use Rattle.grammar.specs.Bytes.{SequenceUnless, none_more, and_more, parted}
use Rattle.grammar.specs.Bytes.{blank, letter, name_start, name_byte, quote, special, Each, no_byte, a_byte, Sequence, no_more, one_more}
use Rattle.grammar.specs.Document.{Attribute}
use Rattle.grammar.specs.Grammar
use Rattle.grammar.specs.Grammar.{Name, Gap, gap, Equals, equals, Reference, TextCharacter, ValueCharacter, Value, value, WritesAttribute}
use Rattle.grammar.specs.Grammar.{written, Attributes}
use Rattle.grammar.specs.Read.{got}
use Rattle.grammar.specs.Parser.{closing}
use Rattle.grammar.proofs.Laws.Facts.{blank_in, quote_in, name_start_in, name_byte_in}
pub use Rattle.grammar.proofs.Laws.Others.{other, is_other_lem, character_other}
use Rattle.nodes.specs.Places.{pick}
use Rattle.nodes.specs.Scan.{to_tag, past_tag, quoting, finishes, finish, tag_from}

each_map : {p q : ℕ → Bool} {w : List ℕ} → ((a : ℕ) → p a ≡ true → q a ≡ true) → Each p w → Each q w
each_map f no_byte = no_byte
each_map f (a_byte h k) = a_byte (f _ h) (each_map f k)

-- a reference holds no `<` and no quote
reference_open : {b w : List ℕ} → Reference b w → Each (other 60) w
unfolding other
reference_open Grammar.amp = a_byte refl (a_byte refl (a_byte refl (a_byte refl (a_byte refl no_byte))))
reference_open Grammar.lt = a_byte refl (a_byte refl (a_byte refl (a_byte refl no_byte)))
reference_open Grammar.gt = a_byte refl (a_byte refl (a_byte refl (a_byte refl no_byte)))
reference_open Grammar.quot = a_byte refl (a_byte refl (a_byte refl (a_byte refl (a_byte refl (a_byte refl no_byte)))))
reference_open Grammar.apos = a_byte refl (a_byte refl (a_byte refl (a_byte refl (a_byte refl (a_byte refl no_byte)))))

module _ (q : ℕ) (h : quote q ≡ true) where
  letter_other : (a : ℕ) → 39 < a → other q a ≡ true
  letter_other a l = let x = (quote_in q h).0 in is_other_lem q a λ e. omega arith

  low_other : (a : ℕ) → a < 34 → other q a ≡ true
  low_other a l = let x = (quote_in q h).0 in is_other_lem q a λ e. omega arith

  amp_other : other q 38 ≡ true
  amp_other = let f = (quote_in q h).1 in is_other_lem q 38 λ e. f (sym e)

  reference_quote : {b w : List ℕ} → Reference b w → Each (other q) w
  reference_quote Grammar.amp = a_byte amp_other
      (a_byte (letter_other 97 (omega arith))
      (a_byte (letter_other 109 (omega arith)) (a_byte (letter_other 112 (omega arith)) (a_byte (letter_other 59 (omega arith)) no_byte))))
  reference_quote Grammar.lt = a_byte amp_other
      (a_byte (letter_other 108 (omega arith)) (a_byte (letter_other 116 (omega arith)) (a_byte (letter_other 59 (omega arith)) no_byte)))
  reference_quote Grammar.gt = a_byte amp_other
      (a_byte (letter_other 103 (omega arith)) (a_byte (letter_other 116 (omega arith)) (a_byte (letter_other 59 (omega arith)) no_byte)))
  reference_quote Grammar.quot = a_byte amp_other
      (a_byte (letter_other 113 (omega arith))
      (a_byte (letter_other 117 (omega arith))
      (a_byte (letter_other 111 (omega arith)) (a_byte (letter_other 116 (omega arith)) (a_byte (letter_other 59 (omega arith)) no_byte)))))
  reference_quote Grammar.apos = a_byte amp_other
      (a_byte (letter_other 97 (omega arith))
      (a_byte (letter_other 112 (omega arith))
      (a_byte (letter_other 111 (omega arith)) (a_byte (letter_other 115 (omega arith)) (a_byte (letter_other 59 (omega arith)) no_byte)))))

  value_other : {b w : List ℕ} → ValueCharacter q b w → Each (other q) w
  value_other (ValueCharacter.literal k e₁ e₂ e₃) = let x = (quote_in q h).0 in character_other q (omega arith) k e₂
  value_other (ValueCharacter.space {a} e _) = let x = blank_in a e in let y = (quote_in q h).0 in
      a_byte (is_other_lem q a λ e. omega arith) no_byte
  value_other (ValueCharacter.line_end Grammar.pair) = a_byte (low_other 13 (omega arith)) (a_byte (low_other 10 (omega arith)) no_byte)
  value_other (ValueCharacter.line_end Grammar.lone) = a_byte (low_other 13 (omega arith)) no_byte
  value_other (ValueCharacter.reference k) = reference_quote k

-- text: no `<`
to_tag_past : (a : ℕ) (s : List ℕ) → other 60 a ≡ true → to_tag (a ∷ s) ≡ to_tag s
unfolding to_tag other
to_tag_past a s e = rw (not-true (eqb a 60) e)

pub to_tag_free : {w : List ℕ} → Each (other 60) w → (r : List ℕ) → to_tag (w ++ r) ≡ to_tag r
to_tag_free no_byte r = refl
to_tag_free (a_byte {a} {w} h k) r = to_tag_past a (w ++ r) h ∙ to_tag_free k r

pub text_free : {b w : List ℕ} → TextCharacter b w → Each (other 60) w
unfolding special other
text_free (TextCharacter.literal {a} k e _) = character_other 60 (omega arith) k (or_left (eqb a 60) (eqb a 38) e)
text_free (TextCharacter.line_end Grammar.pair) = a_byte refl (a_byte refl no_byte)
text_free (TextCharacter.line_end Grammar.lone) = a_byte refl no_byte
text_free (TextCharacter.reference k) = reference_open k

-- an end tag: no `>` before its end
past_on : (a : ℕ) (s : List ℕ) → other 62 a ≡ true → past_tag (a ∷ s) ≡ past_tag s
unfolding past_tag other
past_on a s e = rw (not-true (eqb a 62) e)

pub past_free : {w : List ℕ} → Each (other 62) w → (r : List ℕ) → past_tag (w ++ r) ≡ past_tag r
past_free no_byte r = refl
past_free (a_byte {a} {w} h k) r = past_on a (w ++ r) h ∙ past_free k r

pub past_end : (r : List ℕ) → past_tag (62 ∷ r) ≡ got tt r
unfolding past_tag
past_end r = refl

-- A BYTE OF A TAG that neither ends it nor quotes
unfoldable calm : ℕ → Bool
calm a = not (closing a) && not (quote a)

is_calm : (a : ℕ) → (a ≡ 62 → ⊥) → (a ≡ 47 → ⊥) → (a ≡ 34 → ⊥) → (a ≡ 39 → ⊥) → calm a ≡ true
unfolding calm closing quote
is_calm a f g h k = rw (ne_eqb a 62 f, ne_eqb a 47 g, ne_eqb a 34 h, ne_eqb a 39 k)

impossible : true ≡ false → ⊥
impossible e = clash (cc)

no_name_end : name_byte 62 ≡ true → ⊥
unfolding name_byte letter
no_name_end e = impossible (sym e)

no_name_slash : name_byte 47 ≡ true → ⊥
unfolding name_byte letter
no_name_slash e = impossible (sym e)

name_byte_calm : (a : ℕ) → name_byte a ≡ true → calm a ≡ true
name_byte_calm a h = let x = name_byte_in a h in
    is_calm a (λ e. no_name_end (rw e at h)) (λ e. no_name_slash (rw e at h)) (λ e. omega arith) (λ e. omega arith)

name_start_calm : (a : ℕ) → name_start a ≡ true → calm a ≡ true
name_start_calm a h = let x = name_start_in a h in is_calm a (λ e. omega arith) (λ e. omega arith) (λ e. omega arith) (λ e. omega arith)

blank_calm : (a : ℕ) → blank a ≡ true → calm a ≡ true
blank_calm a h = let x = blank_in a h in is_calm a (λ e. omega arith) (λ e. omega arith) (λ e. omega arith) (λ e. omega arith)

name_calm : {n : List ℕ} → Name n → Each calm n
name_calm (Grammar.name h k _) = a_byte (name_start_calm _ h) (each_map name_byte_calm k)

blanks_calm : {u : List ℕ} → Each blank u → Each calm u
blanks_calm k = each_map blank_calm k

calm_closing : (a : ℕ) → calm a ≡ true → other 62 a ≡ true
unfolding calm closing other
calm_closing a h = not_so (or_left (eqb a 62) (eqb a 47) (not-true _ (go (not (eqb a 62 || eqb a 47)) _ h)))
  where
    go : (t u : Bool) → (t && u) ≡ true → t ≡ true
    go true u e = refl
    go false u e = e

pub name_free : {n : List ℕ} → Name n → Each (other 62) n
name_free h = each_map calm_closing (name_calm h)

pub blanks_free : {u : List ℕ} → Each blank u → Each (other 62) u
blanks_free h = each_map calm_closing (blanks_calm h)

calm_on : (a : ℕ) (s : List ℕ) → calm a ≡ true → tag_from 0 (a ∷ s) ≡ tag_from 0 s
unfolding tag_from calm finishes quoting
calm_on a s h = go (closing a) (quote a) h
  where
    go : (t u : Bool) → (not t && not u) ≡ true → pick t (finish a s) (tag_from (pick u a 0) s) ≡ tag_from 0 s
    go true u e = absurd (impossible (sym e))
    go false true e = absurd (impossible (sym e))
    go false false e = refl

calm_free : {w : List ℕ} → Each calm w → (r : List ℕ) → tag_from 0 (w ++ r) ≡ tag_from 0 r
calm_free no_byte r = refl
calm_free (a_byte {a} {w} h k) r = calm_on a (w ++ r) h ∙ calm_free k r

pub tag_name : {n : List ℕ} → Name n → (r : List ℕ) → tag_from 0 (n ++ r) ≡ tag_from 0 r
tag_name h r = calm_free (name_calm h) r

pub tag_blanks : {u : List ℕ} → Each blank u → (r : List ℕ) → tag_from 0 (u ++ r) ≡ tag_from 0 r
tag_blanks h r = calm_free (blanks_calm h) r

-- values
module _ (q : ℕ) (h : quote q ≡ true) where
  off : eqb q 0 ≡ false
  off = let x = (quote_in q h).0 in ne_eqb q 0 λ e. omega arith

  quoted_on : (a : ℕ) (s : List ℕ) → other q a ≡ true → tag_from q (a ∷ s) ≡ tag_from q s
  unfolding tag_from finishes quoting other
  quoted_on a s e = rw (off, not-true (eqb a q) e)

  quoted_free : {w : List ℕ} → Each (other q) w → (r : List ℕ) → tag_from q (w ++ r) ≡ tag_from q r
  quoted_free no_byte r = refl
  quoted_free (a_byte {a} {w} e k) r = quoted_on a (w ++ r) e ∙ quoted_free k r

  values_free : {bs : List (List ℕ)} {w : List ℕ} → SequenceUnless (ValueCharacter q) parted bs w → (r : List ℕ)
      → tag_from q (w ++ r) ≡ tag_from q r
  values_free none_more r = refl
  values_free (and_more {w = w} {s} k _ t) r = ap (tag_from q) (append_assoc w s r) ∙ quoted_free (value_other q h k) (s ++ r)
      ∙ values_free t r

  unquotes : (s : List ℕ) → tag_from q (q ∷ s) ≡ tag_from 0 s
  unfolding tag_from finishes quoting
  unquotes s = rw (off, eq-eqb q q refl)

  no_closing : closing q ≡ false
  unfolding closing
  no_closing = let x = (quote_in q h).0 in rw (ne_eqb q 62 (λ e. omega arith), ne_eqb q 47 (λ e. omega arith))

  quotes : (s : List ℕ) → tag_from 0 (q ∷ s) ≡ tag_from q s
  unfolding tag_from finishes quoting
  quotes s = rw (no_closing, h)

tag_value : {v w : List ℕ} → Value v w → (r : List ℕ) → tag_from 0 (w ++ r) ≡ tag_from 0 r
tag_value (value q {w = w} h t) r =
    quotes q h ((w ++ (q ∷ [])) ++ r) ∙ ap (tag_from q) (append_assoc w (q ∷ []) r) ∙ values_free q h t (q ∷ r) ∙ unquotes q h r

equals_calm : {w : List ℕ} → Equals w → (r : List ℕ) → tag_from 0 (w ++ r) ≡ tag_from 0 r
equals_calm (equals {u} {v} h k) r =
    ap (tag_from 0) (append_assoc u (61 ∷ v) r) ∙ calm_free (blanks_calm h) (61 ∷ (v ++ r))
    ∙ calm_on 61 (v ++ r) (is_calm 61 (λ e. omega arith) (λ e. omega arith) (λ e. omega arith) (λ e. omega arith))
    ∙ calm_free (blanks_calm k) r

gap_calm : {u : List ℕ} → Gap u → Each calm u
gap_calm (gap h k) = a_byte (blank_calm _ h) (blanks_calm k)

pub tag_attribute : {a : Attribute} {w : List ℕ} → WritesAttribute a w → (r : List ℕ) → tag_from 0 (w ++ r) ≡ tag_from 0 r
tag_attribute (written {u} {n} {e} {v} {w} g m q x) r =
    ap (tag_from 0) (simp append_assoc refl)
    ∙ calm_free (gap_calm g) (n ++ (e ++ (w ++ r))) ∙ tag_name m (e ++ (w ++ r)) ∙ equals_calm q (w ++ r) ∙ tag_value x r

tag_sequence : {l : List Attribute} {w : List ℕ} → Sequence WritesAttribute l w → (r : List ℕ) → tag_from 0 (w ++ r) ≡ tag_from 0 r
tag_sequence no_more r = refl
tag_sequence (one_more {w = w} {s} k t) r = ap (tag_from 0) (append_assoc w s r) ∙ tag_attribute k (s ++ r) ∙ tag_sequence t r

pub tag_attributes : {l : List Attribute} {w : List ℕ} → Attributes l w → (r : List ℕ) → tag_from 0 (w ++ r) ≡ tag_from 0 r
tag_attributes (Grammar.attributes t _ _) r = tag_sequence t r
