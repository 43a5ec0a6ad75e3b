-- A comment in the paper's words: legal characters, no `--`, and no `-` last. The inside of CDATA: legal characters, and no `]]>`.
-- The productions of the grammar say the same.
use Rattle.std.specs.Prelude.{◌≡◌, refl, ◌↔◌, List, [], ◌∷◌, ◌++◌, ℕ, ◌≤◌, ◌<◌, Bool, true, false, eqb}
use Rattle.std.proofs.Common.{append_assoc, arith, eqb-true, ne_eqb}
use Rattle.lists.proofs.Laws.Booleans.{clash, and_left, or_right}
use Rattle.grammar.specs.Bytes.{◌⊹◌, ascii, blank, Sequence, no_more, one_more, begins, parted, closed, SequenceUnless, none_more}
use Rattle.grammar.specs.Bytes.{and_more}
use Rattle.grammar.specs.Characters.{Character, utf8_1, utf8_2, utf8_3, utf8_4, lead1}
use Rattle.grammar.specs.Grammar
use Rattle.grammar.specs.Grammar.{Remark, DataCharacter}
use Rattle.grammar.proofs.Laws.Facts.{lead2_in, lead3_in, lead4_in}
use Rattle.grammar.proofs.Laws.Others.{continues_high, lead3_high, lead4_high}
use Rattle.grammar.proofs.Laws.Sound.{other_whole}

-- the bytes `k` begin at no place of the text
pub data Nowhere (k : List ℕ) : List ℕ → Type 0 where
  nowhere_end : Nowhere k []
  nowhere_more : {a : ℕ} {s : List ℕ} → begins k (a ∷ s) ≡ false → Nowhere k s → Nowhere k (a ∷ s)

-- any legal character
pub data Any : List ℕ → List ℕ → Type 0 where
  any : {a : ℕ} {w : List ℕ} → Character a w → Any [] (a ∷ w)

-- `--` stands nowhere, and `-` is not last
pub record Worded (w : List ℕ) : Type 0 where
  pub many : List (List ℕ)
  pub characters : Sequence Any many w
  pub dashes : Nowhere (ascii "--") (w ⊹ ascii "-")

pub record Produced (w : List ℕ) : Type 0 where
  pub many : List (List ℕ)
  pub remarks : Sequence Remark many w

high : (q b : ℕ) → q ≤ 127 → 127 < b → eqb b q ≡ false
high q b l h = ne_eqb b q λ e. omega arith

-- another byte than the first of the bytes sought
pub past : {q : ℕ} {k : List ℕ} (b : ℕ) {s : List ℕ} → eqb b q ≡ false → Nowhere (q ∷ k) s → Nowhere (q ∷ k) (b ∷ s)
unfolding begins
past {q} {k} b {s} e n = let here : begins (q ∷ k) (b ∷ s) ≡ false = rw e in nowhere_more here n

-- the bytes of a character behind its first are no ASCII
pub tail_past : {q : ℕ} {k : List ℕ} → q ≤ 127 → {a : ℕ} {w : List ℕ} → Character a w → (s : List ℕ) → Nowhere (q ∷ k) s
    → Nowhere (q ∷ k) (w ++ s)
tail_past l (utf8_1 h) s n = n
tail_past {q} l (utf8_2 {b = b} h k) s n = past b (high q b l (continues_high b k)) n
tail_past {q} l (utf8_3 {a} {b} {c} h k m) s n = past b (high q b l (lead3_high a b h)) (past c (high q c l (continues_high c k)) n)
tail_past {q} l (utf8_4 {a} {b} {c} {d} h k m) s n =
    past b (high q b l (lead4_high a b h)) (past c (high q c l (continues_high c k)) (past d (high q d l (continues_high d m)) n))

dash : Character 45 []
unfolding lead1 blank
dash = utf8_1 refl

remarks_characters : {l : List (List ℕ)} {w : List ℕ} → Sequence Remark l w → (k : List (List ℕ)) × Sequence Any k w
remarks_characters no_more = ([], no_more)
remarks_characters (one_more (Grammar.plain h e) t) = let ih = remarks_characters t in (_, one_more (any h) ih.1)
remarks_characters (one_more (Grammar.dashed h e) t) = let ih = remarks_characters t in (_, one_more (any dash) (one_more (any h) ih.1))

remarks_dashes : {l : List (List ℕ)} {w : List ℕ} → Sequence Remark l w → Nowhere (ascii "--") (w ++ ascii "-")
unfolding begins
remarks_dashes no_more = nowhere_more refl nowhere_end
remarks_dashes (one_more (Grammar.plain {a} {w} h e) t) = simp append_assoc (past a e (tail_past (omega arith) h _ (remarks_dashes t)))
remarks_dashes (one_more {s = s} (Grammar.dashed {a} {w} h e) t) =
    simp append_assoc (let here : begins (ascii "--") (45 ∷ a ∷ (w ++ (s ++ ascii "-"))) ≡ false = rw e in
    nowhere_more here (past a e (tail_past (omega arith) h _ (remarks_dashes t))))

pub nowhere_drop : {k : List ℕ} (x y : List ℕ) → Nowhere k (x ++ y) → Nowhere k y
nowhere_drop [] y n = n
nowhere_drop (a ∷ x) y (nowhere_more e n) = nowhere_drop x y n

pub nowhere_first : {k : List ℕ} {a : ℕ} {s : List ℕ} → Nowhere k (a ∷ s) → begins k (a ∷ s) ≡ false
nowhere_first (nowhere_more e n) = e

ascii_alone : {a : ℕ} {w : List ℕ} → Character a w → a ≤ 127 → w ≡ []
ascii_alone (utf8_1 h) l = refl
ascii_alone (utf8_2 {a} h k) l = let q = lead2_in a h in absurd (omega arith)
ascii_alone (utf8_3 {a} {b} h k m) l = let q = lead3_in a b h in absurd (omega arith)
ascii_alone (utf8_4 {a} {b} h k m) l = let q = lead4_in a b h in absurd (omega arith)

-- what is left of a comment gives parts, by itself and behind a dash
abbrev Both : List ℕ → Type 0
Both w = (Nowhere (ascii "--") (w ++ ascii "-") → Produced w) × (Nowhere (ascii "--") (45 ∷ (w ++ ascii "-")) → Produced (45 ∷ w))

no_dashes : (s : List ℕ) → begins (ascii "--") (45 ∷ 45 ∷ s) ≡ false → ⊥
unfolding begins
no_dashes s e = clash (cc)

both_dash : (s : List ℕ) → Both s → Both (45 ∷ s)
both_dash s ih = (ih.1, λ n. absurd (no_dashes (s ++ ascii "-") (nowhere_first n)))

both_plain : {a : ℕ} {w : List ℕ} → Character a w → eqb a 45 ≡ false → (s : List ℕ) → Both s → Both (a ∷ (w ++ s))
both_plain {a} {w} h e s ih = (
  λ n. (let r = ih.0 (nowhere_drop (a ∷ w) (s ++ ascii "-") (rw append_assoc at n)) in
      record { many = _; remarks = one_more (Grammar.plain h e) r.remarks }),
  λ n. (let r = ih.0 (nowhere_drop (45 ∷ a ∷ w) (s ++ ascii "-") (rw append_assoc at n)) in
      record { many = _; remarks = one_more (Grammar.dashed h e) r.remarks }),
)

both_character : {a : ℕ} {w : List ℕ} → Character a w → (t : Bool) → eqb a 45 ≡ t → (s : List ℕ) → Both s → Both (a ∷ (w ++ s))
both_character {a} {w} h false e s ih = both_plain h e s ih
both_character {a} {w} h true e s ih =
    let q = eqb-true a 45 e in
    let z : w ≡ [] = ascii_alone h (omega arith) in
    rw (q, z) (both_dash s ih)

both : {l : List (List ℕ)} {w : List ℕ} → Sequence Any l w → Both w
both no_more = (λ n. record { many = []; remarks = no_more }, λ n. absurd (no_dashes [] (nowhere_first n)))
both (one_more {s = s} (any {a} h) t) = both_character h (eqb a 45) refl s (both t)

pub comment_words : (w : List ℕ) → Worded w ↔ Produced w
comment_words w = (
  λ h. (both h.characters).0 h.dashes,
  λ h. record { many = _; characters = (remarks_characters h.remarks).1; dashes = remarks_dashes h.remarks },
)

-- CDATA: `]]>` stands nowhere in it
pub record DataWorded (w : List ℕ) : Type 0 where
  pub many : List (List ℕ)
  pub characters : Sequence Any many w
  pub brackets : Nowhere (ascii "]]>") w

pub record DataProduced (w : List ℕ) : Type 0 where
  pub many : List (List ℕ)
  pub row : SequenceUnless DataCharacter closed many w

return : Character 13 []
unfolding lead1 blank
return = utf8_1 refl

feed : Character 10 []
unfolding lead1 blank
feed = utf8_1 refl

row_characters : {l : List (List ℕ)} {w : List ℕ} → SequenceUnless DataCharacter closed l w → (k : List (List ℕ)) × Sequence Any k w
row_characters none_more = ([], no_more)
row_characters (and_more (DataCharacter.literal h e) c t) = let ih = row_characters t in (_, one_more (any h) ih.1)
row_characters (and_more (DataCharacter.line_end Grammar.pair) c t) =
    let ih = row_characters t in (_, one_more (any return) (one_more (any feed) ih.1))
row_characters (and_more (DataCharacter.line_end Grammar.lone) c t) = let ih = row_characters t in (_, one_more (any return) ih.1)

row_brackets : {l : List (List ℕ)} {w : List ℕ} → SequenceUnless DataCharacter closed l w → Nowhere (ascii "]]>") w
unfolding closed begins
row_brackets none_more = nowhere_end
row_brackets (and_more {s = s} (DataCharacter.literal {a} {w} h e) c t) =
    nowhere_more (or_right (parted (a ∷ w) s) _ c) (tail_past (omega arith) h s (row_brackets t))
row_brackets (and_more (DataCharacter.line_end Grammar.pair) c t) = nowhere_more refl (nowhere_more refl (row_brackets t))
row_brackets (and_more (DataCharacter.line_end Grammar.lone) c t) = nowhere_more refl (row_brackets t)

-- what is left of CDATA gives characters, by itself and behind a return, which takes the line feed that stands right behind it
abbrev Fed : List ℕ → Type 0
Fed w = (v : List ℕ) → w ≡ 10 ∷ v → Nowhere (ascii "]]>") v → DataProduced v

abbrev Either : List ℕ → Type 0
Either w = (Nowhere (ascii "]]>") w → DataProduced w) × Fed w

data_literal : {a : ℕ} {w : List ℕ} → Character a w → eqb a 13 ≡ false → (s : List ℕ) → Either s → Nowhere (ascii "]]>") (a ∷ (w ++ s))
    → DataProduced (a ∷ (w ++ s))
unfolding closed
data_literal {a} {w} h e s ih n =
    let r = ih.0 (nowhere_drop (a ∷ w) s n) in
    let apart : closed (a ∷ w) s ≡ false = rw (other_whole a w s e) (nowhere_first n) in
    record { many = _; row = and_more (DataCharacter.literal h e) apart r.row }

data_return : (t : Bool) (s : List ℕ) → begins (ascii "\n") s ≡ t → Either s → Nowhere (ascii "]]>") s → DataProduced (13 ∷ s)
unfolding closed parted begins
data_return false s e ih n =
    let apart : closed (ascii "\r") s ≡ false = rw e in
    record { many = _; row = and_more (DataCharacter.line_end Grammar.lone) apart (ih.0 n).row }
data_return true [] e ih n = clash (cc)
data_return true (b ∷ s) e ih n =
    let same : b ≡ 10 = eqb-true b 10 (and_left (eqb b 10) true e) in
    let r = ih.1 s (rw same refl) (nowhere_drop (b ∷ []) s n) in
    rw same (record { many = _; row = and_more (DataCharacter.line_end Grammar.pair) refl r.row })

data_character : {a : ℕ} {w : List ℕ} → Character a w → (t : Bool) → eqb a 13 ≡ t → (s : List ℕ) → Either s
    → Nowhere (ascii "]]>") (a ∷ (w ++ s)) → DataProduced (a ∷ (w ++ s))
data_character h false e s ih n = data_literal h e s ih n
data_character {a} {w} h true e s ih n =
    let q = eqb-true a 13 e in
    let z : w ≡ [] = ascii_alone h (omega arith) in
    let m = nowhere_drop (a ∷ w) s n in
    rw (q, z) (data_return (begins (ascii "\n") s) s refl ih m)

data_fed : {a : ℕ} {w : List ℕ} → Character a w → (s : List ℕ) → Either s → Fed (a ∷ (w ++ s))
data_fed {a} {w} h s ih v e n =
    let q : a ≡ 10 = cc in
    let z : w ≡ [] = ascii_alone h (omega arith) in
    let whole : a ∷ s ≡ 10 ∷ v = rw z at e in
    let left : v ≡ s = cc in
    rw left (ih.0 (rw left at n))

either : {l : List (List ℕ)} {w : List ℕ} → Sequence Any l w → Either w
either no_more = (λ n. record { many = []; row = none_more }, λ v e n. clash (cc))
either (one_more {s = s} (any {a} h) t) = (data_character h (eqb a 13) refl s (either t), data_fed h s (either t))

pub data_words : (w : List ℕ) → DataWorded w ↔ DataProduced w
data_words w = (
  λ h. (either h.characters).0 h.brackets,
  λ h. record { many = _; characters = (row_characters h.row).1; brackets = row_brackets h.row },
)
