-- `]]>` in the paper's words: the three bytes stand nowhere in text. Contents are comments, CDATA, elements, and stretches of characters
-- between them; the grammar's productions, which look at what stands behind each character, say the same.
use Rattle.std.specs.Prelude.{◌≡◌, refl, ◌↔◌, List, [], ◌∷◌, ◌++◌, ℕ, Bool, true, false, ◌&&◌, eqb}
use Rattle.std.proofs.Common.{subst, append_assoc, append-nil, arith}
use Rattle.grammar.specs.Bytes.{◌⊹◌, ascii, SequenceUnless, none_more, and_more, begins, parted}
use Rattle.grammar.specs.Document.{Contents, nothing, child, merged, Element}
use Rattle.grammar.specs.Grammar
use Rattle.grammar.specs.Grammar.{TextCharacter, Comment, CData, WritesElement, WritesContents}
use Rattle.grammar.proofs.Laws.Words.{Nowhere, nowhere_end, nowhere_more, nowhere_first, nowhere_drop, tail_past}
use Rattle.grammar.proofs.Laws.Tokens.{parted_apart}
use Rattle.grammar.proofs.Laws.Sound.{begins_less, parted_less}

-- a stretch of text ends where the contents end, or a `<` stands
pub data Ends : List ℕ → Type 0 where
  at_end : Ends []
  at_mark : {s : List ℕ} → Ends (60 ∷ s)

-- the characters of a stretch, before what follows it
unfoldable pub runs : List (List ℕ) → Contents → Contents
runs [] c = c
runs (b ∷ bs) c = merged b (runs bs c)

-- contents, with text in stretches: `]]>` stands nowhere in one, and a carriage return with its line feed is one character
pub data Stretched (d : ℕ) : Contents → List ℕ → Type 0 where
  none : Stretched d nothing []
  remark : {c : Contents} {w s : List ℕ} → Comment w → Stretched d c s → Stretched d c (w ⊹ s)
  stretch : {c : Contents} {bs : List (List ℕ)} {w s : List ℕ} → SequenceUnless TextCharacter parted bs w → Nowhere (ascii "]]>") w → Ends s
      → Stretched d c s → Stretched d (runs bs c) (w ⊹ s)
  marked : {c : Contents} {b w s : List ℕ} → CData b w → Stretched d c s → Stretched d (merged b c) (w ⊹ s)
  inner : {e : Element} {c : Contents} {w s : List ℕ} → WritesElement d e w → Stretched d c s → Stretched d (child e c) (w ⊹ s)

under : (t : Bool) {p q : Bool} → (p ≡ false → q ≡ false) → (t && p) ≡ false → (t && q) ≡ false
under true f e = f e
under false f e = refl

-- no byte is `<`
data Unmarked : List ℕ → Type 0 where
  no_byte : Unmarked []
  a_byte : {a : ℕ} {k : List ℕ} → eqb 60 a ≡ false → Unmarked k → Unmarked (a ∷ k)

-- nor, where a stretch ends, does the front with what follows it
more : {k : List ℕ} (x : List ℕ) {s : List ℕ} → Unmarked k → begins k x ≡ false → Ends s → begins k (x ++ s) ≡ false
unfolding begins
more x no_byte e t = e
more [] (a_byte h n) e at_end = refl
more [] (a_byte h n) e at_mark = rw h
more (b ∷ x) (a_byte {a} h n) e t = under (eqb b a) (λ f. more x n f t) e

unmarked : Unmarked (ascii "]]>")
unmarked = a_byte refl (a_byte refl (a_byte refl no_byte))

-- a character in front of a stretch
fronted : {b w : List ℕ} → TextCharacter b w → (s : List ℕ) → begins (ascii "]]>") (w ++ s) ≡ false → Nowhere (ascii "]]>") s
    → Nowhere (ascii "]]>") (w ++ s)
unfolding begins
fronted (Grammar.literal h e k) s f n = nowhere_more f (tail_past (omega arith) h s n)
fronted (Grammar.line_end Grammar.pair) s f n = nowhere_more refl (nowhere_more refl n)
fronted (Grammar.line_end Grammar.lone) s f n = nowhere_more refl n
fronted (Grammar.reference Grammar.amp) s f n =
    nowhere_more refl (nowhere_more refl (nowhere_more refl (nowhere_more refl (nowhere_more refl n))))
fronted (Grammar.reference Grammar.lt) s f n = nowhere_more refl (nowhere_more refl (nowhere_more refl (nowhere_more refl n)))
fronted (Grammar.reference Grammar.gt) s f n = nowhere_more refl (nowhere_more refl (nowhere_more refl (nowhere_more refl n)))
fronted (Grammar.reference Grammar.quot) s f n =
    nowhere_more refl (nowhere_more refl (nowhere_more refl (nowhere_more refl (nowhere_more refl (nowhere_more refl n)))))
fronted (Grammar.reference Grammar.apos) s f n =
    nowhere_more refl (nowhere_more refl (nowhere_more refl (nowhere_more refl (nowhere_more refl (nowhere_more refl n)))))

-- a stretch of one character
alone : {d : ℕ} {c : Contents} {b w s : List ℕ} → TextCharacter b w → parted w s ≡ false → begins (ascii "]]>") (w ⊹ s) ≡ false → Ends s
    → Stretched d c s → Stretched d (merged b c) (w ⊹ s)
unfolding runs
alone {w = w} {s = s} h p f e t =
    let f₀ : begins (ascii "]]>") (w ++ []) ≡ false = rw append-nil (begins_less (ascii "]]>") w s f) in
    let one = stretch (and_more h (parted_less w [] s p) none_more) (fronted h [] f₀ nowhere_end) e t in
    rw append-nil at one

comment_ends : {w : List ℕ} (s : List ℕ) → Comment w → Ends (w ++ s)
comment_ends s (Grammar.comment q) = at_mark

data_ends : {b w : List ℕ} (s : List ℕ) → CData b w → Ends (w ++ s)
data_ends s (Grammar.cdata q) = at_mark

element_ends : {d : ℕ} {e : Element} {w : List ℕ} (s : List ℕ) → WritesElement d e w → Ends (w ++ s)
element_ends s (Grammar.full n a b c v) = at_mark
element_ends s (Grammar.empty n a b) = at_mark

longer : {d : ℕ} {c : Contents} {b w s : List ℕ} → TextCharacter b w → parted w s ≡ false → begins (ascii "]]>") (w ⊹ s) ≡ false
    → Stretched d c s → Stretched d (merged b c) (w ⊹ s)
unfolding runs
longer h p f none = alone h p f at_end none
longer h p f (remark {s = s} q t) = alone h p f (comment_ends s q) (remark q t)
longer h p f (marked {s = s} q t) = alone h p f (data_ends s q) (marked q t)
longer h p f (inner {s = s} q t) = alone h p f (element_ends s q) (inner q t)
longer {w = w} h p f (stretch {w = v} {s = s} q n e t) =
    let f₀ : begins (ascii "]]>") (w ++ v) ≡ false = begins_less (ascii "]]>") (w ++ v) s (rw append_assoc f) in
    let whole = stretch (and_more h (parted_less w v s p) q) (fronted h v f₀ n) e t in
    rw append_assoc at whole

stretches : {d : ℕ} {c : Contents} {k : List ℕ} → WritesContents d c k → Stretched d c k
stretches Grammar.none = none
stretches (Grammar.remark q t) = remark q (stretches t)
stretches (Grammar.character h p f t) = longer h p f (stretches t)
stretches (Grammar.marked q t) = marked q (stretches t)
stretches (Grammar.inner q t) = inner q (stretches t)

-- each character of a stretch, with what stands behind it
ahead : {b w : List ℕ} → TextCharacter b w → (v : List ℕ) {s : List ℕ} → Nowhere (ascii "]]>") (w ++ v) → Ends s
    → begins (ascii "]]>") (w ++ (v ++ s)) ≡ false
unfolding begins
ahead (Grammar.literal {a} {w} h e k) v {s} n t =
    let whole : begins (ascii "]]>") (a ∷ ((w ++ v) ++ s)) ≡ false = more (a ∷ (w ++ v)) unmarked (nowhere_first n) t in
    subst (λ (x : List ℕ). begins (ascii "]]>") (a ∷ x) ≡ false) (append_assoc w v s) whole
ahead (Grammar.line_end Grammar.pair) v n t = refl
ahead (Grammar.line_end Grammar.lone) v n t = refl
ahead (Grammar.reference Grammar.amp) v n t = refl
ahead (Grammar.reference Grammar.lt) v n t = refl
ahead (Grammar.reference Grammar.gt) v n t = refl
ahead (Grammar.reference Grammar.quot) v n t = refl
ahead (Grammar.reference Grammar.apos) v n t = refl

-- where a stretch ends, no line feed stands behind its last character
kept : (w v : List ℕ) {s : List ℕ} → Ends s → parted w v ≡ false → parted w (v ++ s) ≡ false
kept w v at_end p = rw append-nil p
kept w v (at_mark {s}) p = parted_apart w v 60 s refl p

characters : {d : ℕ} {c : Contents} {bs : List (List ℕ)} {w s : List ℕ} → SequenceUnless TextCharacter parted bs w → Nowhere (ascii "]]>") w
    → Ends s
    → WritesContents d c s → WritesContents d (runs bs c) (w ⊹ s)
unfolding runs
characters none_more n e t = t
characters {s = s} (and_more {w = w} {s = v} h p q) n e t =
    let rest = characters q (nowhere_drop w v n) e t in
    rw append_assoc (Grammar.character h (kept w v e p) (ahead h v n e) rest)

writes : {d : ℕ} {c : Contents} {k : List ℕ} → Stretched d c k → WritesContents d c k
writes none = Grammar.none
writes (remark q t) = Grammar.remark q (writes t)
writes (stretch q n e t) = characters q n e (writes t)
writes (marked q t) = Grammar.marked q (writes t)
writes (inner q t) = Grammar.inner q (writes t)

pub text_words : (d : ℕ) (c : Contents) (k : List ℕ) → WritesContents d c k ↔ Stretched d c k
text_words d c k = (stretches, writes)
